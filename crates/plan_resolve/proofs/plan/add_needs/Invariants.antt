use Rattle.std.proofs.Common.{◌≡◌, ◌++◌, take}
use Rattle.std.specs.List.{filter}
use Rattle.std.specs.Str.{bytes_eq}
use Rattle.plan_resolve.proofs.plan.add_needs.Given as goal

abbrev pub invariant-loop-need : goal.invariant-loop-need
invariant-loop-need l = l.found ≡ l.initial.found ++ filter (λ need. bytes_eq need.name l.name)
    (take l.need-index l.needs)
