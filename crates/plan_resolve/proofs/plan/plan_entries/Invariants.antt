use Rattle.std.proofs.Common.{◌≡◌, map, take}
use Rattle.plan_resolve.specs.Plan.{plan_entry}
use Rattle.plan_resolve.proofs.plan.plan_entries.Given as goal

abbrev pub invariant-loop-name : goal.invariant-loop-name
invariant-loop-name l = l.entries ≡ map (plan_entry l.kept) (map (λ name. name.now) (take l.name-index l.names))
