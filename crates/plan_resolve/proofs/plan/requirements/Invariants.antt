use Rattle.std.proofs.Common.{◌≡◌, take}
use Rattle.std.specs.List.{filter, flat_map}
use Rattle.std.specs.Str.{bytes_eq}
use Rattle.plan_resolve.proofs.plan.requirements.Given as goal

abbrev pub invariant-loop-row : goal.invariant-loop-row
invariant-loop-row l = l.needs ≡ flat_map (λ k. filter (λ need. bytes_eq need.name l.name) k.row.needs)
    (take l.row-index l.kept)
