use Rattle.std.proofs.Common.{◌≡◌, take, map}
use Rattle.std.specs.List.{flat_map}
use Rattle.plan_resolve.specs.Plan.{names_of}
use Rattle.plan_resolve.proofs.plan.all_names.Given as goal

abbrev pub invariant-loop-row : goal.invariant-loop-row
invariant-loop-row l = map (λ name. name.now) l.names.items ≡ flat_map names_of (take l.row-index l.kept)
