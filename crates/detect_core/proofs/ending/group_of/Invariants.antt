use Rattle.std.proofs.Common.{◌≡◌, map, take}
use Rattle.plan_resolve.specs.Plan.{at_places}
use Rattle.detect_core.specs.Search.{group_rows}
use Rattle.detect_core.proofs.ending.group_of.Given as goal

abbrev pub invariant-loop-place : goal.invariant-loop-place
invariant-loop-place l = l.group ≡ group_rows (map (λ row. row.key) (at_places l.rows (take l.place-index l.places)))
