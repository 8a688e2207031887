use Rattle.std.proofs.Common.{◌≡◌, take}
use Rattle.plan_resolve.specs.Plan.{at_places, with_keys}
use Rattle.plan_resolve.proofs.kept_rows.kept_rows.Given as goal

abbrev pub invariant-loop-place : goal.invariant-loop-place
invariant-loop-place l = l.kept.items ≡ at_places (with_keys l.rows l.trial) (take l.place-index l.places)
