use Rattle.std.proofs.Common.{◌≡◌, map, take}
use Rattle.store_prune.proofs.digits.row_digests.Given as goal

abbrev pub invariant-loop-row : goal.invariant-loop-row
invariant-loop-row l = l.digests ≡ map (λ row. row.digest) (take l.row-index l.rows)
