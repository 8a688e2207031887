use Rattle.std.proofs.Common.{◌≡◌, ◌++◌, map, take}
use Rattle.store_prune.proofs.documents.push_layers.Given as goal

abbrev pub invariant-loop-row : goal.invariant-loop-row
invariant-loop-row l = l.named ≡ l.initial.named ++ map (λ row. row.digest) (take l.row-index l.layers)
