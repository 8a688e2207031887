use Rattle.std.proofs.Common.{◌++◌, length}
use Rattle.tree_canon.specs.Pieces.{bytes_left}
use Rattle.tree_canon.proofs.Hashed.{HasHashed}
use Rattle.tree_canon.proofs.digest.Digest.of_tree.Given as goal

abbrev pub invariant-loop-alloc : goal.invariant-loop-alloc
invariant-loop-alloc l = HasHashed l.hasher l.piece (bytes_left l.pieces) l.fn.tree

abbrev pub decreases-loop-alloc : goal.decreases-loop-alloc
decreases-loop-alloc l = length (l.piece ++ bytes_left l.pieces)
