use Rattle.std.proofs.Common.{◌≡◌, ◌++◌, length}
use Rattle.tree_canon.specs.Pieces.{bytes_left}
use Rattle.tree_canon.specs.Spelling.{spelling_of}
use Rattle.tree_store.proofs.Spelled.{HasAppended}
use Rattle.tree_store.proofs.store.append_tree.Given as goal

abbrev pub invariant-loop-alloc : goal.invariant-loop-alloc
invariant-loop-alloc g l = record {
  appended : HasAppended (g.W.World.tree l.fn.world) (g.W.World.tree l.world) l.path l.piece (bytes_left l.pieces)
      (spelling_of l.tree);
  files : g.W.World.file_faults l.world ≡ g.W.World.file_faults l.fn.world;
  children : g.W.World.child_faults l.world ≡ g.W.World.child_faults l.fn.world;
  runs : g.W.World.runs l.world ≡ g.W.World.runs l.fn.world;
  misused : g.W.World.misused l.world ≡ g.W.World.misused l.fn.world;
}

abbrev pub decreases-loop-alloc : goal.decreases-loop-alloc
decreases-loop-alloc g l = length (l.piece ++ bytes_left l.pieces)
