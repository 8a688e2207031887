use Rattle.std.proofs.Common.{◌≡◌, ◌++◌, length}
use Rattle.std.specs.Option.{option_map}
use Rattle.cnb_world.specs.Calls.{MayMisuse}
use Rattle.cnb_world.specs.Tree.{item_at, is_file}
use Rattle.tree_canon.specs.Pieces.{bytes_left}
use Rattle.tree_canon.specs.Spelling.{spelling_of}
use Rattle.tree_store.proofs.Spelled.{IsAlike}
use Rattle.tree_store.proofs.store.has_bytes.Given as goal

abbrev pub invariant-loop-piece : goal.invariant-loop-piece
invariant-loop-piece g l = record {
  alike : IsAlike (g.W.World.tree l.fn.world) l.path (spelling_of l.tree) l.at l.piece l.next (bytes_left l.pieces);
  tree : g.W.World.tree l.world ≡ g.W.World.tree l.fn.world;
  files : g.W.World.file_faults l.world ≡ g.W.World.file_faults l.fn.world;
  children : g.W.World.child_faults l.world ≡ g.W.World.child_faults l.fn.world;
  runs : g.W.World.runs l.world ≡ g.W.World.runs l.fn.world;
  misused : MayMisuse (option_map (λ t. is_file (item_at t l.path)) (g.W.World.tree l.fn.world))
      (g.W.World.misused l.fn.world) (g.W.World.misused l.world);
}

abbrev pub decreases-loop-piece : goal.decreases-loop-piece
decreases-loop-piece g l = length (l.next ++ bytes_left l.pieces)
