use Rattle.std.proofs.Common.{◌∙◌, ap, length, refl}
use Rattle.std.specs.Option.{option_map}
use Rattle.cnb_world.specs.Tree.{is_file, item_at}
use Rattle.tree_canon.specs.Pieces.{bytes_left}
use Rattle.tree_canon.specs.Spelling.{spelling_of}
use Rattle.tree_store.proofs.Kept.{may_begin, may_go_on}
use Rattle.tree_store.proofs.Spelled.{alike_first, alike_on}
use Rattle.tree_store.proofs.store.has_bytes.Goals as goal

pub loop-piece-init : goal.loop-piece-init
loop-piece-init g c = record {
  alike = alike_first (g.W.World.tree c.args.world.now) c.args.path.now (spelling_of c.args.tree.now)
      (bytes_left c.in_ok-pieces.pieces) (bytes_left c.next.new.self) c.in_ok-piece.piece c.in_ok-next.next
      (bytes_left c.next-2.new.self) c.in_ok-pieces.ensures.all c.in_ok-pieces.ensures.few c.in_ok-piece.ensures.next
      c.in_ok-next.ensures.next c.in_ok-next.ensures.end;
  tree = refl;
  files = refl;
  children = refl;
  runs = refl;
  misused = may_begin (option_map (λ t. is_file (item_at t c.args.path.now)) (g.W.World.tree c.args.world.now))
      (g.W.World.misused c.args.world.now);
}

pub loop-piece-preserved : goal.loop-piece-preserved
loop-piece-preserved g c = record {
  alike = alike_on (g.W.World.tree c.args.world.now) (g.W.World.tree c.loop-piece.world) c.args.path.now
      (spelling_of c.args.tree.now) c.loop-piece.at (length c.as_slice-in-loop-piece.result.now) c.loop-piece.piece
      c.loop-piece.next (bytes_left c.loop-piece.pieces) c.in_ok-next-2.next
      (bytes_left c.next-in-loop-piece-2.new.self)
      c.in_ok-has_piece.field-0 c.loop-piece.invariant.alike c.loop-piece.invariant.tree
      (ap length c.as_slice-in-loop-piece.ensures) c.if-not-branch.false c.in_ok-has_piece.ensures.told
      c.in_ok-next-2.ensures.next c.in_ok-next-2.ensures.end;
  tree = c.in_ok-has_piece.ensures.leaves.files ∙ c.loop-piece.invariant.tree;
  files = c.in_ok-has_piece.ensures.leaves.counts ∙ c.loop-piece.invariant.files;
  children = c.in_ok-has_piece.ensures.leaves.children ∙ c.loop-piece.invariant.children;
  runs = c.in_ok-has_piece.ensures.leaves.runs ∙ c.loop-piece.invariant.runs;
  misused = may_go_on (g.W.World.tree c.args.world.now) (g.W.World.tree c.loop-piece.world) c.args.path.now
      (g.W.World.misused c.args.world.now) (g.W.World.misused c.loop-piece.world)
      (g.W.World.misused c.has_piece.new.world) c.loop-piece.invariant.tree c.loop-piece.invariant.misused
      c.in_ok-has_piece.ensures.misused;
}
