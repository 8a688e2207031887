use Rattle.std.proofs.Common.{◌∙◌, refl}
use Rattle.tree_canon.specs.Pieces.{bytes_left}
use Rattle.tree_canon.specs.Spelling.{spelling_of}
use Rattle.cnb_world.proofs.Trees.{on_err}
use Rattle.tree_store.proofs.Spelled.{append_right, appended_on, none_appended, part_appended, whole_appended}
use Rattle.tree_store.proofs.store.append_tree.Goals as goal

pub loop-alloc-init : goal.loop-alloc-init
loop-alloc-init g c = record {
  appended = none_appended (g.W.World.tree c.args.world.now) c.args.path.now (bytes_left c.in_ok-pieces.pieces)
      c.in_ok-piece.piece (bytes_left c.next.new.self) (spelling_of c.args.tree.now) c.in_ok-pieces.ensures
      c.in_ok-piece.ensures.next c.in_ok-piece.ensures.end;
  files = refl;
  children = refl;
  runs = refl;
  misused = refl;
}

pub returns-in_err-append-clause-err : goal.returns-in_err-append-clause-err
returns-in_err-append-clause-err g c = on_err _
    (part_appended (g.W.World.tree c.args.world.now) (g.W.World.tree c.loop-alloc.world) _ c.args.path.now
    c.loop-alloc.piece (bytes_left c.loop-alloc.pieces) (spelling_of c.args.tree.now)
    c.as_slice-in-loop-alloc.result.now c.as_slice-in-loop-alloc.ensures c.loop-alloc.invariant.appended
    c.requires c.in_err-append.ensures.err)

pub returns-in_err-append-clause-misused : goal.returns-in_err-append-clause-misused
returns-in_err-append-clause-misused g c = append_right (g.W.World.tree c.args.world.now)
    (g.W.World.tree c.loop-alloc.world) c.args.path.now c.loop-alloc.piece (bytes_left c.loop-alloc.pieces)
    (spelling_of c.args.tree.now) c.append.result _ _ _ c.loop-alloc.invariant.appended c.requires
    c.loop-alloc.invariant.misused c.append.ensures.misused

pub returns-in_err-piece-2-clause-err : goal.returns-in_err-piece-2-clause-err
returns-in_err-piece-2-clause-err g c = on_err _
    (whole_appended (g.W.World.tree c.args.world.now) (g.W.World.tree c.loop-alloc.world) _ c.args.path.now
    c.loop-alloc.piece (bytes_left c.loop-alloc.pieces) (spelling_of c.args.tree.now)
    c.as_slice-in-loop-alloc.result.now c.as_slice-in-loop-alloc.ensures c.loop-alloc.invariant.appended
    c.requires c.in_ok-append.ensures.ok)

pub loop-alloc-preserved : goal.loop-alloc-preserved
loop-alloc-preserved g c = record {
  appended = appended_on (g.W.World.tree c.args.world.now) (g.W.World.tree c.loop-alloc.world) _ c.args.path.now
      c.loop-alloc.piece (bytes_left c.loop-alloc.pieces) c.in_ok-piece-2.piece
      (bytes_left c.next-in-loop-alloc.new.self)
      (spelling_of c.args.tree.now) c.as_slice-in-loop-alloc.result.now c.as_slice-in-loop-alloc.ensures
      c.loop-alloc.invariant.appended c.in_ok-append.ensures.ok c.in_ok-piece-2.ensures.next
      c.in_ok-piece-2.ensures.end;
  files = c.in_ok-append.ensures.files ∙ c.loop-alloc.invariant.files;
  children = c.in_ok-append.ensures.children ∙ c.loop-alloc.invariant.children;
  runs = c.in_ok-append.ensures.runs ∙ c.loop-alloc.invariant.runs;
  misused = append_right (g.W.World.tree c.args.world.now)
      (g.W.World.tree c.loop-alloc.world) c.args.path.now c.loop-alloc.piece (bytes_left c.loop-alloc.pieces)
      (spelling_of c.args.tree.now) c.append.result _ _ _ c.loop-alloc.invariant.appended c.requires
      c.loop-alloc.invariant.misused c.append.ensures.misused;
}
