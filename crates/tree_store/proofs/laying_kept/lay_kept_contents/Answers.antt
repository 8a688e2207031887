use Rattle.std.proofs.Common.{◌≡◌, ◌∙◌, refl, ap, subst, arith, Ok, Err, [], ◌++◌, drop, take}
use Rattle.std.proofs.lemmas.Result.{err_from_is_err_and}
use Rattle.cnb_world.specs.Tree.{can_read, is_within}
use Rattle.steps.specs.Outside.{seen}
use Rattle.tree_canon.specs.declared.node.Node.TheVariants.{File}
use Rattle.tree_store.specs.Laying.{node_laid}
use Rattle.tree_store.specs.Right.{way_to}
use Rattle.tree_store.specs.Source.{source_seen}
use Rattle.tree_store.proofs.Ahead.{does_called, lays_on, lays_stop, leaves_called, leaves_laid, leaves_stop}
use Rattle.tree_store.proofs.Ahead.{leaves_then, none_are, plain_path, reads_stop, told_plain, untold_by}
use Rattle.tree_store.proofs.Around.{appended_so}
use Rattle.tree_store.proofs.Contents.{ContentsLeft, contents_begun, contents_done, contents_more, piece_ahead}
use Rattle.tree_store.proofs.Contents.{piece_laid, piece_size}
use Rattle.tree_store.proofs.PartlyLaid.{file_partly}
use Rattle.tree_store.proofs.Partly.{partly_then}
use Rattle.tree_store.proofs.KeptPartly.{contents_cut, contents_partly, empty_partly, partly_unread}
use Rattle.tree_store.proofs.Takes.{contents_first, contents_last, contents_next}
use Rattle.tree_store.proofs.Ways.{when_ok}
use Rattle.tree_store.proofs.laying_kept.lay_kept_contents.Goals as goal

pub returns-in_err-or_blame-clause-leaves : goal.returns-in_err-or_blame-clause-leaves
returns-in_err-or_blame-clause-leaves g c =
    let exit = err_from_is_err_and c.from_residual.result c.from_residual.ensures.1 in
    rw (exit.1, exit.2) (leaves_laid g.W.World c.args.path.now _ c.lay_file.result (Err _) _ _
    (way_to c.args.path.now) c.lay_file.ensures.files c.in_err-or_blame.ensures.counts
    c.in_err-or_blame.ensures.blames c.lay_file.ensures.children c.lay_file.ensures.around
    (λ are. c.lay_file.ensures.right (told_plain _ c.args.path.now
    (plain_path c.args.path.now _ c.requires.apart)) are))

pub loop-left-init : goal.loop-left-init
loop-left-init g c = record {
  leaves = leaves_laid g.W.World c.args.path.now _ c.lay_file.result (Ok tt) _ _
      (way_to c.args.path.now) c.lay_file.ensures.files c.in_ok-or_blame.ensures.counts tt
      c.lay_file.ensures.children c.lay_file.ensures.around
      (λ are. c.lay_file.ensures.right (told_plain _ c.args.path.now
      (plain_path c.args.path.now _ c.requires.apart)) are);
  laid = λ bytes rest is. subst (λ n. ContentsLeft c.args.exec c.args.path.now bytes rest n
      (source_seen g.O.Origin.state c.args.source.now)
      (seen g.W.World c.args.world.now) (source_seen g.O.Origin.state c.args.source.now)
      (seen g.W.World c.lay_file.new.world)) is
      (contents_begun c.args.exec c.args.path.now bytes rest _ _ _ _
      (does_called c.args.path.now (bytes ++ rest) (source_seen g.O.Origin.state c.args.source.now)
      (node_laid (File c.args.exec []) c.args.path.now) (way_to c.args.path.now) [] c.lay_file.result (Ok tt)
      (seen g.W.World c.args.world.now) (seen g.W.World c.lay_file.new.world) c.requires.apart
      c.lay_file.ensures.ok c.in_ok-or_blame.ensures.ok tt c.lay_file.ensures.around
      (λ are. c.lay_file.ensures.right (told_plain _ c.args.path.now
      (plain_path c.args.path.now _ c.requires.apart)) are) (λ is are. none_are _)));
  taken = contents_first c.args.exec c.args.path.now c.args.len _ _ _
      (when_ok c.lay_file.result c.in_ok-or_blame.ensures.ok c.lay_file.ensures.ok);
}

pub returns-in_err-piece-clause-leaves : goal.returns-in_err-piece-clause-leaves
returns-in_err-piece-clause-leaves g c =
    let exit = err_from_is_err_and c.from_residual-in_err-piece.result c.from_residual-in_err-piece.ensures.1 in
    rw (exit.1, exit.2) (leaves_then c.loop-left.invariant.leaves
    (leaves_stop c.args.path.now _ _ _ _ _ (c.in_err-piece.ensures.leaves c.args.path.now)))

pub returns-in_err-piece-clause-lays : goal.returns-in_err-piece-clause-lays
returns-in_err-piece-clause-lays g c = λ bytes rest is.
    let exit = err_from_is_err_and c.from_residual-in_err-piece.result c.from_residual-in_err-piece.ensures.1 in
    let h = c.loop-left.invariant.laid bytes rest is in
    rw (exit.1, exit.2) (lays_stop (lays_on (piece_ahead c.args.exec c.args.path.now bytes rest c.loop-left.left
    c.next_size-size.result _ _ _ _ h)
    (reads_stop (λ read. read ≡ take c.next_size-size.result h.more)
    (λ done. Unit {0}) {rest = rest} {c2 = λ files. files} {w2 = []}
    (c.in_err-piece.ensures.reads (take c.next_size-size.result h.more)
    (drop c.next_size-size.result h.more ++ rest) []
    (piece_size h.more c.loop-left.left c.next_size-size.result h.count c.next_size-size.ensures.within)))))

pub returns-in_err-or_blame-2-clause-leaves : goal.returns-in_err-or_blame-2-clause-leaves
returns-in_err-or_blame-2-clause-leaves g c =
    let exit = err_from_is_err_and c.from_residual-in_err-or_blame-2.result
    c.from_residual-in_err-or_blame-2.ensures.1 in
    rw (exit.1, exit.2) (leaves_then c.loop-left.invariant.leaves
    (leaves_then (c.in_ok-piece.ensures.leaves c.args.path.now)
    (leaves_called g.W.World c.args.path.now _ c.append.result
    (Err _) _ _ c.append.ensures.files c.in_err-or_blame-2.ensures.counts c.in_err-or_blame-2.ensures.blames
    c.append.ensures.children
    (appended_so g.W.World _ _ c.append.result _ _ c.append.ensures.ok c.append.ensures.err c.append.ensures.runs
    c.append.ensures.misused)
    (untold_by _ (λ t. can_read t c.args.path.now) c.append.result _ _ c.append.ensures.misused))))

pub returns-in_err-or_blame-2-clause-lays : goal.returns-in_err-or_blame-2-clause-lays
returns-in_err-or_blame-2-clause-lays g c = λ bytes rest is.
    let exit = err_from_is_err_and c.from_residual-in_err-or_blame-2.result
    c.from_residual-in_err-or_blame-2.ensures.1 in
    let h = c.loop-left.invariant.laid bytes rest is in
    rw (exit.1, exit.2) (lays_stop (piece_laid c.args.exec c.args.path.now (bytes ++ rest) h.written
    (take c.next_size-size.result h.more) (drop c.next_size-size.result h.more) rest
    (way_to c.args.path.now) _ _ _ _ _ (seen g.W.World c.field.new.world)
    (seen g.W.World c.append.new.self) c.as_slice.result.now c.in_ok-piece.piece c.append.result (Err _)
    (plain_path c.args.path.now _ c.requires.apart)
    (ap (is_within c.args.path.now) ((c.in_ok-piece.ensures.leaves c.args.path.now).stays
    ∙ c.loop-left.invariant.leaves.stays) ∙ c.requires.apart)
    (piece_ahead c.args.exec c.args.path.now bytes rest c.loop-left.left c.next_size-size.result _ _ _ _ h)
    (c.in_ok-piece.ensures.reads (take c.next_size-size.result h.more)
    (drop c.next_size-size.result h.more ++ rest) []
    (piece_size h.more c.loop-left.left c.next_size-size.result h.count c.next_size-size.ensures.within))
    c.as_slice.ensures c.append.ensures.ok tt c.in_err-or_blame-2.ensures.free
    (appended_so g.W.World _ _ c.append.result _ _ c.append.ensures.ok c.append.ensures.err c.append.ensures.runs
    c.append.ensures.misused) c.append.ensures.misused))

pub loop-left-preserved : goal.loop-left-preserved
loop-left-preserved g c = record {
  leaves = leaves_then c.loop-left.invariant.leaves (leaves_then (c.in_ok-piece.ensures.leaves c.args.path.now)
      (leaves_called g.W.World c.args.path.now _ c.append.result
      (Ok tt) _ _ c.append.ensures.files c.in_ok-or_blame-2.ensures.counts tt c.append.ensures.children
      (appended_so g.W.World _ _ c.append.result _ _ c.append.ensures.ok c.append.ensures.err
      c.append.ensures.runs c.append.ensures.misused)
      (untold_by _ (λ t. can_read t c.args.path.now) c.append.result _ _ c.append.ensures.misused)));
  laid = λ bytes rest is.
      let h = c.loop-left.invariant.laid bytes rest is in
      contents_more c.args.exec c.args.path.now bytes rest c.loop-left.left c.next_size-size.result _ _ _ _ _ _ h
      c.next_size-size.ensures.within
      (piece_laid c.args.exec c.args.path.now (bytes ++ rest) h.written (take c.next_size-size.result h.more)
      (drop c.next_size-size.result h.more) rest (way_to c.args.path.now) _ _ _ _ _
      (seen g.W.World c.field.new.world) (seen g.W.World c.append.new.self) c.as_slice.result.now
      c.in_ok-piece.piece c.append.result (Ok tt)
      (plain_path c.args.path.now _ c.requires.apart)
      (ap (is_within c.args.path.now) ((c.in_ok-piece.ensures.leaves c.args.path.now).stays
      ∙ c.loop-left.invariant.leaves.stays) ∙ c.requires.apart)
      (piece_ahead c.args.exec c.args.path.now bytes rest c.loop-left.left c.next_size-size.result _ _ _ _ h)
      (c.in_ok-piece.ensures.reads (take c.next_size-size.result h.more)
      (drop c.next_size-size.result h.more ++ rest) []
      (piece_size h.more c.loop-left.left c.next_size-size.result h.count c.next_size-size.ensures.within))
      c.as_slice.ensures c.append.ensures.ok c.in_ok-or_blame-2.ensures.ok tt
      (appended_so g.W.World _ _ c.append.result _ _ c.append.ensures.ok c.append.ensures.err
      c.append.ensures.runs c.append.ensures.misused) c.append.ensures.misused);
  taken = contents_next c.args.exec c.args.path.now c.args.len c.loop-left.left c.next_size-size.result
      c.in_ok-piece.piece c.as_slice.result.now _ _ _ _ _ _ _ c.loop-left.invariant.taken c.in_ok-piece.ensures.takes
      c.in_ok-piece.ensures.length c.next_size-size.ensures.within c.as_slice.ensures
      (when_ok c.append.result c.in_ok-or_blame-2.ensures.ok c.append.ensures.ok);
}

pub returns-clause-lays : goal.returns-clause-lays
returns-clause-lays g c = λ bytes rest is. contents_done c.args.exec c.args.path.now bytes rest c.loop-left.left _
    _ _ _ (omega arith) (c.loop-left.invariant.laid bytes rest is)

pub returns-in_err-or_blame-clause-partly : goal.returns-in_err-or_blame-clause-partly
returns-in_err-or_blame-clause-partly g c = λ bytes rest is. record {
  so = λ ahead are. file_partly (File c.args.exec bytes) c.args.path.now c.args.exec bytes _ _ refl
      (empty_partly c.args.path.now c.args.exec bytes _ _ c.lay_file.ensures.partly);
}

pub returns-in_err-piece-clause-partly : goal.returns-in_err-piece-clause-partly
returns-in_err-piece-clause-partly g c = λ bytes rest is. record {
  so = λ ahead are. file_partly (File c.args.exec bytes) c.args.path.now c.args.exec bytes _ _ refl
      (partly_then _ _ _ _ _ ((contents_partly c.args.exec c.args.path.now bytes rest c.loop-left.left _ _ _ _
      (c.loop-left.invariant.laid bytes rest is)).so ahead are)
      (partly_unread _ _ _ _ (λ p. (c.in_err-piece.ensures.leaves p).around.files)));
}

pub returns-in_err-or_blame-2-clause-partly : goal.returns-in_err-or_blame-2-clause-partly
returns-in_err-or_blame-2-clause-partly g c = λ bytes rest is. record {
  so = λ ahead are.
      let h = c.loop-left.invariant.laid bytes rest is in
      file_partly (File c.args.exec bytes) c.args.path.now c.args.exec bytes _ _ refl
      ((contents_cut c.args.exec c.args.path.now bytes (bytes ++ rest) h.written h.more rest
      c.next_size-size.result (way_to c.args.path.now) _ _ _ _ _
      (seen g.W.World c.field.new.world) (seen g.W.World c.append.new.self) c.as_slice.result.now
      c.in_ok-piece.piece c.append.result h.is
      (piece_ahead c.args.exec c.args.path.now bytes rest c.loop-left.left c.next_size-size.result _ _ _ _ h)
      (c.in_ok-piece.ensures.reads (take c.next_size-size.result h.more)
      (drop c.next_size-size.result h.more ++ rest) []
      (piece_size h.more c.loop-left.left c.next_size-size.result h.count c.next_size-size.ensures.within))
      c.as_slice.ensures c.append.ensures.ok c.append.ensures.err).so ahead are);
}

pub returns-clause-partly : goal.returns-clause-partly
returns-clause-partly g c = λ bytes rest is. record {
  so = λ ahead are. file_partly (File c.args.exec bytes) c.args.path.now c.args.exec bytes _ _ refl
      ((contents_partly c.args.exec c.args.path.now bytes rest c.loop-left.left _ _ _ _
      (c.loop-left.invariant.laid bytes rest is)).so ahead are);
}

pub returns-clause-takes : goal.returns-clause-takes
returns-clause-takes g c = contents_last c.args.exec c.args.path.now c.args.len c.loop-left.left _ _ _ _ (omega arith)
    c.loop-left.invariant.taken
