use Rattle.std.proofs.Common.{◌+◌, ◌∙◌, Err, Ok, ap, length, subst, sym}
use Rattle.std.proofs.lemmas.Result.{err_from_is_err_and}
use Rattle.tree_store.specs.Writing.{IsPart}
use Rattle.tree_store.specs.Writing.{writer_seen}
use Rattle.tree_store.proofs.Descents.{added_from, leaves_read, never_odd, part_read, read_right, some_free}
use Rattle.tree_store.proofs.Descents.{written_read}
use Rattle.tree_store.proofs.Written.{added_none, added_stop, added_value, leaves_odd, leaves_stop, leaves_then}
use Rattle.tree_store.proofs.Written.{leaves_value}
use Rattle.tree_store.proofs.putting.put_piece.Goals as goal

pub returns-in_err-piece-clause-leaves : goal.returns-in_err-piece-clause-leaves
returns-in_err-piece-clause-leaves g c =
    let exit = err_from_is_err_and c.from_residual.result c.from_residual.ensures.1 in
    rw (exit.1, exit.2) (leaves_stop (leaves_read _ (writer_seen g.T.Target.state c.args.writer.now)
    (Err _) _ _ c.in_err-piece.ensures.leaves c.in_err-piece.ensures.blames c.in_err-piece.ensures.misused))

pub returns-in_err-piece-clause-puts : goal.returns-in_err-piece-clause-puts
returns-in_err-piece-clause-puts g c =
    λ store before bytes h apart file.
    let exit = err_from_is_err_and c.from_residual.result c.from_residual.ensures.1 in
    rw (exit.1, exit.2) (added_none (some_free before _ c.in_err-piece.ensures.free)
    (read_right c.args.len _ _ h apart file c.in_err-piece.ensures.misused))

pub returns-then-as_slice-size-clause-leaves : goal.returns-then-as_slice-size-clause-leaves
returns-then-as_slice-size-clause-leaves g c =
    leaves_then (leaves_read _ (writer_seen g.T.Target.state c.args.writer.now)
    (Ok c.in_ok-piece.piece) _ _ c.in_ok-piece.ensures.leaves
    c.in_ok-piece.ensures.blames c.in_ok-piece.ensures.misused)
    (leaves_odd c.args.path.now (writer_seen g.T.Target.state c.args.writer.now) _ c.args.path.now c.odd.result
    c.odd.ensures)

pub returns-then-as_slice-size-clause-puts : goal.returns-then-as_slice-size-clause-puts
returns-then-as_slice-size-clause-puts g c =
    λ store before bytes h apart file. added_none
    (never_odd c.in_ok-piece.piece c.args.len c.args.done c.next_size-size.result _ h apart file
    c.in_ok-piece.ensures.told c.requires c.next_size-size.ensures.within c.next_size-size.ensures.piece
    c.next_size-size.ensures.all (λ e. c.if-as_slice-size.true (ap length c.as_slice.ensures ∙ e)))
    (read_right c.args.len _ _ h apart file c.in_ok-piece.ensures.misused)

pub returns-in_err-add-clause-leaves : goal.returns-in_err-add-clause-leaves
returns-in_err-add-clause-leaves g c =
    let exit = err_from_is_err_and c.from_residual-in_err-add.result c.from_residual-in_err-add.ensures.1 in
    rw (exit.1, exit.2) (leaves_then (leaves_read _ (writer_seen g.T.Target.state c.args.writer.now)
    (Ok c.in_ok-piece.piece) _ _ c.in_ok-piece.ensures.leaves c.in_ok-piece.ensures.blames
    c.in_ok-piece.ensures.misused) (leaves_stop (c.in_err-add.ensures.leaves c.args.path.now)))

pub returns-in_err-add-clause-puts : goal.returns-in_err-add-clause-puts
returns-in_err-add-clause-puts g c =
    λ store before bytes h apart file.
    let exit = err_from_is_err_and c.from_residual-in_err-add.result c.from_residual-in_err-add.ensures.1 in
    rw (exit.1, exit.2) (added_from (read_right c.args.len _ _ h apart file c.in_ok-piece.ensures.misused)
    (added_stop (λ free. some_free before _ free)
    ((c.in_err-add.ensures.adds c.args.path.now).so store before bytes
    (written_read c.in_ok-piece.ensures.leaves.files h) apart)))

pub returns-clause-leaves : goal.returns-clause-leaves
returns-clause-leaves g c =
    leaves_then (leaves_read _ (writer_seen g.T.Target.state c.args.writer.now)
    (Ok c.in_ok-piece.piece) _ _ c.in_ok-piece.ensures.leaves
    c.in_ok-piece.ensures.blames c.in_ok-piece.ensures.misused)
    (leaves_value _ (c.in_ok-add.ensures.leaves c.args.path.now))

pub returns-clause-puts : goal.returns-clause-puts
returns-clause-puts g c =
    λ store before bytes h apart file. added_from
    (read_right c.args.len _ _ h apart file c.in_ok-piece.ensures.misused) (added_value _
    (λ more is. subst (IsPart before c.args.path.now c.args.done (c.args.done + c.next_size-size.result))
    (sym (is ∙ c.as_slice-2.ensures)) (part_read c.in_ok-piece.piece c.args.done c.next_size-size.result h
    apart c.in_ok-piece.ensures.told (ap length (sym c.as_slice.ensures) ∙ c.if-as_slice-size.false)))
    ((c.in_ok-add.ensures.adds c.args.path.now).so store before bytes
    (written_read c.in_ok-piece.ensures.leaves.files h) apart))
