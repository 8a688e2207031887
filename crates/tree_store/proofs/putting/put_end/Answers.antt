use Rattle.std.proofs.Common.{Ok, refl}
use Rattle.std.proofs.lemmas.Result.{err_from_is_err_and}
use Rattle.tree_store.proofs.Descents.{no_part_more, part_ends}
use Rattle.tree_store.proofs.Written.{added_nothing, added_stop, added_value, leaves_local, leaves_stop, leaves_value}
use Rattle.tree_store.proofs.putting.put_end.Goals as goal

pub returns-then-len-eq0-clause-leaves : goal.returns-then-len-eq0-clause-leaves
returns-then-len-eq0-clause-leaves g c = leaves_local {A = Unit {0}} c.args.path.now _ _ _ (Ok tt) refl (λ n. refl)

pub returns-then-len-eq0-clause-puts : goal.returns-then-len-eq0-clause-puts
returns-then-len-eq0-clause-puts g c = λ store before bytes h apart file. added_nothing tt
    (no_part_more before c.args.path.now c.args.len) h

pub returns-in_err-put_piece-clause-leaves : goal.returns-in_err-put_piece-clause-leaves
returns-in_err-put_piece-clause-leaves g c =
    let exit = err_from_is_err_and c.from_residual.result c.from_residual.ensures.1 in
    rw (exit.1, exit.2) (leaves_stop c.in_err-put_piece.ensures.leaves)

pub returns-in_err-put_piece-clause-puts : goal.returns-in_err-put_piece-clause-puts
returns-in_err-put_piece-clause-puts g c =
    λ store before bytes h apart file.
    let exit = err_from_is_err_and c.from_residual.result c.from_residual.ensures.1 in
    rw (exit.1, exit.2) (added_stop (λ free. free) (c.in_err-put_piece.ensures.puts store before bytes h apart file))

pub returns-clause-leaves : goal.returns-clause-leaves
returns-clause-leaves g c = leaves_value tt c.in_ok-put_piece.ensures.leaves

pub returns-clause-puts : goal.returns-clause-puts
returns-clause-puts g c =
    λ store before bytes h apart file. added_value tt
    (λ more part. part_ends c.in_ok-put_piece.ensures.within part)
    (c.in_ok-put_piece.ensures.puts store before bytes h apart file)
