use Rattle.std.proofs.Common.{◌≤◌, ◌∙◌, arith, refl, Ok}
use Rattle.std.proofs.lemmas.Result.{err_from_is_err_and}
use Rattle.std.proofs.lemmas.List.{take_all}
use Rattle.tree_store.proofs.Written.{added_as, added_nothing, added_stop, added_then, leaves_local, leaves_stop}
use Rattle.tree_store.proofs.Written.{leaves_then, next_piece}
use Rattle.tree_store.proofs.writing.Writer.add_all.Goals as goal

pub loop-done-init : goal.loop-done-init
loop-done-init g c = record {
  within = omega arith;
  leaves = λ path. leaves_local path _ _ _ (Ok tt) refl (λ n. refl);
  adds = λ path. record { so = λ store before bytes h apart. added_nothing tt refl h };
}

pub loop-done-preserved : goal.loop-done-preserved
loop-done-preserved g c =
    let more : c.loop-done.done ≤ c.piece_end-end.result = omega (arith, c.piece_end-end.ensures.more) in
    record {
      within = c.piece_end-end.ensures.within;
      leaves = λ path. leaves_then (c.loop-done.invariant.leaves path) (c.in_ok-add.ensures.leaves path);
      adds = λ path. record {
        so = λ store before bytes h apart. added_then ((c.loop-done.invariant.adds path).so store before bytes h apart)
            (λ some is held. added_as (λ v next e. next_piece some next c.args.bytes.now c.loop-done.done
            c.piece_end-end.result more is e) (λ fault free. free)
            ((c.in_ok-add.ensures.adds path).so store before _ held apart));
      };
    }

pub returns-in_err-add-clause-leaves : goal.returns-in_err-add-clause-leaves
returns-in_err-add-clause-leaves g c = λ path.
    let exit = err_from_is_err_and c.from_residual.result c.from_residual.ensures.1 in
    rw (exit.1, exit.2) (leaves_then (c.loop-done.invariant.leaves path)
    (leaves_stop (c.in_err-add.ensures.leaves path)))

pub returns-in_err-add-clause-adds : goal.returns-in_err-add-clause-adds
returns-in_err-add-clause-adds g c = λ path.
    let exit = err_from_is_err_and c.from_residual.result c.from_residual.ensures.1 in
    rw (exit.1, exit.2) (record {
      so = λ store before bytes h apart. added_then ((c.loop-done.invariant.adds path).so store before bytes h apart)
          (λ more is held. added_stop (λ free. free) ((c.in_err-add.ensures.adds path).so store before _ held apart));
    })

pub returns-clause-adds : goal.returns-clause-adds
returns-clause-adds g c = λ path. record {
  so = λ store before bytes h apart.
      added_as (λ v more e. e ∙ take_all c.loop-done.done c.args.bytes.now
      (omega (arith, c.loop-done-test.false))) (λ fault free. free)
      ((c.loop-done.invariant.adds path).so store before bytes h apart);
}
