use Rattle.std.proofs.Common.{ap, refl, sym, Ok}
use Rattle.std.proofs.lemmas.Result.{err_from_is_err_and}
use Rattle.steps.proofs.StepLemmas.{ended, given, no_memory, went}
use Rattle.shelf_set.proofs.CacheLemmas.{within_caches}
use Rattle.cnb_restore.specs.RestoresFrom.{restores_named}
use Rattle.cnb_restore.specs.declared.fault.RestoreFault.TheVariants.{Memory}
use Rattle.cnb_restore.proofs.restoring.restore_from.Goals as goal

pub returns-in_err-rows : goal.returns-in_err-rows
unfolding restores_named
returns-in_err-rows g c =
    let exit = err_from_is_err_and c.from_residual.result c.from_residual.ensures.1 in
    rw (exit.1, exit.2) (record { steps = ended _ _ _ _ _ (within_caches _ _ _ _ _ c.in_err-rows.ensures.step) })

pub returns-in_err-restored : goal.returns-in_err-restored
unfolding restores_named
returns-in_err-restored g c =
    let exit = err_from_is_err_and c.from_residual-in_err-restored.result c.from_residual-in_err-restored.ensures.1 in
    rw (exit.1, exit.2) (record {
      steps = went _ _ _ _ _ _ _ (within_caches _ _ _ _ _ c.in_ok-rows.ensures.step)
          (ended _ _ _ _ _ (no_memory _ _ _ Memory refl));
    })

pub returns : goal.returns
unfolding restores_named
returns g c =
    record {
      steps = went _ _ _ _ _ _ _ (within_caches _ _ _ _ _ c.in_ok-rows.ensures.step)
          (went _ _ _ _ _ _ _ (given _ _ _ _ (ap Ok (sym c.in_ok-restored.ensures)))
          c.restore_group.ensures.step);
    }
