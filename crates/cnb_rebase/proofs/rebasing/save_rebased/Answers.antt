use Rattle.std.proofs.Common.{ap, refl, sym, Ok}
use Rattle.std.proofs.lemmas.Result.{err_from_is_err_and}
use Rattle.image_files.proofs.ReadableLaws.{written_readable}
use Rattle.steps.proofs.StepLemmas.{ended, given, mapped, mapped_fault, no_memory, went, yielded}
use Rattle.cnb_rebase.specs.Rebases.{saves_rebased}
use Rattle.cnb_rebase.specs.declared.refusal.RebaseFault.{RebaseFault}
use Rattle.cnb_rebase.specs.declared.refusal.RebaseFault.TheVariants.{Memory}
use Rattle.cnb_rebase.proofs.rebasing.save_rebased.Goals as goal

pub returns-in_err-text : goal.returns-in_err-text
unfolding saves_rebased
returns-in_err-text g c =
    let exit = err_from_is_err_and c.from_residual.result c.from_residual.ensures.1 in
    rw (exit.1, exit.2) (record { steps = ended _ _ _ _ _ (no_memory _ _ _ Memory refl) })

pub returns-in_err-save_image : goal.returns-in_err-save_image
unfolding saves_rebased
returns-in_err-save_image g c =
    let exit = err_from_is_err_and c.from_residual-in_err-save_image.result
    c.from_residual-in_err-save_image.ensures.1 in
    rw (exit.1, exit.2) (record {
      steps = went _ _ _ _ _ _ _ (given _ _ _ _ (ap Ok (sym c.in_ok-text.ensures)))
          (ended _ _ _ _ _ (mapped_fault _ _ _ _ _ (written_readable _ _ _ _ _ _ c.requires.readable
          c.in_err-save_image.ensures.step)));
    })

pub returns : goal.returns
unfolding saves_rebased
returns g c = record {
  steps = went _ _ _ _ _ _ _ (given _ _ _ _ (ap Ok (sym c.in_ok-text.ensures)))
      (went _ _ _ _ _ _ _ (mapped _ _ _ _ _ (written_readable _ _ _ _ _ _ c.requires.readable
      c.in_ok-save_image.ensures.step)) (yielded RebaseFault _ _));
}
