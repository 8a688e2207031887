use Rattle.std.proofs.lemmas.Result.{err_from_is_err_and}
use Rattle.cnb_lifecycle.specs.PhaseFaults.{of_export}
use Rattle.cnb_lifecycle.specs.declared.answer.Answer.TheVariants.{Printed}
use Rattle.cnb_export.specs.Command.{exports_command}
use Rattle.cnb_lifecycle.proofs.EndLemmas.{over_taken}
use Rattle.cnb_lifecycle.proofs.TellingLemmas.{told, told_fault}
use Rattle.cnb_lifecycle.proofs.phases.run_export.Goals as goal

pub returns-in_err-text : goal.returns-in_err-text
returns-in_err-text g c =
    let exit = err_from_is_err_and c.from_residual.result c.from_residual.ensures.1 in
    rw (exit.1, exit.2) (record {
      steps = (
        _,
        told_fault Printed of_export _ _ _ _
            (over_taken (exports_command c.args.options.now) _ _ _ _ _ c.taken-caches.ensures.seen
            c.in_err-text.ensures.steps),
      );
    })

pub returns : goal.returns
returns g c = record {
  steps = (
    _,
    told Printed of_export _ _ _ _
        (over_taken (exports_command c.args.options.now) _ _ _ _ _ c.taken-caches.ensures.seen
        c.in_ok-text.ensures.steps),
  );
}
