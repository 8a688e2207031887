use Rattle.std.proofs.lemmas.Result.{err_from_is_err_and}
use Rattle.cnb_lifecycle.specs.PhaseFaults.{of_create}
use Rattle.cnb_lifecycle.specs.declared.answer.Answer.TheVariants.{Printed}
use Rattle.cnb_create.specs.Creates.{creates}
use Rattle.cnb_lifecycle.proofs.EndLemmas.{all_taken}
use Rattle.cnb_lifecycle.proofs.TellingLemmas.{told, told_fault}
use Rattle.cnb_lifecycle.proofs.phases.run_create.Goals as goal

pub returns-in_err-text : goal.returns-in_err-text
returns-in_err-text g c =
    let exit = err_from_is_err_and c.from_residual.result c.from_residual.ensures.1 in
    rw (exit.1, exit.2) (record {
      steps = (
        _,
        told_fault Printed of_create _ _ _ _
            (all_taken (creates c.args.options.now c.args.env.now) _ _ _ _ _ c.taken-caches.ensures.seen
            c.in_err-text.ensures.steps),
      );
    })

pub returns : goal.returns
returns g c = record {
  steps = (
    _,
    told Printed of_create _ _ _ _
        (all_taken (creates c.args.options.now c.args.env.now) _ _ _ _ _ c.taken-caches.ensures.seen
        c.in_ok-text.ensures.steps),
  );
}
