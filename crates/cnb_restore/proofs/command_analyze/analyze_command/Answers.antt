use Rattle.std.proofs.Common.{ap, refl, sym, Ok}
use Rattle.std.proofs.lemmas.Result.{err_from_is_err_and}
use Rattle.steps.proofs.StepLemmas.{ended, given, no_memory, went, yielded}
use Rattle.cnb_restore.specs.Commands.{analyzes_command}
use Rattle.cnb_restore.specs.declared.fault.RestoreFault.{RestoreFault}
use Rattle.cnb_restore.specs.declared.fault.RestoreFault.TheVariants.{Memory}
use Rattle.cnb_restore.proofs.ReadLemmas.{analyzes_as}
use Rattle.cnb_restore.proofs.command_analyze.analyze_command.Goals as goal

pub returns-in_err-analyzed : goal.returns-in_err-analyzed
unfolding analyzes_command
returns-in_err-analyzed g c =
    let exit = err_from_is_err_and c.from_residual.result c.from_residual.ensures.1 in
    rw (exit.1, exit.2) (record {
      steps = ended _ _ _ _ _
          (analyzes_as _ _ _ _ _ _ _ c.as_ref.ensures.value c.in_err-analyzed.ensures.steps);
    })

pub returns-in_err-text : goal.returns-in_err-text
unfolding analyzes_command
returns-in_err-text g c =
    let exit = err_from_is_err_and c.from_residual-in_err-text.result c.from_residual-in_err-text.ensures.1 in
    rw (exit.1, exit.2) (record {
      steps = went _ _ _ _ _ _ _
          (analyzes_as _ _ _ _ _ _ _ c.as_ref.ensures.value c.in_ok-analyzed.ensures.steps)
          (ended _ _ _ _ _ (no_memory _ _ _ Memory refl));
    })

pub returns-in_err-write_analyzed_document : goal.returns-in_err-write_analyzed_document
unfolding analyzes_command
returns-in_err-write_analyzed_document g c =
    let exit = err_from_is_err_and c.from_residual-in_err-write_analyzed_document.result
    c.from_residual-in_err-write_analyzed_document.ensures.1 in
    rw (exit.1, exit.2) (record {
      steps = went _ _ _ _ _ _ _ (analyzes_as _ _ _ _ _ _ _ c.as_ref.ensures.value c.in_ok-analyzed.ensures.steps)
          (went _ _ _ _ _ _ _ (given _ _ _ _ (ap Ok (sym c.in_ok-text.ensures)))
          (ended _ _ _ _ _ c.in_err-write_analyzed_document.ensures.step));
    })

pub returns : goal.returns
unfolding analyzes_command
returns g c = record {
  steps = went _ _ _ _ _ _ _ (analyzes_as _ _ _ _ _ _ _ c.as_ref.ensures.value c.in_ok-analyzed.ensures.steps)
      (went _ _ _ _ _ _ _ (given _ _ _ _ (ap Ok (sym c.in_ok-text.ensures)))
      (went _ _ _ _ _ _ _ c.in_ok-write_analyzed_document.ensures.step (yielded RestoreFault _ _)));
}
