use Rattle.std.proofs.Common.{ap, refl, sym, ℕ, List, Ok, Result}
use Rattle.std.proofs.lemmas.Result.{err_from_is_err_and}
use Rattle.steps.proofs.StepLemmas.{ended, given, no_memory, went}
use Rattle.cnb_restore.specs.Analyzes.{analyzes}
use Rattle.image_docs.specs.declared.analyzed.Analyzed.{Analyzed}
use Rattle.cnb_restore.specs.declared.fault.RestoreFault.{RestoreFault}
use Rattle.cnb_restore.specs.declared.fault.RestoreFault.TheVariants.{Memory}
use Rattle.cnb_restore.proofs.ReadLemmas.{run_named}
use Rattle.cnb_restore.proofs.analysis.analyze.Goals as goal

pub returns-in_err-image-clause-steps : goal.returns-in_err-image-clause-steps
unfolding analyzes
returns-in_err-image-clause-steps g c =
    let exit = err_from_is_err_and c.from_residual.result c.from_residual.ensures.1 in
    rw (exit.1, exit.2) (ended _ _ _ _ _ c.in_err-image.ensures.step)

pub returns-in_err-known-clause-steps : goal.returns-in_err-known-clause-steps
unfolding analyzes
returns-in_err-known-clause-steps g c =
    let exit = err_from_is_err_and c.from_residual-in_err-known.result c.from_residual-in_err-known.ensures.1 in
    rw (exit.1, exit.2) (went _ _ _ _ _ _ _ c.in_ok-image.ensures.step (ended _ _ _ _ _ c.in_err-known.ensures.step))

pub returns-in_err-run-clause-steps : goal.returns-in_err-run-clause-steps
unfolding analyzes
returns-in_err-run-clause-steps g c =
    let exit = err_from_is_err_and c.from_residual-in_err-run.result c.from_residual-in_err-run.ensures.1 in
    rw (exit.1, exit.2) (went _ _ _ _ _ _ _ c.in_ok-image.ensures.step
    (went _ _ _ _ _ _ _ c.in_ok-known.ensures.step (no_memory _ _ _ Memory refl)))

pub returns-clause-steps : goal.returns-clause-steps
unfolding analyzes
returns-clause-steps g c =
    let P : List ℕ → Result Analyzed RestoreFault = λ run. Ok
    (record {
      run = run;
      os = c.in_ok-image.image.os;
      arch = c.in_ok-image.image.arch;
      previous =
          c.in_ok-known.known;
    }) in
    went _ _ _ _ _ _ _ c.in_ok-image.ensures.step
    (went _ _ _ _ _ _ _ c.in_ok-known.ensures.step (given _ _ _ _ (ap P (sym c.in_ok-run.ensures))))

pub returns-clause-named : goal.returns-clause-named
returns-clause-named g c = run_named c.in_ok-image.image c.in_ok-image.ensures.readable
