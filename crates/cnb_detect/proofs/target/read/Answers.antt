use Rattle.std.proofs.lemmas.Result.{err_from_is_err_and}
use Rattle.doc_files.proofs.Blame.{blames_named}
use Rattle.doc_files.specs.Faults.{read_cause}
use Rattle.steps.proofs.ReadingLaws.{read_unchanged}
use Rattle.steps.proofs.StepLemmas.{mapped, mapped_fault}
use Rattle.cnb_detect.proofs.TargetLemmas.{named_so}
use Rattle.cnb_detect.proofs.target.read.Goals as goal

pub returns-in_err-target-clause-step : goal.returns-in_err-target-clause-step
returns-in_err-target-clause-step g c =
    let exit = err_from_is_err_and c.from_residual.result c.from_residual.ensures.1 in
    rw (exit.1, exit.2) (mapped_fault _ _ _ _ _ (read_unchanged read_cause _ _ _ _ c.in_err-target.ensures.reads
    c.in_err-target.ensures.leaves (blames_named _ c.in_err-target.field-0.0 c.in_err-target.ensures.blames)
    c.in_err-target.ensures.misused))

pub returns-clause-step : goal.returns-clause-step
returns-clause-step g c = mapped _ _ _ _ _ (read_unchanged read_cause _ _ _ _ c.in_ok-target.ensures.reads
    c.in_ok-target.ensures.leaves tt c.in_ok-target.ensures.misused)

pub returns-clause-named : goal.returns-clause-named
returns-clause-named g c = named_so c.in_ok-target.target c.in_ok-target.ensures.named
