use Rattle.std.proofs.Common.{true}
use Rattle.std.proofs.lemmas.Result.{err_from_is_err_and}
use Rattle.steps.proofs.StepLemmas.{allowed_by}
use Rattle.image_files.proofs.ToldReads.{files_read, files_refused}
use Rattle.cnb_layers.specs.Refusals.{cause_of, of_read_fault}
use Rattle.cnb_layers.proofs.ReadSteps.{same_cause}
use Rattle.cnb_layers.proofs.layer.regular_file.Goals as goal

pub returns-in_err-found : goal.returns-in_err-found
returns-in_err-found g c =
    let exit = err_from_is_err_and c.from_residual.result c.from_residual.ensures.1 in
    rw (exit.1, exit.2) (record {
      step = files_refused cause_of of_read_fault same_cause _
          (λ files. true) _ c.in_err-found.field-0.0 c.in_err-found.ensures.reads c.in_err-found.ensures.leaves
          c.in_err-found.ensures.blames (allowed_by (λ files. true) _ _ _ c.in_err-found.ensures.misused);
    })

pub returns : goal.returns
returns g c =
    record {
      step = files_read cause_of of_read_fault same_cause _
          (λ files. true) _ c.in_ok-found.found c.in_ok-found.ensures.reads c.in_ok-found.ensures.leaves
          (allowed_by (λ files. true) _ _ _ c.in_ok-found.ensures.misused);
    }
