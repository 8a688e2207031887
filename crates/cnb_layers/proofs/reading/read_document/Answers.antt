use Rattle.std.proofs.lemmas.Result.{err_from_is_err_and}
use Rattle.image_files.proofs.ToldReads.{files_read, files_refused}
use Rattle.cnb_layers.specs.Refusals.{cause_of, of_read_fault}
use Rattle.cnb_layers.proofs.ReadSteps.{same_cause}
use Rattle.cnb_layers.proofs.reading.read_document.Goals as goal

pub returns-in_err-found : goal.returns-in_err-found
returns-in_err-found g c =
    let exit = err_from_is_err_and c.from_residual.result c.from_residual.ensures.1 in
    rw (exit.1, exit.2) (record {
      step = files_refused cause_of of_read_fault same_cause _ _ _
          c.in_err-found.field-0.0 c.in_err-found.ensures.reads c.in_err-found.ensures.leaves
          c.in_err-found.ensures.blames
          c.in_err-found.ensures.misused;
    })

pub returns : goal.returns
returns g c =
    record {
      step = files_read cause_of of_read_fault same_cause _ _ _ c.in_ok-found.found
          c.in_ok-found.ensures.reads c.in_ok-found.ensures.leaves c.in_ok-found.ensures.misused;
    }
