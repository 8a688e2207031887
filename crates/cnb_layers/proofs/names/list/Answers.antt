use Rattle.std.proofs.lemmas.Result.{err_from_is_err_and}
use Rattle.doc_files.proofs.Blame.{fails_among}
use Rattle.steps.specs.Causes.{Only}
use Rattle.image_files.proofs.ToldReads.{files_read, files_refused}
use Rattle.cnb_layers.specs.Refusals.{cause_of, of_read_fault}
use Rattle.cnb_layers.proofs.ReadSteps.{same_cause}
use Rattle.cnb_layers.proofs.names.list.Goals as goal

pub returns-in_err-names : goal.returns-in_err-names
returns-in_err-names g c =
    let exit = err_from_is_err_and c.from_residual.result c.from_residual.ensures.1 in
    rw (exit.1, exit.2) (record {
      step = files_refused cause_of of_read_fault same_cause _ _ _
          c.in_err-names.field-0.0 c.in_err-names.ensures.reads c.in_err-names.ensures.leaves
          (fails_among c.args.folder.now (Only c.args.folder.now) (λ blamed is. is) _ c.in_err-names.ensures.blames)
          c.in_err-names.ensures.misused;
    })

pub returns : goal.returns
returns g c =
    record {
      step = files_read cause_of of_read_fault same_cause _ _ _ c.in_ok-names.names
          c.in_ok-names.ensures.reads c.in_ok-names.ensures.leaves c.in_ok-names.ensures.misused;
    }
