use Rattle.std.proofs.Common.{refl}
use Rattle.std.proofs.lemmas.Result.{err_from_is_err_and}
use Rattle.run_docs.specs.Group.{rows_in}
use Rattle.image_files.proofs.ToldReads.{document_read, document_refused, nothing_read}
use Rattle.cnb_restore.specs.Commands.{needed}
use Rattle.cnb_restore.specs.Faults.{cause_of, of_read_fault}
use Rattle.cnb_restore.specs.declared.fault.RestoreFault.TheVariants.{Memory}
use Rattle.cnb_restore.proofs.ReadLemmas.{same_cause}
use Rattle.cnb_restore.proofs.command_restore.read_group.Goals as goal

pub returns-in_err-path : goal.returns-in_err-path
returns-in_err-path g c =
    let exit = err_from_is_err_and c.from_residual.result c.from_residual.ensures.1 in
    rw (exit.1, exit.2) (record { step = nothing_read _ _ _ _ Memory _ refl })

pub returns-in_err-found : goal.returns-in_err-found
returns-in_err-found g c =
    let exit = err_from_is_err_and c.from_residual-in_err-found.result c.from_residual-in_err-found.ensures.1 in
    rw (exit.1, exit.2) (record {
      step = document_refused cause_of of_read_fault same_cause rows_in needed _
          c.in_ok-path.ensures c.in_err-found.ensures.reads c.in_err-found.ensures.leaves c.in_err-found.ensures.blames
          c.in_err-found.ensures.misused;
    })

pub returns : goal.returns
returns g c = record {
  step = document_read cause_of of_read_fault same_cause rows_in needed c.in_ok-found.found _
      c.in_ok-path.ensures c.in_ok-found.ensures.reads c.in_ok-found.ensures.leaves c.in_ok-found.ensures.misused
      c.needed.ensures.answer c.needed.ensures.cause;
}
