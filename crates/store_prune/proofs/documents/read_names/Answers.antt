use Rattle.std.proofs.lemmas.Result.{err_from_is_err_and}
use Rattle.std.proofs.Common.{refl}
use Rattle.image_files.proofs.ToldReads.{document_read, document_refused}
use Rattle.store_prune.specs.Faults.{cause_of, of_read_fault}
use Rattle.store_prune.specs.Named.{named_by, reads_names}
use Rattle.store_prune.proofs.ReadCauses.{same_cause}
use Rattle.store_prune.proofs.documents.read_names.Goals as goal

pub returns-in_err-found : goal.returns-in_err-found
unfolding reads_names
returns-in_err-found g c =
    let exit = err_from_is_err_and c.from_residual.result c.from_residual.ensures.1 in
    rw (exit.1, exit.2) (record {
      steps = document_refused cause_of of_read_fault same_cause
          g.D.TableForm.value_in (named_by g.D.NamesTrees.digests_of) {path = c.args.path.now}
          {at = c.args.path.now} _ refl c.in_err-found.ensures.reads c.in_err-found.ensures.leaves
          c.in_err-found.ensures.blames c.in_err-found.ensures.misused;
    })

pub returns : goal.returns
unfolding reads_names
returns g c = record {
  steps = document_read cause_of of_read_fault same_cause g.D.TableForm.value_in
      (named_by g.D.NamesTrees.digests_of) {path = c.args.path.now} {at = c.args.path.now} c.in_ok-found.found
      c.named_by.result refl c.in_ok-found.ensures.reads c.in_ok-found.ensures.leaves c.in_ok-found.ensures.misused
      c.named_by.ensures.answer c.named_by.ensures.cause;
}
