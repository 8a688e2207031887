use Rattle.std.proofs.Common.{refl}
use Rattle.std.proofs.lemmas.Result.{err_from_is_err_and}
use Rattle.image_docs.specs.RunImage.{table_in}
use Rattle.image_files.proofs.ToldReads.{document_read, document_refused, nothing_read}
use Rattle.cnb_restore.specs.Analyzes.{named}
use Rattle.cnb_restore.specs.Faults.{cause_of, of_read_fault}
use Rattle.cnb_restore.specs.declared.fault.RestoreFault.TheVariants.{Memory}
use Rattle.cnb_restore.proofs.ReadLemmas.{readable_named, same_cause}
use Rattle.cnb_restore.proofs.images.read_run_image.Goals as goal

pub returns-in_err-path-clause-step : goal.returns-in_err-path-clause-step
returns-in_err-path-clause-step g c =
    let exit = err_from_is_err_and c.from_residual.result c.from_residual.ensures.1 in
    rw (exit.1, exit.2) (nothing_read _ _ _ _ Memory _ refl)

pub returns-in_err-found-clause-step : goal.returns-in_err-found-clause-step
returns-in_err-found-clause-step g c =
    let exit = err_from_is_err_and c.from_residual-in_err-found.result c.from_residual-in_err-found.ensures.1 in
    rw (exit.1, exit.2) (document_refused cause_of of_read_fault same_cause table_in
    (λ path. named c.args.name.now) _ c.in_ok-path.ensures c.in_err-found.ensures.reads
    c.in_err-found.ensures.leaves c.in_err-found.ensures.blames c.in_err-found.ensures.misused)

pub returns-clause-step : goal.returns-clause-step
returns-clause-step g c = document_read cause_of of_read_fault same_cause table_in
    (λ path. named c.args.name.now) c.in_ok-found.found _ c.in_ok-path.ensures c.in_ok-found.ensures.reads
    c.in_ok-found.ensures.leaves c.in_ok-found.ensures.misused c.named.ensures.answer c.named.ensures.cause

pub returns-clause-readable : goal.returns-clause-readable
returns-clause-readable g c = readable_named c.in_ok-found.found _ c.in_ok-found.ensures.read c.named.ensures.same
