use Rattle.std.proofs.Common.{Ok, refl, subst}
use Rattle.std.specs.Prelude.{IfSome}
use Rattle.std.proofs.lemmas.Result.{err_from_is_err_and}
use Rattle.image_docs.specs.RunImage.{table_in}
use Rattle.image_files.specs.Documents.{IsRead}
use Rattle.image_files.specs.Faults.{cause_of, of_read_fault}
use Rattle.image_files.specs.Images.{named, reads_run_image}
use Rattle.image_files.specs.declared.fault.ImageFault.TheVariants.{Memory}
use Rattle.image_files.proofs.ReadLemmas.{same_cause}
use Rattle.image_files.proofs.ToldReads.{document_read, document_refused, nothing_read}
use Rattle.image_files.proofs.ReadableLaws.{run_image_readable}
use Rattle.image_files.proofs.images.read_run_image.Goals as goal

pub returns-in_err-path-clause-step : goal.returns-in_err-path-clause-step
unfolding reads_run_image
returns-in_err-path-clause-step g c =
    let exit = err_from_is_err_and c.from_residual.result c.from_residual.ensures.1 in
    rw (exit.1, exit.2) (nothing_read _ _ _ _ Memory _ refl)

pub returns-in_err-found-clause-step : goal.returns-in_err-found-clause-step
unfolding reads_run_image
returns-in_err-found-clause-step g c =
    let exit = err_from_is_err_and c.from_residual-in_err-found.result c.from_residual-in_err-found.ensures.1 in
    rw (exit.1, exit.2) (document_refused cause_of of_read_fault same_cause table_in
    (λ path. named c.args.name.now) _ c.in_ok-path.ensures c.in_err-found.ensures.reads
    c.in_err-found.ensures.leaves c.in_err-found.ensures.blames c.in_err-found.ensures.misused)

pub returns-in_err-image-clause-step : goal.returns-in_err-image-clause-step
unfolding reads_run_image
returns-in_err-image-clause-step g c =
    let exit = err_from_is_err_and c.from_residual-in_err-image.result c.from_residual-in_err-image.ensures.1 in
    rw (exit.1, exit.2) (document_read cause_of of_read_fault same_cause table_in
    (λ path. named c.args.name.now) c.in_ok-found.found _ c.in_ok-path.ensures c.in_ok-found.ensures.reads
    c.in_ok-found.ensures.leaves c.in_ok-found.ensures.misused c.in_err-image.ensures.answer
    c.in_err-image.ensures.cause)

pub returns-clause-step : goal.returns-clause-step
unfolding reads_run_image
returns-clause-step g c =
    document_read cause_of of_read_fault same_cause table_in (λ path. named c.args.name.now) c.in_ok-found.found
    (Ok c.in_ok-image.image) c.in_ok-path.ensures c.in_ok-found.ensures.reads c.in_ok-found.ensures.leaves
    c.in_ok-found.ensures.misused c.in_ok-image.ensures.answer tt

pub returns-clause-readable : goal.returns-clause-readable
returns-clause-readable g c = run_image_readable c.in_ok-image.image
    (subst (λ found. IfSome found (IsRead table_in)) c.in_ok-image.ensures.same c.in_ok-found.ensures.read)
