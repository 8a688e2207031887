use Rattle.std.proofs.Common.{Ok, Err}
use Rattle.std.proofs.lemmas.Result.{err_from_is_err_and}
use Rattle.cnb_world.specs.Tree.{Tree}
use Rattle.doc_files.specs.Faults.{read_cause}
use Rattle.doc_files.proofs.Counts.{counts_after, names_none}
use Rattle.doc_files.specs.Reading.{document_at}
use Rattle.steps.proofs.ReadingLaws.{refused_where}
use Rattle.image_files.specs.Documents.{found_of}
use Rattle.image_files.proofs.ToldReads.{decided_by}
use Rattle.image_files.proofs.documents.find_document.Goals as goal

pub returns-in_err-found-clause-reads : goal.returns-in_err-found-clause-reads
returns-in_err-found-clause-reads g c =
    let exit = err_from_is_err_and c.from_residual.result c.from_residual.ensures.1 in
    rw (exit.1, exit.2) (refused_where read_cause _ (λ (files : Tree). document_at files c.args.path.now)
    (λ found files. found_of g.F.TableForm.value_in c.args.path.now found) _ c.in_err-found.ensures.reads)

pub returns-in_err-value-clause-reads : goal.returns-in_err-value-clause-reads
returns-in_err-value-clause-reads g c =
    let exit = err_from_is_err_and c.from_residual-in_err-value.result c.from_residual-in_err-value.ensures.1 in
    rw (exit.1, exit.2) (decided_by read_cause (λ (files : Tree). document_at files c.args.path.now)
    (found_of g.F.TableForm.value_in c.args.path.now) _ c.in_ok-found.found
    (Err c.in_err-value.field-0.0) c.in_ok-found.ensures.reads c.in_err-value.ensures.reads)

pub returns-in_err-value-clause-leaves : goal.returns-in_err-value-clause-leaves
returns-in_err-value-clause-leaves g c =
    let exit = err_from_is_err_and c.from_residual-in_err-value.result c.from_residual-in_err-value.ensures.1 in
    rw (exit.1, exit.2) (record {
      files = c.in_ok-found.ensures.leaves.files;
      runs = c.in_ok-found.ensures.leaves.runs;
      children = c.in_ok-found.ensures.leaves.children;
      counts = counts_after g.row.F-Value.Denot (Err c.in_err-value.field-0.0) _ _
          c.in_ok-found.ensures.leaves.counts c.in_err-value.ensures.files;
      cause = names_none c.in_err-value.field-0.0 _ c.in_err-value.ensures.files;
    })

pub returns-clause-reads : goal.returns-clause-reads
returns-clause-reads g c = decided_by read_cause (λ (files : Tree). document_at files c.args.path.now)
    (found_of g.F.TableForm.value_in c.args.path.now) _ c.in_ok-found.found
    (Ok c.in_ok-value.value) c.in_ok-found.ensures.reads c.in_ok-value.ensures.reads
