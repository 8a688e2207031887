use Rattle.std.proofs.Common.{Err}
use Rattle.std.proofs.lemmas.Result.{err_from_is_err_and}
use Rattle.doc_files.proofs.Counts.{counts_after, names_none}
use Rattle.image_docs.specs.declared.launch_doc.LaunchDoc.{LaunchDoc}
use Rattle.cnb_launch.proofs.documents.launch_doc_at.Goals as goal

pub returns-in_err-doc-clause-leaves : goal.returns-in_err-doc-clause-leaves
returns-in_err-doc-clause-leaves g c =
    let exit = err_from_is_err_and c.from_residual-in_err-doc.result c.from_residual-in_err-doc.ensures.1 in
    let left = c.in_ok-found.ensures.leaves in
    rw (exit.1, exit.2) (record {
      files = left.files;
      runs = left.runs;
      children = left.children;
      counts = counts_after LaunchDoc (Err _) _ _ left.counts c.in_err-doc.ensures.files;
      cause = names_none _ _ c.in_err-doc.ensures.files;
    })
