use Rattle.std.proofs.Common.{ℕ, List, Option, Err, Ok}
use Rattle.std.proofs.lemmas.Result.{err_from_is_err_and}
use Rattle.cnb_world.specs.Tree.{Tree}
use Rattle.doc_files.specs.Reading.{document_at}
use Rattle.run_docs.specs.Group.{group_in}
use Rattle.run_docs.specs.declared.group.GroupRow.{GroupRow}
use Rattle.doc_files.specs.Faults.{read_cause}
use Rattle.doc_files.proofs.Counts.{counts_after, names_none}
use Rattle.steps.proofs.ReadingLaws.{refused_where}
use Rattle.order_files.proofs.ReadSteps.{read_then}
use Rattle.cnb_record.specs.Reading.{needed, needed_at}
use Rattle.cnb_record.proofs.reading.read_group_at.Goals as goal

pub returns-in_err-found-clause-reads : goal.returns-in_err-found-clause-reads
unfolding needed_at
returns-in_err-found-clause-reads g c =
    let exit = err_from_is_err_and c.from_residual.result c.from_residual.ensures.1 in
    rw (exit.1, exit.2) (refused_where read_cause _ (λ (files : Tree). document_at files c.args.path.now)
    (λ (found : Option (List ℕ)) (files : Tree). needed group_in c.args.path.now found) _
    c.in_err-found.ensures.reads)

pub returns-in_err-group-clause-reads : goal.returns-in_err-group-clause-reads
unfolding needed_at
returns-in_err-group-clause-reads g c =
    let exit = err_from_is_err_and c.from_residual-in_err-group.result c.from_residual-in_err-group.ensures.1 in
    rw (exit.1, exit.2) (read_then (λ (files : Tree). document_at files c.args.path.now)
    (needed group_in c.args.path.now) _ c.in_ok-found.found
    (Err _) c.in_ok-found.ensures.reads c.in_err-group.ensures.reads)

pub returns-clause-reads : goal.returns-clause-reads
unfolding needed_at
returns-clause-reads g c = read_then (λ (files : Tree). document_at files c.args.path.now)
    (needed group_in c.args.path.now) _ c.in_ok-found.found
    (Ok c.in_ok-group.group) c.in_ok-found.ensures.reads c.in_ok-group.ensures.reads

pub returns-in_err-group-clause-leaves : goal.returns-in_err-group-clause-leaves
returns-in_err-group-clause-leaves g c =
    let exit = err_from_is_err_and c.from_residual-in_err-group.result c.from_residual-in_err-group.ensures.1 in
    let left = c.in_ok-found.ensures.leaves in
    rw (exit.1, exit.2) (record {
      files = left.files;
      runs = left.runs;
      children = left.children;
      counts = counts_after (List GroupRow) (Err _) _ _ left.counts c.in_err-group.ensures.files;
      cause = names_none _ _ c.in_err-group.ensures.files;
    })
