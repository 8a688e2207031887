use Rattle.std.proofs.Common.{ℕ, List, Option, Err, Ok}
use Rattle.std.proofs.lemmas.Result.{err_from_is_err_and}
use Rattle.cnb_world.specs.Tree.{Tree}
use Rattle.bp_docs.specs.declared.descriptor.Entry.{Entry}
use Rattle.order_files.specs.OrderFile.{order_file_in, order_of}
use Rattle.doc_files.specs.Reading.{document_at}
use Rattle.doc_files.specs.Faults.{read_cause}
use Rattle.doc_files.proofs.Counts.{counts_after, names_none}
use Rattle.steps.proofs.ReadingLaws.{refused_where}
use Rattle.order_files.proofs.ReadSteps.{read_then}
use Rattle.order_files.proofs.order.read_order_file.Goals as goal

pub returns-in_err-found-clause-reads : goal.returns-in_err-found-clause-reads
unfolding order_file_in
returns-in_err-found-clause-reads g c =
    let exit = err_from_is_err_and c.from_residual.result c.from_residual.ensures.1 in
    rw (exit.1, exit.2) (refused_where read_cause _ (λ (files : Tree). document_at files c.args.path.now)
    (λ (found : Option (List ℕ)) (files : Tree). order_of c.args.path.now found) _
    c.in_err-found.ensures.reads)

pub returns-in_err-order-clause-reads : goal.returns-in_err-order-clause-reads
unfolding order_file_in
returns-in_err-order-clause-reads g c =
    let exit = err_from_is_err_and c.from_residual-in_err-order.result c.from_residual-in_err-order.ensures.1 in
    rw (exit.1, exit.2) (read_then (λ (files : Tree). document_at files c.args.path.now)
    (order_of c.args.path.now) _ c.in_ok-found.found (Err _) c.in_ok-found.ensures.reads
    c.in_err-order.ensures.reads)

pub returns-clause-reads : goal.returns-clause-reads
unfolding order_file_in
returns-clause-reads g c = read_then (λ (files : Tree). document_at files c.args.path.now)
    (order_of c.args.path.now) _ c.in_ok-found.found (Ok c.in_ok-order.order) c.in_ok-found.ensures.reads
    c.in_ok-order.ensures.reads

pub returns-in_err-order-clause-leaves : goal.returns-in_err-order-clause-leaves
returns-in_err-order-clause-leaves g c =
    let exit = err_from_is_err_and c.from_residual-in_err-order.result c.from_residual-in_err-order.ensures.1 in
    let left = c.in_ok-found.ensures.leaves in
    rw (exit.1, exit.2) (record {
      files = left.files;
      runs = left.runs;
      children = left.children;
      counts = counts_after (List (List Entry)) (Err _) _ _ left.counts c.in_err-order.ensures.files;
      cause = names_none _ _ c.in_err-order.ensures.files;
    })
