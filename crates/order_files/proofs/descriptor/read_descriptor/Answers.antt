use Rattle.std.proofs.Common.{ℕ, List, Option, Err, Ok}
use Rattle.std.proofs.lemmas.Result.{err_from_is_err_and}
use Rattle.cnb_world.specs.Tree.{Tree}
use Rattle.bp_docs.specs.declared.descriptor.Descriptor.{Descriptor}
use Rattle.order_files.specs.Descriptor.{described}
use Rattle.doc_files.specs.Reading.{document_at}
use Rattle.order_files.proofs.FolderSteps.{descriptor_fits, descriptor_from, descriptor_refused_from}
use Rattle.doc_files.specs.Faults.{read_cause}
use Rattle.doc_files.proofs.Counts.{counts_after, names_none}
use Rattle.steps.proofs.ReadingLaws.{refused_where}
use Rattle.order_files.proofs.ReadSteps.{read_then}
use Rattle.order_files.proofs.descriptor.read_descriptor.Goals as goal

pub returns-in_err-found-clause-reads : goal.returns-in_err-found-clause-reads
returns-in_err-found-clause-reads g c =
    let path = c.in_ok-path.path in
    let exit = err_from_is_err_and c.from_residual-in_err-found.result c.from_residual-in_err-found.ensures.1 in
    rw (exit.1, exit.2) (descriptor_refused_from c.args.folder.now c.args.id_folder.now c.args.version.now path
    c.in_ok-path.ensures.0 _ _
    (refused_where read_cause _ (λ (files : Tree). document_at files path)
    (λ (found : Option (List ℕ)) (files : Tree). described path c.args.id_folder.now c.args.version.now found)
    _ c.in_err-found.ensures.reads))

pub returns-in_err-found-clause-misused : goal.returns-in_err-found-clause-misused
returns-in_err-found-clause-misused g c = descriptor_fits c.args.folder.now c.args.id_folder.now
    c.args.version.now c.in_ok-path.path c.in_ok-path.ensures.0 _ _ _ c.in_err-found.ensures.misused

pub returns-in_err-descriptor-clause-reads : goal.returns-in_err-descriptor-clause-reads
returns-in_err-descriptor-clause-reads g c =
    let path = c.in_ok-path.path in
    let exit = err_from_is_err_and c.from_residual-in_err-descriptor.result
    c.from_residual-in_err-descriptor.ensures.1 in
    rw (exit.1, exit.2) (descriptor_refused_from c.args.folder.now c.args.id_folder.now c.args.version.now path
    c.in_ok-path.ensures.0 _ _
    (read_then (λ (files : Tree). document_at files path) (described path c.args.id_folder.now c.args.version.now)
    _ c.in_ok-found.found (Err _) c.in_ok-found.ensures.reads c.in_err-descriptor.ensures.reads))

pub returns-in_err-descriptor-clause-misused : goal.returns-in_err-descriptor-clause-misused
returns-in_err-descriptor-clause-misused g c = descriptor_fits c.args.folder.now c.args.id_folder.now
    c.args.version.now c.in_ok-path.path c.in_ok-path.ensures.0 _ _ _ c.in_ok-found.ensures.misused

pub returns-clause-reads : goal.returns-clause-reads
returns-clause-reads g c =
    let path = c.in_ok-path.path in
    descriptor_from c.args.folder.now c.args.id_folder.now c.args.version.now path c.in_ok-path.ensures.0 _
    (Ok c.in_ok-descriptor.descriptor)
    (read_then (λ (files : Tree). document_at files path) (described path c.args.id_folder.now c.args.version.now)
    _ c.in_ok-found.found (Ok c.in_ok-descriptor.descriptor) c.in_ok-found.ensures.reads
    c.in_ok-descriptor.ensures.reads)

pub returns-clause-misused : goal.returns-clause-misused
returns-clause-misused g c = descriptor_fits c.args.folder.now c.args.id_folder.now c.args.version.now
    c.in_ok-path.path c.in_ok-path.ensures.0 _ _ _ c.in_ok-found.ensures.misused

pub returns-in_err-descriptor-clause-leaves : goal.returns-in_err-descriptor-clause-leaves
returns-in_err-descriptor-clause-leaves g c =
    let exit = err_from_is_err_and c.from_residual-in_err-descriptor.result
    c.from_residual-in_err-descriptor.ensures.1 in
    let left = c.in_ok-found.ensures.leaves in
    rw (exit.1, exit.2) (record {
      files = left.files;
      runs = left.runs;
      children = left.children;
      counts = counts_after (Option Descriptor) (Err _) _ _ left.counts c.in_err-descriptor.ensures.files;
      cause = names_none _ _ c.in_err-descriptor.ensures.files;
    })
