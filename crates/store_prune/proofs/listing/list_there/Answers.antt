use Rattle.std.proofs.lemmas.Result.{err_from_is_err_and}
use Rattle.cnb_world.specs.Tree.{Tree, can_list}
use Rattle.doc_files.specs.Reading.{names_at}
use Rattle.doc_files.proofs.Blame.{fails_among}
use Rattle.image_files.proofs.ToldReads.{files_read, files_refused}
use Rattle.steps.specs.Causes.{Only}
use Rattle.store_prune.specs.Faults.{cause_of, of_read_fault}
use Rattle.store_prune.specs.Listing.{lists_where}
use Rattle.store_prune.proofs.ReadCauses.{same_cause}
use Rattle.store_prune.proofs.listing.list_there.Goals as goal

pub returns-in_err-names-clause-steps : goal.returns-in_err-names-clause-steps
unfolding lists_where
returns-in_err-names-clause-steps g c =
    let exit = err_from_is_err_and c.from_residual.result c.from_residual.ensures.1 in
    rw (exit.1, exit.2) (files_refused cause_of of_read_fault same_cause (Only c.args.folder.now)
    (λ (files : Tree). can_list files c.args.folder.now) (λ (files : Tree). names_at files c.args.folder.now)
    _ c.in_err-names.ensures.reads c.in_err-names.ensures.leaves
    (fails_among c.args.folder.now (Only c.args.folder.now) (λ blamed is. is) _ c.in_err-names.ensures.blames)
    c.in_err-names.ensures.misused)

pub returns-clause-steps : goal.returns-clause-steps
unfolding lists_where
returns-clause-steps g c = files_read cause_of of_read_fault same_cause (Only c.args.folder.now)
    (λ (files : Tree). can_list files c.args.folder.now) (λ (files : Tree). names_at files c.args.folder.now)
    c.in_ok-names.names c.in_ok-names.ensures.reads c.in_ok-names.ensures.leaves c.in_ok-names.ensures.misused
