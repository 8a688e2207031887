use Rattle.std.proofs.Common.{refl, rules}
use Rattle.cnb_world.proofs.Folders.{after_create, after_folder, after_rename, second_byte}
use Rattle.cnb_world.proofs.Trees.{on_err}
use Rattle.cnb_world.proofs.WholeLemmas.{beside_fits, folder_fits, folder_left, left_by_append, left_by_rename, unbegun}
use Rattle.tree_canon.specs.Spelling.{spelling_of}
use Rattle.tree_store.proofs.Spelled.{made_reads, may_stay}
use Rattle.tree_store.proofs.store.write_pieces.Goals as goal

pub returns-in_err-folder-clause-err : goal.returns-in_err-folder-clause-err
returns-in_err-folder-clause-err g c = on_err _ (unbegun _ _ c.args.path.now (spelling_of c.args.tree.now) refl)

pub returns-in_err-unfinished-clause-err : goal.returns-in_err-unfinished-clause-err
returns-in_err-unfinished-clause-err g c = on_err _ (unbegun _ _ c.args.path.now (spelling_of c.args.tree.now) refl)

pub returns-in_err-make_folder-clause-err : goal.returns-in_err-make_folder-clause-err
returns-in_err-make_folder-clause-err g c = on_err _
    (unbegun _ _ c.args.path.now (spelling_of c.args.tree.now) c.in_err-make_folder.ensures.err)

pub returns-in_err-create-clause-err : goal.returns-in_err-create-clause-err
returns-in_err-create-clause-err g c = on_err _
    (folder_left _ _ _ c.args.path.now _ (spelling_of c.args.tree.now) c.in_ok-folder.ensures.parent
    (folder_fits _ c.args.path.now _ _ c.in_ok-folder.ensures.parent _ _ c.in_ok-make_folder.ensures.misused)
    c.in_ok-make_folder.ensures.ok c.in_err-create.ensures.err)

pub returns-in_err-append_tree-clause-err : goal.returns-in_err-append_tree-clause-err
returns-in_err-append_tree-clause-err g c = on_err _
    (left_by_append _ _ _ c.args.path.now _ _ (spelling_of c.args.tree.now) c.in_ok-folder.ensures.parent
    c.in_ok-unfinished.ensures c.in_ok-make_folder.ensures.ok c.in_ok-create.ensures.ok
    (folder_fits _ c.args.path.now _ _ c.in_ok-folder.ensures.parent _ _ c.in_ok-make_folder.ensures.misused)
    (beside_fits _ c.args.path.now _ _ c.in_ok-folder.ensures.parent _ _ c.in_ok-unfinished.ensures
    c.in_ok-make_folder.ensures.ok _ _ c.in_ok-create.ensures.misused)
    _ c.in_err-append_tree.ensures.err)

pub returns-in_err-rename-clause-err : goal.returns-in_err-rename-clause-err
returns-in_err-rename-clause-err g c = on_err _
    (left_by_rename _ _ _ c.args.path.now _ _ (spelling_of c.args.tree.now) c.in_ok-folder.ensures.parent
    c.in_ok-unfinished.ensures c.in_ok-make_folder.ensures.ok c.in_ok-create.ensures.ok
    (folder_fits _ c.args.path.now _ _ c.in_ok-folder.ensures.parent _ _ c.in_ok-make_folder.ensures.misused)
    (beside_fits _ c.args.path.now _ _ c.in_ok-folder.ensures.parent _ _ c.in_ok-unfinished.ensures
    c.in_ok-make_folder.ensures.ok _ _ c.in_ok-create.ensures.misused)
    _ _ c.in_ok-append_tree.ensures.ok c.in_err-rename.ensures.err)

pub returns-in_err-create-clause-misused : goal.returns-in_err-create-clause-misused
returns-in_err-create-clause-misused g c = after_create _ c.args.path.now _ _ _ _ _ _ _
    c.in_ok-folder.ensures.parent c.in_ok-unfinished.ensures c.in_ok-make_folder.ensures.ok
    (after_folder _ c.args.path.now _ _ _ _ c.in_ok-folder.ensures.parent c.in_ok-make_folder.ensures.misused)
    c.in_err-create.ensures.misused

pub append_tree-requires : goal.append_tree-requires
append_tree-requires g c = made_reads c.args.path.now c.in_ok-unfinished.unfinished _ _ c.in_ok-unfinished.ensures
    c.in_ok-create.ensures.ok

pub returns-in_err-append_tree-clause-misused : goal.returns-in_err-append_tree-clause-misused
returns-in_err-append_tree-clause-misused g c = may_stay _ _ _ _ (after_create _ c.args.path.now _ _ _ _ _ _ _
    c.in_ok-folder.ensures.parent c.in_ok-unfinished.ensures c.in_ok-make_folder.ensures.ok
    (after_folder _ c.args.path.now _ _ _ _ c.in_ok-folder.ensures.parent c.in_ok-make_folder.ensures.misused)
    c.in_ok-create.ensures.misused) c.append_tree.ensures.misused

pub returns-in_err-rename-clause-misused : goal.returns-in_err-rename-clause-misused
returns-in_err-rename-clause-misused g c = after_rename _ c.args.path.now _ _
    (spelling_of c.args.tree.now) _ _ _ _ _ _ _
    (second_byte c.args.path.now (search (rules, c.requires.beside)) c.requires.not_root)
    c.in_ok-folder.ensures.parent c.in_ok-unfinished.ensures c.in_ok-make_folder.ensures.ok
    c.in_ok-create.ensures.ok c.in_ok-append_tree.ensures.ok
    (may_stay _ _ _ _ (after_create _ c.args.path.now _ _ _ _ _ _ _
    c.in_ok-folder.ensures.parent c.in_ok-unfinished.ensures c.in_ok-make_folder.ensures.ok
    (after_folder _ c.args.path.now _ _ _ _ c.in_ok-folder.ensures.parent c.in_ok-make_folder.ensures.misused)
    c.in_ok-create.ensures.misused) c.in_ok-append_tree.ensures.misused)
    c.in_err-rename.ensures.misused

pub returns-clause-misused : goal.returns-clause-misused
returns-clause-misused g c = after_rename _ c.args.path.now _ _ (spelling_of c.args.tree.now) _ _ _ _ _ _ _
    (second_byte c.args.path.now (search (rules, c.requires.beside)) c.requires.not_root)
    c.in_ok-folder.ensures.parent c.in_ok-unfinished.ensures c.in_ok-make_folder.ensures.ok
    c.in_ok-create.ensures.ok c.in_ok-append_tree.ensures.ok
    (may_stay _ _ _ _ (after_create _ c.args.path.now _ _ _ _ _ _ _
    c.in_ok-folder.ensures.parent c.in_ok-unfinished.ensures c.in_ok-make_folder.ensures.ok
    (after_folder _ c.args.path.now _ _ _ _ c.in_ok-folder.ensures.parent c.in_ok-make_folder.ensures.misused)
    c.in_ok-create.ensures.misused) c.in_ok-append_tree.ensures.misused)
    c.in_ok-rename.ensures.misused
