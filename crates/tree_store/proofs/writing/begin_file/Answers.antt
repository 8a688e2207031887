use Rattle.std.proofs.Common.{Err, Ok}
use Rattle.std.proofs.lemmas.Result.{err_from_is_err_and}
use Rattle.tree_store.specs.Writing.{new_path}
use Rattle.tree_store.proofs.NewPlace.{place_created, place_made}
use Rattle.tree_store.proofs.Ways.{when_ok}
use Rattle.tree_store.proofs.Written.{create_around, create_misuse, folder_around, folder_misuse, others_called}
use Rattle.tree_store.proofs.Written.{others_memory, others_then, trees_blamed}
use Rattle.tree_store.proofs.writing.begin_file.Goals as goal

pub returns-in_err-trees-clause-leaves : goal.returns-in_err-trees-clause-leaves
returns-in_err-trees-clause-leaves g c =
    let exit = err_from_is_err_and c.from_residual.result c.from_residual.ensures.1 in
    rw (exit.1, exit.2) (others_memory (new_path c.args.store.now) _)

pub returns-in_err-or_blame-clause-leaves : goal.returns-in_err-or_blame-clause-leaves
returns-in_err-or_blame-clause-leaves g c =
    let exit = err_from_is_err_and c.from_residual-in_err-or_blame.result c.from_residual-in_err-or_blame.ensures.1 in
    rw (exit.1, exit.2) (others_called g.W.World (new_path c.args.store.now) _ c.make_folder.result
    (Err c.in_err-or_blame.field-0.0) _ _
    (folder_around g.W.World c.args.store.now _ c.make_folder.result _ _ c.in_ok-trees.ensures.path
    c.make_folder.ensures.ok c.make_folder.ensures.err c.make_folder.ensures.runs
    c.make_folder.ensures.misused)
    (place_made c.args.store.now _ c.make_folder.result _ _ c.in_ok-trees.ensures.path c.make_folder.ensures.ok
    c.make_folder.ensures.err)
    c.make_folder.ensures.children c.make_folder.ensures.files c.make_folder.ensures.at
    c.in_err-or_blame.ensures.counts c.in_err-or_blame.ensures.last)

pub returns-clause-leaves : goal.returns-clause-leaves
returns-clause-leaves g c =
    others_then (others_called g.W.World (new_path c.args.store.now) _ c.make_folder.result (Ok tt) _ _
    (folder_around g.W.World c.args.store.now _ c.make_folder.result _ _ c.in_ok-trees.ensures.path
    c.make_folder.ensures.ok c.make_folder.ensures.err c.make_folder.ensures.runs
    c.make_folder.ensures.misused)
    (place_made c.args.store.now _ c.make_folder.result _ _ c.in_ok-trees.ensures.path c.make_folder.ensures.ok
    c.make_folder.ensures.err)
    c.make_folder.ensures.children c.make_folder.ensures.files c.make_folder.ensures.at
    c.in_ok-or_blame.ensures.counts c.in_ok-or_blame.ensures.last)
    (others_called g.W.World (new_path c.args.store.now) _ c.create.result c.or_blame-2.result _ _
    (create_around g.W.World c.args.store.now _ c.create.result _ _ c.requires.path c.create.ensures.ok
    c.create.ensures.err c.create.ensures.runs c.create.ensures.misused)
    (place_created c.args.store.now _ _ c.create.result _ _ c.requires.path c.create.ensures.ok c.create.ensures.err)
    c.create.ensures.children c.create.ensures.files c.create.ensures.at c.or_blame-2.ensures.counts
    c.or_blame-2.ensures.last)

pub returns-clause-blames : goal.returns-clause-blames
returns-clause-blames g c = trees_blamed c.args.store.now c.args.path.now c.or_blame-2.result c.requires.path
    c.or_blame-2.ensures.blames

pub returns-clause-misused : goal.returns-clause-misused
returns-clause-misused g c =
    create_misuse c.args.store.now c.in_ok-trees.trees c.args.path.now c.create.result _ _ _ _ _
    c.in_ok-trees.ensures.path c.in_ok-trees.ensures.is_path c.requires.path
    (when_ok c.make_folder.result c.in_ok-or_blame.ensures.ok c.make_folder.ensures.ok)
    (folder_misuse c.args.store.now c.in_ok-trees.trees c.make_folder.result _ _ _ c.in_ok-trees.ensures.path
    c.make_folder.ensures.misused) c.create.ensures.misused
