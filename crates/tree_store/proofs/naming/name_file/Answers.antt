use Rattle.std.proofs.Common.{◌∙◌, ap, None, refl}
use Rattle.std.proofs.lemmas.Result.{err_from_is_err_and}
use Rattle.cnb_world.specs.Tree.{is_within}
use Rattle.steps.specs.Outside.{seen}
use Rattle.tree_store.specs.Store.{tree_path}
use Rattle.tree_store.specs.Writing.{new_path, trees_of}
use Rattle.tree_store.proofs.Descents.{may_rise}
use Rattle.tree_store.proofs.Settled.{blames_fault, blames_in, names_free, new_within, put_others, put_others_then}
use Rattle.tree_store.proofs.Settled.{rename_others, same_right, then_named}
use Rattle.tree_store.proofs.Written.{others_memory, others_read, others_stop}
use Rattle.tree_store.proofs.naming.name_file.Goals as goal

pub returns-in_err-path-clause-leaves : goal.returns-in_err-path-clause-leaves
returns-in_err-path-clause-leaves g c =
    let exit = err_from_is_err_and c.from_residual.result c.from_residual.ensures.1 in
    rw (exit.1, exit.2) (put_others (others_memory (new_path c.args.store.now) _))

pub returns-in_err-path-clause-names : goal.returns-in_err-path-clause-names
returns-in_err-path-clause-names g c =
    λ before bytes digest_is short is kept.
    let exit = err_from_is_err_and c.from_residual.result c.from_residual.ensures.1 in
    rw (exit.1, exit.2) (names_free refl (same_right before _ _ _ refl))

pub returns-in_err-is_absent_at-clause-leaves : goal.returns-in_err-is_absent_at-clause-leaves
returns-in_err-is_absent_at-clause-leaves g c =
    let exit = err_from_is_err_and c.from_residual-in_err-is_absent_at.result
    c.from_residual-in_err-is_absent_at.ensures.1 in
    rw (exit.1, exit.2) (put_others (others_stop (others_read (new_path c.args.store.now)
    c.in_err-is_absent_at.ensures.leaves (may_rise None _ _ c.in_err-is_absent_at.ensures.misused))))

pub returns-in_err-is_absent_at-clause-blames : goal.returns-in_err-is_absent_at-clause-blames
returns-in_err-is_absent_at-clause-blames g c =
    let exit = err_from_is_err_and c.from_residual-in_err-is_absent_at.result
    c.from_residual-in_err-is_absent_at.ensures.1 in
    rw (exit.1, exit.2) (blames_fault (trees_of c.args.store.now) c.in_ok-path.path _ c.in_ok-path.ensures.within
    c.in_err-is_absent_at.ensures.blames)

pub returns-in_err-is_absent_at-clause-names : goal.returns-in_err-is_absent_at-clause-names
returns-in_err-is_absent_at-clause-names g c =
    λ before bytes digest_is short is kept.
    let exit = err_from_is_err_and c.from_residual-in_err-is_absent_at.result
    c.from_residual-in_err-is_absent_at.ensures.1 in
    rw (exit.1, exit.2) (names_free c.in_err-is_absent_at.ensures.free
    (same_right before _ _ _ c.in_err-is_absent_at.ensures.misused))

pub returns-then-branch-clause-leaves : goal.returns-then-branch-clause-leaves
returns-then-branch-clause-leaves g c =
    put_others_then (others_read (new_path c.args.store.now) c.in_ok-is_absent_at.ensures.leaves
    (may_rise None _ _ c.in_ok-is_absent_at.ensures.misused))
    (rename_others g.W.World c.args.store.now _ _ c.rename.result c.or_blame.result _ _ c.rename.ensures.err
    c.or_blame.ensures.err c.rename.ensures.runs c.rename.ensures.children c.rename.ensures.files
    c.rename.ensures.at c.or_blame.ensures.counts c.or_blame.ensures.last c.rename.ensures.misused)

pub returns-then-branch-clause-blames : goal.returns-then-branch-clause-blames
returns-then-branch-clause-blames g c = blames_in (trees_of c.args.store.now) c.in_ok-path.path c.or_blame.result
    c.in_ok-path.ensures.within c.or_blame.ensures.blames

pub returns-then-branch-clause-names : goal.returns-then-branch-clause-names
returns-then-branch-clause-names g c = λ before bytes digest_is short is kept.
    then_named c.args.store.now bytes c.in_ok-path.path c.args.file.now before c.in_ok-is_absent_at.field-0
    c.rename.result c.or_blame.result _ (seen g.W.World c.is_absent_at.new.world) _ c.if-branch.true
    (c.in_ok-path.ensures.path ∙ ap (tree_path c.args.store.now) digest_is) c.requires.file
    c.in_ok-path.ensures.apart c.in_ok-path.ensures.parent kept is c.in_ok-is_absent_at.ensures.told
    c.in_ok-is_absent_at.ensures.leaves.files c.in_ok-is_absent_at.ensures.misused
    c.rename.ensures.ok c.or_blame.ensures.ok c.or_blame.ensures.free c.rename.ensures.misused

pub returns-clause-blames : goal.returns-clause-blames
returns-clause-blames g c = c.settle.ensures.blames (trees_of c.args.store.now) c.in_ok-path.ensures.within
    (ap (is_within (trees_of c.args.store.now)) c.requires.file ∙ new_within c.args.store.now)
