use Rattle.std.proofs.Common.{◌≡◌, ◌∙◌, ℕ, List, ap, false}
use Rattle.tree_store.specs.Writing.{new_path, trees_of}
use Rattle.cnb_world.specs.Tree.{is_root, is_within}
use Rattle.tree_store.proofs.Settled.{blames_fault, blames_later, cleared_gone, cleared_later, new_plain, new_within}
use Rattle.tree_store.proofs.naming.cleared.Goals as goal

plain : (store file : List ℕ) → file ≡ new_path store → is_root file ≡ false
plain store file at = ap is_root at ∙ new_plain store

pub returns-in-Ok-clause-cleared : goal.returns-in-Ok-clause-cleared
returns-in-Ok-clause-cleared g c =
    cleared_gone c.args.fault c.requires c.in-Ok.ensures.leaves c.in-Ok.ensures.last c.in-Ok.ensures.ok
    (c.in-Ok.ensures.right (plain c.args.store.now c.args.file.now c.requires))

pub returns-in-Err-clause-cleared : goal.returns-in-Err-clause-cleared
returns-in-Err-clause-cleared g c =
    cleared_later c.args.fault c.in-Err.failed _ c.later.ensures c.in-Err.ensures.free c.requires
    c.in-Err.ensures.leaves (c.in-Err.ensures.right (plain c.args.store.now c.args.file.now c.requires))

pub returns-in-Err-clause-blames : goal.returns-in-Err-clause-blames
returns-in-Err-clause-blames g c =
    blames_later (trees_of c.args.store.now) c.args.fault c.in-Err.failed _ c.later.ensures
    (blames_fault (trees_of c.args.store.now) c.args.file.now c.in-Err.failed
    (ap (is_within (trees_of c.args.store.now)) c.requires ∙ new_within c.args.store.now)
    c.in-Err.ensures.blames)
