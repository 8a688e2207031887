use Rattle.std.proofs.Common.{◌≡◌, ◌∙◌, subst, sym}
use Rattle.std.specs.Prelude.{IfSome}
use Rattle.cnb_world.specs.Tree.{item_at, kind_of}
use Rattle.tree_store.specs.Right.{AreFolders, way_to}
use Rattle.tree_store.proofs.Partly.{partly_itself, partly_then}
use Rattle.tree_store.proofs.laying.lay_folder.Goals as goal

pub returns-in_err-kind-clause-right : goal.returns-in_err-kind-clause-right
returns-in_err-kind-clause-right g c = λ all. c.kind.ensures.misused

pub returns-in_err-lay_folder_over-clause-right : goal.returns-in_err-lay_folder_over-clause-right
returns-in_err-lay_folder_over-clause-right g c = λ all. c.lay_folder_over.ensures.right
    (subst (λ o. IfSome o (λ files. c.in_ok-kind.kind ≡ kind_of (item_at files c.args.path.now)))
    (sym c.kind.ensures.tree) c.in_ok-kind.ensures.told)
    (subst (AreFolders (way_to c.args.path.now)) (sym c.kind.ensures.tree) all) ∙ c.kind.ensures.misused

pub returns-clause-right : goal.returns-clause-right
returns-clause-right g c = λ all. c.lay_folder_over.ensures.right
    (subst (λ o. IfSome o (λ files. c.in_ok-kind.kind ≡ kind_of (item_at files c.args.path.now)))
    (sym c.kind.ensures.tree) c.in_ok-kind.ensures.told)
    (subst (AreFolders (way_to c.args.path.now)) (sym c.kind.ensures.tree) all) ∙ c.kind.ensures.misused

pub returns-in_err-kind-clause-partly : goal.returns-in_err-kind-clause-partly
returns-in_err-kind-clause-partly g c = partly_itself _ _ _ _ c.kind.ensures.tree

pub returns-in_err-lay_folder_over-clause-partly : goal.returns-in_err-lay_folder_over-clause-partly
returns-in_err-lay_folder_over-clause-partly g c = partly_then _ _ _ _ _
    (partly_itself _ _ _ _ c.kind.ensures.tree) (c.lay_folder_over.ensures.partly
    (subst (λ o. IfSome o (λ files. c.in_ok-kind.kind ≡ kind_of (item_at files c.args.path.now)))
    (sym c.kind.ensures.tree) c.in_ok-kind.ensures.told))

pub returns-clause-partly : goal.returns-clause-partly
returns-clause-partly g c = partly_then _ _ _ _ _ (partly_itself _ _ _ _ c.kind.ensures.tree)
    (c.lay_folder_over.ensures.partly (subst (λ o. IfSome o
    (λ files. c.in_ok-kind.kind ≡ kind_of (item_at files c.args.path.now)))
    (sym c.kind.ensures.tree) c.in_ok-kind.ensures.told))
