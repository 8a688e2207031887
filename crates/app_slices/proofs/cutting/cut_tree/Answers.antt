use Rattle.std.proofs.Common.{◌≡◌, [], ◌∷◌, sym, subst, ◌∙◌}
use Rattle.std.proofs.lemmas.Result.{IfOk-weaker}
use Rattle.app_slices.specs.Slices.{slices_of}
use Rattle.app_slices.proofs.CutTrees.{file_uncut, link_uncut}
use Rattle.app_slices.proofs.cutting.cut_tree.Goals as goal

pub returns-in-File-clause-trees : goal.returns-in-File-clause-trees
returns-in-File-clause-trees c =
    let uncut = subst (λ n. slices_of c.args.slices.now n ≡ n ∷ []) (sym c.in-File.is ∙ c.node.ensures.root)
    (file_uncut c.args.slices.now _ _) in
    IfOk-weaker c.whole.result _ _ (λ trees is. is ∙ sym uncut) c.whole.ensures

pub returns-in-Link-clause-trees : goal.returns-in-Link-clause-trees
returns-in-Link-clause-trees c =
    let uncut = subst (λ n. slices_of c.args.slices.now n ≡ n ∷ []) (sym c.in-Link.is ∙ c.node.ensures.root)
    (link_uncut c.args.slices.now _) in
    IfOk-weaker c.whole-in-Link.result _ _ (λ trees is. is ∙ sym uncut) c.whole-in-Link.ensures
