use Rattle.std.proofs.Common.{◌∙◌}
use Rattle.std.proofs.lemmas.Result.{IfOk-weaker}
use Rattle.app_slices.proofs.CutSlots.{are_trees, all_slots}
use Rattle.app_slices.proofs.cutting.cut_root.Goals as goal

pub trees_of-requires : goal.trees_of-requires
trees_of-requires c = are_trees c.args.slices.now c.args.entries.now c.in_ok-parts.parts c.requires
    c.in_ok-parts.ensures

pub returns : goal.returns
returns c =
    IfOk-weaker c.trees_of.result _ _ (λ trees is. is ∙ all_slots c.args.slices.now c.args.entries.now
    c.in_ok-parts.parts c.in_ok-parts.ensures) c.trees_of.ensures
