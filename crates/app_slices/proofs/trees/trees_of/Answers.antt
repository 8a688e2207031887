use Rattle.std.proofs.Common.{◌++◌, ◌∙◌, ap, arith}
use Rattle.std.specs.Option.{option_map, option_to_list}
use Rattle.std.proofs.lemmas.Bool.{ne_eqb}
use Rattle.tree_canon.specs.declared.node.Node.TheVariants.{Folder}
use Rattle.app_slices.specs.Cutting.{entries_at}
use Rattle.app_slices.proofs.CutSlots.{slot_more, last_slot}
use Rattle.app_slices.proofs.trees.trees_of.Goals as goal

pub loop-slot-preserved : goal.loop-slot-preserved
loop-slot-preserved c = record {
  trees = c.in_ok-move_tree.ensures.trees
      ∙ ap (λ ts. ts ++ option_to_list (option_map Folder (entries_at c.loop-slot.parts c.loop-slot.slot)))
      c.loop-slot.invariant.trees
      ∙ slot_more c.args.parts c.loop-slot.parts c.loop-slot.slot
      (c.loop-slot.invariant.others c.loop-slot.slot (omega arith));
  others = λ k h. c.in_ok-move_tree.ensures.others k (ne_eqb k c.loop-slot.slot (λ is. absurd (omega (arith, h, is))))
      ∙ c.loop-slot.invariant.others k (omega (arith, h));
}

pub returns : goal.returns
returns c =
    c.in_ok-move_tree-2.ensures.trees
    ∙ ap (λ ts. ts ++ option_to_list (option_map Folder (entries_at c.loop-slot.parts c.args.rest)))
    c.loop-slot.invariant.trees
    ∙ last_slot c.args.parts c.loop-slot.parts c.loop-slot.slot c.args.rest (omega arith)
    (c.loop-slot.invariant.others c.args.rest (omega arith))
