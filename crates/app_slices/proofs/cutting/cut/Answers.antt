use Rattle.std.proofs.lemmas.Result.{IfOk-weaker}
use Rattle.app_slices.proofs.Slots.{slot_is}
use Rattle.app_slices.proofs.CutTrees.{cut_once, cut_lays, cut_sorted}
use Rattle.app_slices.proofs.cutting.cut.Goals as goal

pub returns-clause-slots : goal.returns-clause-slots
returns-clause-slots c = slot_is c.args.slices.now

pub returns-clause-items : goal.returns-clause-items
returns-clause-items c = cut_sorted c.args.slices.now c.args.app.now c.cut_tree.ensures.tree

pub returns-clause-once : goal.returns-clause-once
returns-clause-once c = IfOk-weaker c.cut_tree.result _ _
    (λ trees is. cut_once c.args.slices.now c.args.app.now trees c.cut_tree.ensures.tree is)
    c.cut_tree.ensures.trees

pub returns-clause-lays : goal.returns-clause-lays
returns-clause-lays c = IfOk-weaker c.cut_tree.result _ _
    (λ trees is. cut_lays c.args.slices.now c.args.app.now trees c.cut_tree.ensures.tree is)
    c.cut_tree.ensures.trees
