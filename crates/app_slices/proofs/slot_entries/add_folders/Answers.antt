use Rattle.std.proofs.Common.{subst, ◌∙◌}
use Rattle.app_slices.specs.Cutting.{Adds, one_at}
use Rattle.app_slices.proofs.CutSlots.{folder_moved}
use Rattle.app_slices.proofs.slot_entries.add_folders.Goals as goal

pub loop-slot-preserved : goal.loop-slot-preserved
loop-slot-preserved c k =
    let adds = subst (λ e. Adds (one_at c.in-Some.slot e) c.loop-slot.parts c.add.new.parts) c.in_ok-named.ensures
    c.in_ok-add.ensures in
    folder_moved c.args.name.now c.loop-slot.left c.pop_first.new.self c.loop-slot.parts c.add.new.parts
    c.in-Some.slot c.in-Some.entries adds
    c.in-Some.ensures.value c.in-Some.ensures.updates.1 c.in-Some.ensures.updates.2 k
    ∙ c.loop-slot.invariant k
