use Rattle.std.proofs.Common.{map}
use Rattle.steps.specs.Outside.{seen}
use Rattle.shelf_set.specs.ShelfState.{state_of}
use Rattle.shelf_set.specs.StoringEach.{Putting}
use Rattle.shelf_set.proofs.storing.put_folders.Given as goal

abbrev pub invariant-loop-number : goal.invariant-loop-number
invariant-loop-number g l =
    Putting l.layers l.folders l.number l.fn.failed.items l.failed.items
    (map (λ b. state_of ((goal.Shelf-dyn g (b.vtable, b.value)).held b.value)
    ((goal.Shelf-dyn g (b.vtable, b.value)).rows b.value)
    ((goal.Shelf-dyn g (b.vtable, b.value)).faults b.value)) l.fn.shelves.items)
    (map (λ b. state_of ((goal.Shelf-dyn g (b.vtable, b.value)).held b.value)
    ((goal.Shelf-dyn g (b.vtable, b.value)).rows b.value)
    ((goal.Shelf-dyn g (b.vtable, b.value)).faults b.value)) l.shelves.items)
    (seen g.W.World l.fn.world) (seen g.W.World l.world)
