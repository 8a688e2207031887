use Rattle.std.proofs.Common.{map}
use Rattle.shelf_set.specs.ShelfState.{state_of}
use Rattle.shelf_set.specs.Turns.{Settling}
use Rattle.shelf_set.proofs.turns.settle_each.Given as goal

abbrev pub invariant-loop-fails : goal.invariant-loop-fails
invariant-loop-fails g l =
    Settling l.failed l.fails-index
    (map (λ b. state_of ((goal.Shelf-dyn g (b.vtable, b.value)).held b.value)
    ((goal.Shelf-dyn g (b.vtable, b.value)).rows b.value)
    ((goal.Shelf-dyn g (b.vtable, b.value)).faults b.value)) l.fn.shelves.items)
    (map (λ b. state_of ((goal.Shelf-dyn g (b.vtable, b.value)).held b.value)
    ((goal.Shelf-dyn g (b.vtable, b.value)).rows b.value)
    ((goal.Shelf-dyn g (b.vtable, b.value)).faults b.value)) l.shelves.items)
    l.fn.numbers.items l.numbers.items l.at
