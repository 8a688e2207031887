use Rattle.std.proofs.Common.{map}
use Rattle.shelf_set.specs.ShelfState.{state_of}
use Rattle.shelf_set.specs.Giving.{Giving}
use Rattle.shelf_set.proofs.giving.give_each.Given as goal

abbrev pub invariant-loop-asked : goal.invariant-loop-asked
invariant-loop-asked g l =
    Giving (map (λ b. state_of ((goal.Shelf-dyn g (b.vtable, b.value)).held b.value)
    ((goal.Shelf-dyn g (b.vtable, b.value)).rows b.value)
    ((goal.Shelf-dyn g (b.vtable, b.value)).faults b.value)) l.fn.shelves.items)
    (map (λ b. state_of ((goal.Shelf-dyn g (b.vtable, b.value)).held b.value)
    ((goal.Shelf-dyn g (b.vtable, b.value)).rows b.value)
    ((goal.Shelf-dyn g (b.vtable, b.value)).faults b.value)) l.shelves.items)
    l.fn.numbers.items l.numbers.items l.given l.at l.asked
