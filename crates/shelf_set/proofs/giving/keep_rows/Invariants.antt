use Rattle.shelf_set.specs.ShelfState.{state_of}
use Rattle.shelf_set.specs.Giving.{Keeping}
use Rattle.shelf_set.proofs.giving.keep_rows.Given as goal

abbrev pub invariant-loop-row : goal.invariant-loop-row
invariant-loop-row g l =
    Keeping l.yielded l.kept
    (state_of ((goal.Shelf-dyn g (l.fn.shelf.vtable, l.fn.shelf.value)).held l.fn.shelf.value)
    ((goal.Shelf-dyn g (l.fn.shelf.vtable, l.fn.shelf.value)).rows l.fn.shelf.value)
    ((goal.Shelf-dyn g (l.fn.shelf.vtable, l.fn.shelf.value)).faults l.fn.shelf.value))
    (state_of ((goal.Shelf-dyn g (l.shelf.vtable, l.shelf.value)).held l.shelf.value)
    ((goal.Shelf-dyn g (l.shelf.vtable, l.shelf.value)).rows l.shelf.value)
    ((goal.Shelf-dyn g (l.shelf.vtable, l.shelf.value)).faults l.shelf.value))
