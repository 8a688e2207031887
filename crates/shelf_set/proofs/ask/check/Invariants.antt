use Rattle.tree_store.specs.Checking.{HasChecked}
use Rattle.shelf_set.specs.ShelfState.{state_of}
use Rattle.shelf_set.proofs.AskLemmas.{Reading}
use Rattle.shelf_set.proofs.ask.check.Given as goal

abbrev pub invariant-loop-number : goal.invariant-loop-number
invariant-loop-number g l =
    Reading l.digest l.number (HasChecked l.checking)
    (state_of ((goal.Shelf-dyn g (l.fn.shelf.vtable, l.fn.shelf.value)).held l.fn.shelf.value)
    ((goal.Shelf-dyn g (l.fn.shelf.vtable, l.fn.shelf.value)).rows l.fn.shelf.value)
    ((goal.Shelf-dyn g (l.fn.shelf.vtable, l.fn.shelf.value)).faults l.fn.shelf.value))
    (state_of ((goal.Shelf-dyn g (l.shelf.vtable, l.shelf.value)).held l.shelf.value)
    ((goal.Shelf-dyn g (l.shelf.vtable, l.shelf.value)).rows l.shelf.value)
    ((goal.Shelf-dyn g (l.shelf.vtable, l.shelf.value)).faults l.shelf.value))
