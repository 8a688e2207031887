use Rattle.std.proofs.Common.{map}
use Rattle.steps.specs.Outside.{seen}
use Rattle.shelf_set.specs.ShelfState.{state_of}
use Rattle.shelf_set.proofs.SearchTrees.{SearchingTree}
use Rattle.shelf_set.proofs.searching.search.Given as goal

abbrev pub invariant-loop-asked : goal.invariant-loop-asked
invariant-loop-asked g l =
    SearchingTree l.free l.digest l.root
    (map (λ b. state_of ((goal.Shelf-dyn g (b.vtable, b.value)).held b.value)
    ((goal.Shelf-dyn g (b.vtable, b.value)).rows b.value)
    ((goal.Shelf-dyn g (b.vtable, b.value)).faults b.value)) l.fn.shelves.items)
    (map (λ b. state_of ((goal.Shelf-dyn g (b.vtable, b.value)).held b.value)
    ((goal.Shelf-dyn g (b.vtable, b.value)).rows b.value)
    ((goal.Shelf-dyn g (b.vtable, b.value)).faults b.value)) l.shelves.items)
    l.fn.numbers.items l.numbers.items l.at l.asked (seen g.W.World l.fn.world) (seen g.W.World l.world)
