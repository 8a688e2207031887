use Rattle.std.proofs.Common.{◌≡◌, ◌++◌, ◌+◌, length}
use Rattle.tree_canon.specs.Parts.{bytes_of_parts}
use Rattle.tree_canon.proofs.parts.Parts.write.Given as goal

abbrev pub invariant-loop-self : goal.invariant-loop-self
invariant-loop-self l = l.out.items ++ bytes_of_parts l.self.items.items
    ≡ l.fn.out.items ++ bytes_of_parts l.fn.self.items.items

abbrev pub decreases-loop-self : goal.decreases-loop-self
decreases-loop-self l = length (bytes_of_parts l.self.items.items) + length l.self.items.items
