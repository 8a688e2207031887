use Rattle.std.proofs.Common.{◌≡◌, ◌+◌, length, take}
use Rattle.std.specs.List.{sum_by}
use Rattle.tree_canon.specs.Scanning.{length_before}
use Rattle.tree_canon.proofs.scanner.Scanner.held.Given as goal

abbrev pub invariant-loop-folder : goal.invariant-loop-folder
invariant-loop-folder l = l.held ≡ length_before l.self.next + length l.self.part.items + sum_by
    (λ f. length f.name) (take l.folder-index l.self.folders.items)
