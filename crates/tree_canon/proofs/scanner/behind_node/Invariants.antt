use Rattle.std.proofs.Common.{◌≡◌, ◌+◌, length, vec_len, reverse}
use Rattle.tree_canon.specs.Scanning.{behind_node, closes}
use Rattle.tree_canon.proofs.scanner.behind_node.Given as goal

abbrev pub invariant-loop-folder : goal.invariant-loop-folder
invariant-loop-folder l = record {
  place : behind_node (reverse l.folders.items) ≡ behind_node (reverse l.fn.folders.items);
  closes : l.closed + closes (reverse l.folders.items) ≡ closes (reverse l.fn.folders.items);
  few : l.closed + length l.folders.items ≡ length l.fn.folders.items;
}

abbrev pub decreases-loop-folder : goal.decreases-loop-folder
decreases-loop-folder l = vec_len l.folders
