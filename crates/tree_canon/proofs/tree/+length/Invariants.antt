use Rattle.std.proofs.Common.{◌≡◌, ◌+◌, ◌≤◌, drop, length}
use Rattle.tree_canon.specs.Spelling.{limit, node_bytes, entries_bytes}
use Rattle.tree_canon.specs.Writing.{room}
use Rattle.tree_canon.proofs.tree.+length.Given as goal

abbrev pub invariant-length_past-loop-entry : goal.invariant-length_past-loop-entry
invariant-length_past-loop-entry l = record {
  sum : room (l.total + length (entries_bytes (drop l.entry-index l.entry-items)))
      ≡ room (l.fn.total + length (node_bytes l.node));
  few : l.total ≤ limit;
}
