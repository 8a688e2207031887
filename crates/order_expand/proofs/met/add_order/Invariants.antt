use Rattle.std.proofs.Common.{◌≡◌, ◌++◌, ◌≤◌, length, drop}
use Rattle.order_expand.specs.Check.{entries_of}
use Rattle.order_expand.specs.Met.{waiting_in}
use Rattle.order_expand.proofs.met.add_order.Given as goal

abbrev pub invariant-loop-place : goal.invariant-loop-place
invariant-loop-place l = record {
  within : l.place ≤ length l.order;
  added : waiting_in l.waiting.items ≡ entries_of (drop l.place l.order) ++ waiting_in l.initial.waiting.items;
}

abbrev pub decreases-loop-place : goal.decreases-loop-place
decreases-loop-place l = l.place
