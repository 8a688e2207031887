use Rattle.std.proofs.Common.{◌≡◌, ◌+◌, length}
use Rattle.order_expand.specs.Met.{waiting_in, unmet_count}
use Rattle.order_expand.proofs.Meeting.{Meets}
use Rattle.order_expand.proofs.met.first_fault.Given as goal

abbrev pub invariant-loop-entry : goal.invariant-loop-entry
invariant-loop-entry l = record {
  number : length l.marks.items ≡ length l.catalog;
  meets : Meets l.catalog l.fn.order l.marks.items (waiting_in l.waiting.items);
}

abbrev pub decreases-loop-entry : goal.decreases-loop-entry
decreases-loop-entry l = length l.waiting.items + unmet_count l.marks.items l.catalog
