use Rattle.std.proofs.Common.{◌≡◌, ◌≤◌, All, vec_capacity, vec_len}
use Rattle.ticket_pool.specs.Work.{HasRoom}
use Rattle.ticket_pool.proofs.room.reserved_lists.Given as goal

abbrev pub invariant-lists : goal.invariant-lists
invariant-lists l = record {
  count : vec_len l.lists ≡ l.counter;
  room : l.workers ≤ vec_capacity l.lists;
  each : All (λ list. HasRoom l.jobs list.items (vec_capacity list)) l.lists.items;
}
