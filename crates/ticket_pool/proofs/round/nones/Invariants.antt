use Rattle.std.proofs.Common.{◌≡◌, ◌≤◌, replicate, vec_capacity}
use Rattle.std.specs.Prelude.{None}
use Rattle.ticket_pool.proofs.round.nones.Given as goal

abbrev pub invariant-places : goal.invariant-places
invariant-places g l = record {
  so_far : l.list.items ≡ replicate l.counter None;
  room : l.count ≤ vec_capacity l.list;
}
