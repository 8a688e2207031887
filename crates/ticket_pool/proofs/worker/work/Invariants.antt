use Rattle.std.proofs.Common.{◌-◌, ◌≤◌, length, vec_capacity, vec_len}
use Rattle.ticket_pool.specs.Passes.{IsPassOf, view_of}
use Rattle.ticket_pool.proofs.WorkLemmas.{Going}
use Rattle.ticket_pool.proofs.worker.work.Given as goal

abbrev pub invariant-draws : goal.invariant-draws
invariant-draws g l = record {
  of : IsPassOf l.round l.pass;
  going : Going g.S.Spawner.runs g.S.Spawner.says g.S.Spawner.faults l.jobs l.initial.spawner l.spawner
      l.list.items (view_of l.pass);
  room : length l.jobs ≤ vec_capacity l.list;
}

abbrev pub decreases-draws : goal.decreases-draws
decreases-draws g l = length l.jobs - vec_len l.list
