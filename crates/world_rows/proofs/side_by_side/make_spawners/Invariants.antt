use Rattle.std.proofs.Common.{◌≡◌, vec_len}
use Rattle.world_rows.proofs.side_by_side.make_spawners.Given as goal

abbrev pub invariant-loop : goal.invariant-loop
invariant-loop l = vec_len l.spawners ≡ l.counter
