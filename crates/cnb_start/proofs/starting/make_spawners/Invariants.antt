use Rattle.std.proofs.Common.{◌≡◌, vec_len}
use Rattle.cnb_start.proofs.starting.make_spawners.Given as goal

abbrev pub invariant-loop : goal.invariant-loop
invariant-loop l = vec_len l.spawners ≡ l.counter
