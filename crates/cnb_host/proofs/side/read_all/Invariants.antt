use Rattle.std.proofs.Common.{◌≤◌, vec_len}
use Rattle.cnb_host.proofs.side.read_all.Given as goal

abbrev pub invariant-loop : goal.invariant-loop
invariant-loop l = vec_len l.kept ≤ 1048578
