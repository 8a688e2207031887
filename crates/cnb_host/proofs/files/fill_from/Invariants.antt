use Rattle.std.proofs.Common.{◌≤◌, length}
use Rattle.cnb_host.proofs.files.fill_from.Given as goal

abbrev pub invariant-loop : goal.invariant-loop
invariant-loop g l = l.count ≤ length l.room
