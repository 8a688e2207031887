use Rattle.std.proofs.Common.{drop}
use Rattle.cnb_world.specs.Calls.{AreNames}
use Rattle.cnb_host.proofs.names.are_names.Given as goal

abbrev pub invariant-loop-at : goal.invariant-loop-at
invariant-loop-at l = AreNames (drop l.at l.names)
