use Rattle.std.proofs.Common.{◌≡◌}
use Rattle.cnb_world.specs.Calls.{AreNames}
use Rattle.cnb_world.proofs.memory.liar.LiarWorld.list.Given as goal

abbrev pub invariant-loop : goal.invariant-loop
invariant-loop l = record {
  names : AreNames l.names.items;
  runs : l.self.runs ≡ l.fn.self.runs;
}
