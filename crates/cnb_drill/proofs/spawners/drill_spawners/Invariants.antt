use Rattle.std.proofs.Common.{◌≡◌}
use Rattle.std.specs.Prelude.{replicate}
use Rattle.cnb_world.specs.contracts.memory.spawner.SureSpawnerSpawner.TheImpl.{ghosts}
use Rattle.steps.specs.Outside.{spawners_seen}
use Rattle.cnb_drill.specs.Spawners.{new_spawner}
use Rattle.cnb_drill.proofs.spawners.drill_spawners.Given as goal

abbrev pub invariant-loop : goal.invariant-loop
invariant-loop l = spawners_seen ghosts l.spawners.items ≡ replicate l.counter (new_spawner l.number)
