-- A spawner over the programs of the system.
use Rattle.std.specs.Prelude.{ℕ, List}
use Rattle.cnb_world.specs.Runs.{Ran}

-- the children that ended, in order, and how many gave no answer
pub record Spawned : Type 0 where
  pub runs : List Ran
  pub faults : ℕ
