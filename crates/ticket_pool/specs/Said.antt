-- Spawners whose children answer as the spawner says.
use Rattle.std.specs.Prelude.{◌≡◌, List, ◌++◌, Option}
use Rattle.std.specs.List.{AllByRecursion}
use Rattle.cnb_world.specs.Runs.{Ran, IsSaid}
use Rattle.cnb_world.specs.declared.child.Reply.{Reply}

-- each of these runs is as a spawner says that says this
abbrev pub AllSaid : Option (List Reply) → List Ran → Type 0
AllSaid replies rows = AllByRecursion (λ row. IsSaid replies row.job row.probed) rows

-- a spawner ran more children, each of which answered as it says
pub record RanAsSaid {S : Type 0} (runs : S → List Ran) (says : S → Option (List Reply)) (old new : S) : Type 0 where
  pub more : List Ran
  pub grown : runs new ≡ runs old ++ more
  pub said : AllSaid (says old) more
