-- The spawners of the drill.
use Rattle.std.specs.Prelude.{ℕ, ◌≡◌, List, [], Some}
use Rattle.std.specs.List.{AllByRecursion}
use Rattle.steps.specs.Outside.{SpawnerSeen}
use Rattle.cnb_drill.specs.Replies.{drill_replies}

-- a spawner that ran no child yet
abbrev pub new_spawner : ℕ → SpawnerSeen
new_spawner number = record { runs = []; says = Some (drill_replies number); faults = 0 }

-- each spawner answers by the number's digits
abbrev pub AnswerBy : ℕ → List SpawnerSeen → Type 0
AnswerBy number spawners = AllByRecursion (λ spawner. spawner.says ≡ Some (drill_replies number)) spawners
