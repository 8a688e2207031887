-- All that a command sees: the world, the spawners of detect children, and the caches.
use Rattle.std.specs.Prelude.{◌≡◌, List, Result}
use Rattle.steps.specs.Outside.{Outside, Seen, SpawnerSeen}
use Rattle.shelf_set.specs.Caches.{Caches, WorldAndCaches}

pub record Surroundings : Type 0 where
  pub world : Seen
  pub spawners : List SpawnerSeen
  pub caches : Caches

abbrev pub surroundings : Outside → Caches → Surroundings
surroundings outside caches = record { world = outside.world; spawners = outside.spawners; caches = caches }

-- the world and the spawners
abbrev pub outside_of : Surroundings → Outside
outside_of all = record { world = all.world; spawners = all.spawners }

-- the world and the caches
abbrev pub caches_beside : Surroundings → WorldAndCaches
caches_beside all = record { world = all.world; caches = all.caches }

-- steps over the world alone,
unfoldable pub over_world : {E A : Type 0} → (Seen → Result A E → Seen → Type 0) → Surroundings → Result A E
    → Surroundings → Type 0
over_world step old result new = step old.world result new.world × (new.spawners ≡ old.spawners)
    × (new.caches ≡ old.caches)

-- over the world and the spawners,
unfoldable pub over_outside : {E A : Type 0} → (Outside → Result A E → Outside → Type 0) → Surroundings
    → Result A E → Surroundings → Type 0
over_outside step old result new = step (outside_of old) result (outside_of new) × (new.caches ≡ old.caches)

-- and over the world and the caches
unfoldable pub over_caches : {E A : Type 0} → (WorldAndCaches → Result A E → WorldAndCaches → Type 0)
    → Surroundings → Result A E → Surroundings → Type 0
over_caches step old result new = step (caches_beside old) result (caches_beside new) × (new.spawners ≡ old.spawners)
