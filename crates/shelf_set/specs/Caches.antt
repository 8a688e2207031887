-- A world and the caches beside it, as the steps of a phase see them.
use Rattle.std.specs.Prelude.{ℕ, ◌≡◌, List, Result}
use Rattle.steps.specs.Outside.{Seen}
use Rattle.shelf_set.specs.ShelfState.{ShelfState, shelves_seen}
use Rattle.cnb_world.specs.declared.shelf.Shelf as shelf
use Rattle.shelf_set.specs.declared.caches.Caches as declared

-- all shelves of a list, and the numbers of those that stand, which are its first
pub record Caches : Type 0 where
  pub shelves : List ShelfState
  pub standing : List ℕ

abbrev pub caches_of : List ShelfState → List ℕ → Caches
caches_of shelves standing = record { shelves = shelves; standing = standing }

pub record WorldAndCaches : Type 0 where
  pub world : Seen
  pub caches : Caches

abbrev pub world_and_caches : Seen → Caches → WorldAndCaches
world_and_caches world caches = record { world = world; caches = caches }

-- steps over the world alone
unfoldable pub in_world : {E A : Type 0} → (Seen → Result A E → Seen → Type 0) → WorldAndCaches → Result A E
    → WorldAndCaches → Type 0
in_world step old result new = step old.world result new.world × (new.caches ≡ old.caches)

-- steps over the caches alone
unfoldable pub in_caches : {E A : Type 0} → (Caches → Result A E → Caches → Type 0) → WorldAndCaches → Result A E
    → WorldAndCaches → Type 0
in_caches step old result new = step old.caches result new.caches × (new.world ≡ old.world)

-- what contracts see of caches
abbrev pub caches_seen : {X : Type 0} {F : X → Type 0} → ((x : X) → shelf.Ghosts (F x)) → declared.Caches X F → Caches
caches_seen ghosts caches = caches_of (shelves_seen ghosts caches.shelves.items) caches.places
