-- Steps over a world or over caches, as steps over both.
use Rattle.std.proofs.Common.{refl, Result}
use Rattle.steps.specs.Outside.{Seen}
use Rattle.shelf_set.specs.Caches.{Caches, in_caches, in_world, world_and_caches}

pub within : {E A : Type 0} (step : Seen → Result A E → Seen → Type 0) (old new : Seen) (caches : Caches)
    (result : Result A E) → step old result new → in_world step (world_and_caches old caches) result
    (world_and_caches new caches)
unfolding in_world
within step old new caches result h = (h, refl)

pub within_caches : {E A : Type 0} (step : Caches → Result A E → Caches → Type 0) (world : Seen)
    (old new : Caches) (result : Result A E) → step old result new
    → in_caches step (world_and_caches world old) result (world_and_caches world new)
unfolding in_caches
within_caches step world old new result h = (h, refl)
