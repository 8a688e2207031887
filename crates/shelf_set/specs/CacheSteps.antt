-- What the calls on caches do, as steps. One that is refused wants memory: failing caches are dropped, and no refusal.
use Rattle.std.specs.Prelude.{◌≡◌, Result, Ok, Err}
use Rattle.steps.specs.Causes.{Cause, OutOfMemory}
use Rattle.shelf_set.specs.Caches.{Caches}
use Rattle.shelf_set.specs.Finding.{LeavesSame}
use Rattle.shelf_set.specs.Gathering.{Gathers}
use Rattle.shelf_set.specs.declared.gathering.Gathered.{Gathered}

-- the rows of all caches are gathered
unfoldable pub gathers : {E : Type 0} → (E → Cause) → Caches → Result Gathered E → Caches → Type 0
gathers cause_of old (Ok gathered) new = Gathers old.shelves old.standing gathered new.shelves new.standing
gathers cause_of old (Err fault) new = (cause_of fault ≡ OutOfMemory)
    × LeavesSame old.shelves old.standing new.shelves new.standing
