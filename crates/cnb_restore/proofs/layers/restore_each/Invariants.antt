use Rattle.std.proofs.Common.{◌≡◌, ◌+◌, drop, length, map, Result}
use Rattle.shelf_set.specs.Caches.{WorldAndCaches, caches_of, world_and_caches}
use Rattle.shelf_set.specs.ShelfState.{shelf_seen}
use Rattle.steps.specs.Outside.{seen}
use Rattle.cnb_restore.specs.declared.fault.RestoreFault.{RestoreFault}
use Rattle.cnb_restore.specs.declared.restored.Restored.{Restored}
use Rattle.cnb_restore.specs.Restores.{restores_each}
use Rattle.cnb_restore.proofs.layers.restore_each.Given as goal

-- the layers from here on are the rest of all
abbrev pub invariant-loop-name : goal.invariant-loop-name
invariant-loop-name g l = record {
  step : (result : Result Restored RestoreFault) (new : WorldAndCaches)
      → restores_each l.folder (map (λ row. row.now) l.app) (map (λ row. row.now) l.cache)
      (drop l.name-index (map (λ name. name.now) l.names)) l.so_far
      (world_and_caches (seen g.W.World l.world) (caches_of
      (map (λ b. shelf_seen (goal.Shelf-dyn g (b.vtable, b.value)) b.value) l.caches.shelves.items)
      l.caches.places)) result new
      → restores_each l.folder (map (λ row. row.now) l.app) (map (λ row. row.now) l.cache)
      (map (λ name. name.now) l.names) l.fn.restored
      (world_and_caches (seen g.W.World l.fn.world)
      (caches_of (map (λ b. shelf_seen (goal.Shelf-dyn g (b.vtable, b.value)) b.value)
      l.fn.caches.shelves.items) l.fn.caches.places)) result new;
  count : length l.so_far.gone + length l.caches.places ≡ length l.fn.restored.gone + length l.fn.caches.places;
}
