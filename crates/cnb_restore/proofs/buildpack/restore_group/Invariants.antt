use Rattle.std.proofs.Common.{◌≡◌, ◌+◌, drop, length, map, Result}
use Rattle.shelf_set.specs.Caches.{WorldAndCaches, caches_of, world_and_caches}
use Rattle.shelf_set.specs.ShelfState.{shelf_seen}
use Rattle.steps.specs.Outside.{seen}
use Rattle.cnb_restore.specs.declared.fault.RestoreFault.{RestoreFault}
use Rattle.cnb_restore.specs.declared.restored.Restored.{Restored}
use Rattle.cnb_restore.specs.Restores.{restores_group}
use Rattle.cnb_restore.proofs.buildpack.restore_group.Given as goal

-- the buildpacks from here on are the rest of all
abbrev pub invariant-loop-row : goal.invariant-loop-row
invariant-loop-row g l = record {
  step : (result : Result Restored RestoreFault) (new : WorldAndCaches)
      → restores_group l.layers l.sources (drop l.row-index l.group) l.so_far
      (world_and_caches (seen g.W.World l.world) (caches_of
      (map (λ b. shelf_seen (goal.Shelf-dyn g (b.vtable, b.value)) b.value) l.caches.shelves.items)
      l.caches.places)) result new
      → restores_group l.layers l.sources l.group l.fn.restored
      (world_and_caches (seen g.W.World l.fn.world)
      (caches_of (map (λ b. shelf_seen (goal.Shelf-dyn g (b.vtable, b.value)) b.value)
      l.fn.caches.shelves.items) l.fn.caches.places)) result new;
  count : length l.so_far.gone + length l.caches.places ≡ length l.fn.restored.gone + length l.fn.caches.places;
}
