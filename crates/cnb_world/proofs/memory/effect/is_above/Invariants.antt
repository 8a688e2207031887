use Rattle.std.proofs.Common.{◌≡◌}
use Rattle.std.specs.List.{list_any}
use Rattle.std.specs.Str.{bytes_eq}
use Rattle.cnb_world.specs.Names.{on_way}
use Rattle.cnb_world.specs.Tree.{folders_above}
use Rattle.cnb_world.proofs.memory.effect.is_above.Given as goal

abbrev pub invariant-loop-place : goal.invariant-loop-place
invariant-loop-place l = list_any (bytes_eq l.folder) (on_way l.path l.place)
    ≡ list_any (bytes_eq l.folder) (folders_above l.path)
