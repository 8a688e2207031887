-- What `restore` does once the previous image is read.
use Rattle.std.specs.Prelude.{ℕ, List, Option, Result, Ok, Err, IsTrue}
use Rattle.std.specs.List.{AllByRecursion}
use Rattle.cnb_world.specs.Path.{is_part}
use Rattle.image_docs.specs.declared.image.ImageDoc.{ImageDoc}
use Rattle.image_docs.specs.declared.layer_row.LayerRow.{LayerRow}
use Rattle.run_docs.specs.declared.group.GroupRow.{GroupRow}
use Rattle.shelf_set.specs.Caches.{Caches, in_caches}
use Rattle.shelf_set.specs.CacheSteps.{gathers}
use Rattle.shelf_set.specs.declared.gathering.Gathered.{Gathered}
use Rattle.steps.specs.Steps.{◌>>=◌, gives}
use Rattle.cnb_restore.specs.declared.fault.RestoreFault.{RestoreFault}
use Rattle.cnb_restore.specs.Faults.{cause_of}
use Rattle.cnb_restore.specs.Restored.{gathered_first}
use Rattle.cnb_restore.specs.Restores.{Restoring, restores_group}

-- The rows of the caches are gathered, and the buildpacks are restored from them and from the previous image.
unfoldable pub restores_from : List ℕ → List GroupRow → Option ImageDoc → Restoring
restores_from layers group previous = do
  gathered ← in_caches (gathers cause_of)
  restored ← gives cause_of (Ok (gathered_first gathered.unread gathered.gone))
  restores_group layers (record { previous = previous; rows = gathered.rows }) group restored

-- Each row's layer has a name that is a part of a path. So its contents stand right in the buildpack's folder.
abbrev pub HavePartNames : List LayerRow → Type 0
HavePartNames rows = AllByRecursion (λ row. IsTrue (is_part row.layer)) rows

-- rows are gathered, and have such names
unfoldable pub gathers_named : Caches → Result Gathered RestoreFault → Caches → Type 0
gathers_named old (Ok gathered) new = gathers cause_of old (Ok gathered) new × HavePartNames gathered.rows
gathers_named old (Err fault) new = gathers cause_of old (Err fault) new

-- the same of a restoration from such rows
unfoldable pub restores_named : List ℕ → List GroupRow → Option ImageDoc → Restoring
restores_named layers group previous = do
  gathered ← in_caches gathers_named
  restored ← gives cause_of (Ok (gathered_first gathered.unread gathered.gone))
  restores_group layers (record { previous = previous; rows = gathered.rows }) group restored
