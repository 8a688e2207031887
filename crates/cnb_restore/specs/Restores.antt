-- What `restore` does, in the order of its work (platform.md, "restorer").
use Rattle.std.specs.Prelude.{ℕ, Bool, true, false, List, Option, Some, None, Result, Ok, Err}
use Rattle.cnb_world.specs.Path.{joined}
use Rattle.image_docs.specs.declared.layer_row.LayerRow.{LayerRow}
use Rattle.image_docs.specs.declared.store_row.StoreRow.{StoreRow}
use Rattle.layer_flags.specs.declared.restore.RestoreRow.{RestoreRow}
use Rattle.layer_flags.specs.declared.restore.RestoreRow.TheVariants as part
use Rattle.run_docs.specs.declared.group.GroupRow.{GroupRow}
use Rattle.shelf_set.specs.Caches.{WorldAndCaches, in_caches, in_world}
use Rattle.shelf_set.specs.CacheSteps.{gathers}
use Rattle.shelf_set.specs.Restoring.{restores_tree}
use Rattle.shelf_set.specs.declared.restoring.Found.{Found}
use Rattle.shelf_set.specs.declared.restoring.Found.TheVariants as found
use Rattle.shelf_set.specs.declared.restoring.Search.{Search}
use Rattle.steps.specs.Each.{for_each}
use Rattle.steps.specs.Outside.{Seen}
use Rattle.steps.specs.Steps.{◌>>=◌, gives, makes_folder, map_err, reads, removes, yields}
use Rattle.cnb_restore.specs.declared.fault.RestoreFault.{RestoreFault}
use Rattle.cnb_restore.specs.declared.fault.RestoreFault.TheVariants.{Damaged}
use Rattle.cnb_restore.specs.declared.restored.Restored.{Restored}
use Rattle.cnb_restore.specs.declared.sources.Sources.{Sources}
use Rattle.cnb_restore.specs.Analyzes.{OnlyImage, is_fit_image, previous_in}
use Rattle.cnb_restore.specs.Faults.{cause_of, of_laying_fault}
use Rattle.cnb_restore.specs.Layers.{writes_layer, writes_store}
use Rattle.layer_paths.specs.Paths.{layers_folder}
use Rattle.cnb_restore.specs.Images.{kept_for, layers_of, store_of}
use Rattle.cnb_restore.specs.Restored.{after_search, gathered_first, with_layer}
use Rattle.cnb_restore.specs.Rows.{layer_names, restored_part, row_of, rows_of, source_of}

-- steps of a restoration: each begins with what was restored so far, and answers that with what it restored
abbrev pub Restoring : Type 1
Restoring = WorldAndCaches → Result Restored RestoreFault → WorldAndCaches → Type 0

-- a layer's document alone
unfoldable pub restores_document : List ℕ → LayerRow → Bool → Restored → Restoring
restores_document folder row contents restored = do
  written ← in_world (writes_layer folder row)
  gives cause_of (Ok (with_layer row contents restored))

-- a layer by what was found under its digest: nothing of it where no cache has its contents, and where they are laid
-- its document
unfoldable pub restores_found : List ℕ → LayerRow → Restored → Found → Restoring
restores_found folder row restored found.None = yields restored
restores_found folder row restored (found.Damaged asked is bad) = gives cause_of (Err (Damaged asked is bad))
restores_found folder row restored found.Laid = restores_document folder row true restored

-- a layer's contents, where caches have them
abbrev pub restores_held : List ℕ → LayerRow → WorldAndCaches → Result Search RestoreFault → WorldAndCaches → Type 0
restores_held folder row = map_err of_laying_fault (restores_tree row.digest (joined folder row.layer))

unfoldable pub restores_contents : List ℕ → LayerRow → Restored → Restoring
restores_contents folder row restored = do
  search ← restores_held folder row
  counted ← gives cause_of (Ok (after_search search.gone restored))
  restores_found folder row counted search.found

-- a layer, by its line of the table
unfoldable pub restores_part : List ℕ → Option LayerRow → RestoreRow → Restored → Restoring
restores_part folder None part restored = yields restored
restores_part folder (Some row) part.Nothing restored = yields restored
restores_part folder (Some row) part.Meta restored = restores_document folder row false restored
restores_part folder (Some row) part.Both restored = restores_contents folder row restored

unfoldable pub restores_layer : List ℕ → List LayerRow → List LayerRow → List ℕ → Restored → Restoring
restores_layer folder app cache name restored =
    restores_part folder (source_of (row_of name app) (row_of name cache))
    (restored_part (row_of name app) (row_of name cache)) restored

-- layers, one after another
unfoldable pub restores_each : List ℕ → List LayerRow → List LayerRow → List (List ℕ) → Restored → Restoring
restores_each folder app cache names restored = for_each (restores_layer folder app cache) names restored

-- a list is made, at the cost of memory
abbrev pub listed : Result (Unit {0}) RestoreFault
listed = Ok tt

-- the layers of a buildpack, ascending
unfoldable pub restores_layers : List ℕ → List LayerRow → List LayerRow → Restored → Restoring
restores_layers folder app cache restored = do
  made ← gives cause_of listed
  restores_each folder app cache (layer_names app cache) restored

-- a buildpack's folder is removed and made anew, and has what the previous image keeps for the buildpack
unfoldable pub prepares_folder : List ℕ → List ℕ → List StoreRow → Seen → Result (Unit {0}) RestoreFault → Seen → Type 0
prepares_folder folder id kept = do
  removed ← removes cause_of folder
  made ← makes_folder cause_of folder
  writes_store folder (kept_for id kept)

-- the layers that the previous image or the caches have of a buildpack
unfoldable pub restores_rows : List ℕ → Sources → List ℕ → Restored → Restoring
restores_rows folder sources id restored = do
  made ← gives cause_of listed
  restores_layers folder (rows_of id (layers_of sources.previous)) (rows_of id sources.rows) restored

-- a buildpack
unfoldable pub restores_buildpack : List ℕ → Sources → List ℕ → Restored → Restoring
restores_buildpack layers sources id restored = do
  prepared ← in_world (prepares_folder (layers_folder layers id) id (store_of sources.previous))
  restores_rows (layers_folder layers id) sources id restored

-- the buildpacks of a group, in order
unfoldable pub restores_group : List ℕ → Sources → List GroupRow → Restored → Restoring
restores_group layers sources group restored =
    for_each (λ row. restores_buildpack layers sources row.key.id) group restored

-- The previous image is read, the rows of the caches are gathered, and the buildpacks are restored.
unfoldable pub restores : List ℕ → Option (List ℕ) → List GroupRow → List ℕ → Restoring
restores store name group layers = do
  previous ← in_world (reads cause_of (OnlyImage store name) (is_fit_image store name) (previous_in store name))
  gathered ← in_caches (gathers cause_of)
  restored ← gives cause_of (Ok (gathered_first gathered.unread gathered.gone))
  restores_group layers (record { previous = previous; rows = gathered.rows }) group restored
