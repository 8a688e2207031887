-- What a restoration leaves alone: a path that is apart from the layers folder.
use Rattle.std.proofs.Common.{◌≡◌, ℕ, ◌<◌, Bool, true, false, List, length, Option, Some, None, Ok}
use Rattle.image_docs.specs.declared.layer_row.LayerRow.{LayerRow}
use Rattle.image_docs.specs.declared.store_row.StoreRow.{StoreRow}
use Rattle.layer_flags.specs.declared.restore.RestoreRow.{RestoreRow}
use Rattle.layer_flags.specs.declared.restore.RestoreRow.TheVariants as part
use Rattle.run_docs.specs.declared.group.GroupRow.{GroupRow}
use Rattle.shelf_set.specs.declared.restoring.Found.{Found}
use Rattle.shelf_set.specs.declared.restoring.Found.TheVariants as found
use Rattle.steps.proofs.KeepingLaws.{Preserves, keeps_bind, keeps_makes_folder, keeps_reads, keeps_writes}
use Rattle.steps.proofs.KeepingLaws.{keeps_yields}
use Rattle.steps.specs.Steps.{writes}
use Rattle.cnb_world.specs.Path.{joined}
use Rattle.cnb_restore.specs.Faults.{cause_of, of_laying_fault}
use Rattle.cnb_restore.specs.Layers.{writes_layer, writes_store}
use Rattle.cnb_restore.specs.Images.{kept_for, store_of}
use Rattle.layer_paths.specs.Paths.{layers_folder}
use Rattle.cnb_restore.specs.Restored.{after_search, gathered_first, with_layer}
use Rattle.cnb_restore.specs.Restores.{listed, prepares_folder, restores, restores_buildpack, restores_contents}
use Rattle.cnb_restore.specs.Restores.{restores_document, restores_each, restores_found, restores_group, restores_held}
use Rattle.cnb_restore.specs.Restores.{restores_layer, restores_layers, restores_part, restores_rows}
use Rattle.cnb_restore.specs.Rows.{layer_names}
use Rattle.cnb_restore.specs.declared.restored.Restored.{Restored}
use Rattle.cnb_restore.specs.declared.sources.Sources.{Sources}
use Rattle.cnb_create.specs.Apart.{are_apart}
use Rattle.cnb_create.proofs.ApartLemmas.{Inside, folder_not_root, free_document, free_folder, inside_deeper}
use Rattle.cnb_create.proofs.ApartLemmas.{inside_joined, not_above, not_within}
use Rattle.cnb_create.proofs.KeepLemmas.{KeepsIn, cached_in_caches, cached_in_world, cached_world, in_bind, in_each}
use Rattle.cnb_create.proofs.KeepLemmas.{in_gives, in_told, in_yields, keeps_removes, keeps_restored}

module _ (layers path : List ℕ) (apart : are_apart layers path ≡ true) (long : 0 < length layers) where
  writes_inside : (folder name : List ℕ) (Says : List ℕ → Type 0) → Inside layers folder
      → Preserves path (writes cause_of (joined folder name) Says)
  writes_inside folder name Says inside = keeps_writes path cause_of (joined folder name) Says
      (free_document layers path apart (joined folder name) (inside_deeper layers folder name inside))

  kept_layer : (folder : List ℕ) (row : LayerRow) → Inside layers folder → Preserves path (writes_layer folder row)
  unfolding writes_layer
  kept_layer folder row inside = writes_inside folder _ _ inside

  kept_store : (folder : List ℕ) (row : Option StoreRow) → Inside layers folder
      → Preserves path (writes_store folder row)
  unfolding writes_store
  kept_store folder None inside = keeps_yields path tt
  kept_store folder (Some row) inside = writes_inside folder _ _ inside

  kept_folder : (folder id : List ℕ) (rows : List StoreRow) → Inside layers folder
      → Preserves path (prepares_folder folder id rows)
  unfolding prepares_folder
  kept_folder folder id rows inside =
      keeps_bind path _ _ (keeps_removes path cause_of folder (not_within layers path apart long folder inside))
      (λ removed. keeps_bind path _ _ (keeps_makes_folder path cause_of folder
      (free_folder layers path apart folder inside))
      (λ made. kept_store folder (kept_for id rows) inside))

  kept_document : (folder : List ℕ) (row : LayerRow) (contents : Bool) (restored : Restored)
      → Inside layers folder → KeepsIn cached_world path (restores_document folder row contents restored)
  unfolding restores_document
  kept_document folder row contents restored inside =
      in_bind cached_world path _ _ (cached_in_world path _ (kept_layer folder row inside))
      (λ written. in_gives cached_world path cause_of (Ok (with_layer row contents restored)))

  kept_held : (folder : List ℕ) (row : LayerRow) → Inside layers folder
      → KeepsIn cached_world path (restores_held folder row)
  kept_held folder row inside =
      let deeper = inside_deeper layers folder row.layer inside in
      in_told cached_world path of_laying_fault _ (keeps_restored path row.digest (joined folder row.layer)
      (not_within layers path apart long (joined folder row.layer) deeper)
      (not_above layers path apart (joined folder row.layer) deeper))

  kept_found : (folder : List ℕ) (row : LayerRow) (restored : Restored) (answer : Found) → Inside layers folder
      → KeepsIn cached_world path (restores_found folder row restored answer)
  unfolding restores_found
  kept_found folder row restored found.None inside = in_yields cached_world path restored
  kept_found folder row restored (found.Damaged asked is bad) inside = in_gives cached_world path cause_of _
  kept_found folder row restored found.Laid inside = kept_document folder row true restored inside

  kept_contents : (folder : List ℕ) (row : LayerRow) (restored : Restored) → Inside layers folder
      → KeepsIn cached_world path (restores_contents folder row restored)
  unfolding restores_contents
  kept_contents folder row restored inside =
      in_bind cached_world path _ _ (kept_held folder row inside)
      (λ search. in_bind cached_world path _ _ (in_gives cached_world path cause_of
      (Ok (after_search search.gone restored)))
      (λ counted. kept_found folder row counted search.found inside))

  kept_part : (folder : List ℕ) (source : Option LayerRow) (row : RestoreRow) (restored : Restored)
      → Inside layers folder → KeepsIn cached_world path (restores_part folder source row restored)
  unfolding restores_part
  kept_part folder None row restored inside = in_yields cached_world path restored
  kept_part folder (Some source) part.Nothing restored inside = in_yields cached_world path restored
  kept_part folder (Some source) part.Meta restored inside = kept_document folder source false restored inside
  kept_part folder (Some source) part.Both restored inside = kept_contents folder source restored inside

  kept_one : (folder : List ℕ) (app cache : List LayerRow) (name : List ℕ) (restored : Restored)
      → Inside layers folder → KeepsIn cached_world path (restores_layer folder app cache name restored)
  unfolding restores_layer
  kept_one folder app cache name restored inside = kept_part folder _ _ restored inside

  kept_layers : (folder : List ℕ) (app cache : List LayerRow) (restored : Restored) → Inside layers folder
      → KeepsIn cached_world path (restores_layers folder app cache restored)
  unfolding restores_layers restores_each
  kept_layers folder app cache restored inside =
      in_bind cached_world path _ _ (in_gives cached_world path cause_of listed)
      (λ made. in_each cached_world path (restores_layer folder app cache) (layer_names app cache) restored
      (λ name so_far. kept_one folder app cache name so_far inside))

  kept_rows : (folder : List ℕ) (sources : Sources) (id : List ℕ) (restored : Restored) → Inside layers folder
      → KeepsIn cached_world path (restores_rows folder sources id restored)
  unfolding restores_rows
  kept_rows folder sources id restored inside =
      in_bind cached_world path _ _ (in_gives cached_world path cause_of listed)
      (λ made. kept_layers folder _ _ restored inside)

  kept_buildpack : (sources : Sources) (id : List ℕ) (restored : Restored)
      → KeepsIn cached_world path (restores_buildpack layers sources id restored)
  unfolding restores_buildpack
  kept_buildpack sources id restored =
      let inside = inside_joined layers _ (folder_not_root layers path apart) in
      in_bind cached_world path _ _ (cached_in_world path _
      (kept_folder (layers_folder layers id) id (store_of sources.previous) inside))
      (λ prepared. kept_rows (layers_folder layers id) sources id restored inside)

  pub keeps_restores : (store : List ℕ) (name : Option (List ℕ)) (group : List GroupRow)
      → KeepsIn cached_world path (restores store name group layers)
  unfolding restores restores_group
  keeps_restores store name group =
      in_bind cached_world path _ _ (cached_in_world path _ (keeps_reads path cause_of _ _ _))
      (λ previous. in_bind cached_world path _ _ (cached_in_caches path _)
      (λ gathered. in_bind cached_world path _ _ (in_gives cached_world path cause_of
      (Ok (gathered_first gathered.unread gathered.gone)))
      (λ restored. in_each cached_world path _ group restored
      (λ row so_far. kept_buildpack (record { previous = previous; rows = gathered.rows }) row.key.id
      so_far))))
