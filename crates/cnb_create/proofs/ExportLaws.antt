-- What an export leaves alone: a path that no file of a tree is written at or beside.
use Rattle.std.proofs.Common.{◌≡◌, ap, ℕ, Bool, true, false, List, [], ◌∷◌, Option, Some, None, Result, Ok}
use Rattle.app_slices.specs.Slots.{Slices}
use Rattle.app_slices.specs.declared.item.Item.{Item}
use Rattle.image_docs.specs.declared.analyzed.Analyzed.{Analyzed}
use Rattle.image_docs.specs.declared.layer_row.LayerRow.{LayerRow}
use Rattle.image_files.specs.Images.{reads_image, reads_run_image}
use Rattle.cnb_toml.specs.declared.fault.DocFault.{DocFault}
use Rattle.cnb_toml.specs.declared.process.Process.{Process}
use Rattle.run_docs.specs.declared.group.GroupRow.{GroupRow}
use Rattle.run_docs.specs.declared.layer.LayerDoc.{LayerDoc}
use Rattle.run_docs.specs.Launch.{launch_in}
use Rattle.run_docs.specs.Store.{store_in}
use Rattle.layer_flags.specs.declared.export.ExportRow.{ExportRow}
use Rattle.layer_flags.specs.declared.export.ExportRow.TheVariants as table
use Rattle.layer_flags.specs.declared.flags.Flags.{Flags}
use Rattle.cnb_env.specs.Files.{is_absent}
use Rattle.steps.specs.Outside.{Seen}
use Rattle.steps.specs.Keeping.{standing}
use Rattle.steps.proofs.KeepingLaws.{Preserves, keeps_bind, keeps_gives, keeps_reads, keeps_same, keeps_told}
use Rattle.steps.proofs.KeepingLaws.{keeps_yields}
use Rattle.tree_canon.specs.declared.node.Node.{Node}
use Rattle.tree_store.specs.Steps.{looks_for_tree}
use Rattle.tree_store.specs.Writing.{trees_of}
use Rattle.cnb_create.specs.Apart.{are_apart}
use Rattle.cnb_layers.specs.Buildpack.{exports_buildpack, exports_documents, exports_layers, exports_store_document}
use Rattle.cnb_layers.specs.Buildpack.{one_default, reads_launch, reads_store_document}
use Rattle.cnb_export.specs.Exports.{exports, gains}
use Rattle.cnb_layers.specs.Gathering.{exports_layer, keeps_found, keeps_layer, keeps_documented, nothing_gathered}
use Rattle.cnb_export.specs.Images.{reads_layers, reads_previous}
use Rattle.cnb_layers.specs.Layer.{digests_contents, finds_contents, flags_of, looks_for_contents, puts_contents}
use Rattle.cnb_layers.specs.Layer.{reads_layer, takes_contents, takes_there, there_by}
use Rattle.tree_store.specs.Caching.{digests_folder}
use Rattle.layer_paths.specs.Names.{layers_among}
use Rattle.cnb_layers.specs.Names.{lists_unless, reads_layer_names, reads_names}
use Rattle.cnb_layers.specs.Patterns.{adds_pattern, adds_slice, reads_pattern, reads_slices}
use Rattle.cnb_layers.specs.Reading.{reads_as, reads_some}
use Rattle.cnb_layers.specs.Refusals.{cause_of, of_image_fault}
use Rattle.cnb_layers.specs.Settling.{checks_reused, decision_of, looks_for_stored, reuses, row_of, settles_by}
use Rattle.cnb_export.specs.Trees.{cuts_app, puts_app, puts_links, puts_part, puts_parts, puts_process, puts_trees}
use Rattle.cnb_export.specs.Trees.{puts_whole}
use Rattle.cnb_layers.specs.declared.frame.ExportFrame.{ExportFrame}
use Rattle.cnb_layers.specs.declared.fault.ExportFault.TheVariants.{Store}
use Rattle.cnb_create.proofs.KeepLemmas.{KeepsIn, cached_in_world, cached_world, in_bind, in_each, in_gives, in_told}
use Rattle.cnb_create.proofs.KeepLemmas.{in_yields, keeps_puts, keeps_reads_tree, keeps_stored}
use Rattle.cnb_create.proofs.PutLemmas.{free_of_trees, keeps_puts_folder}

-- the same of steps that begin with a value, or with two
abbrev KeepsEach : {X E A : Type 0} → List ℕ → (X → Seen → Result A E → Seen → Type 0) → Type 0
KeepsEach {X} path step = (x : X) → Preserves path (step x)

abbrev KeepsBoth : {X Y E A : Type 0} → List ℕ → (X → Y → Seen → Result A E → Seen → Type 0) → Type 0
KeepsBoth {X} {Y} path step = (x : X) (y : Y) → Preserves path (step x y)

-- ---- what only reads

module _ (path : List ℕ) where
  kept_as : {A : Type 0} (form : List ℕ → Result A DocFault) (at : List ℕ) → Preserves path (reads_as form at)
  unfolding reads_as
  kept_as form at = keeps_bind path _ _ (keeps_reads path cause_of _ _ _) (λ found. keeps_gives path cause_of _)

  kept_some : {A : Type 0} (form : List ℕ → Result A DocFault) (at : List ℕ) → Preserves path (reads_some form at)
  unfolding reads_some
  kept_some form at = keeps_bind path _ _ (keeps_reads path cause_of _ _ _) (λ found. keeps_gives path cause_of _)

  kept_run : (store name : List ℕ) → Preserves path (reads_run_image store name)
  unfolding reads_run_image
  kept_run store name = keeps_reads path _ _ _ _

  kept_image : (store name : List ℕ) → Preserves path (reads_image store name)
  unfolding reads_image
  kept_image store name = keeps_reads path _ _ _ _

  kept_rows : (store name : List ℕ) → Preserves path (reads_layers store name)
  unfolding reads_layers
  kept_rows store name = keeps_bind path _ _ (keeps_told path of_image_fault _ (kept_image store name))
      (λ image. keeps_yields path image.layers)

  kept_previous : (store : List ℕ) (name : Option (List ℕ)) → Preserves path (reads_previous store name)
  kept_previous store None = keeps_yields path _
  kept_previous store (Some name) = kept_rows store name

  kept_launch : (folder id : List ℕ) → Preserves path (reads_launch folder id)
  unfolding reads_launch
  kept_launch folder id = keeps_bind path _ _ (keeps_gives path cause_of _)
      (λ at. keeps_bind path _ _ (kept_as launch_in at)
      (λ launch. keeps_gives path cause_of (one_default id launch)))

  kept_store : (folder : List ℕ) → Preserves path (reads_store_document folder)
  unfolding reads_store_document
  kept_store folder = keeps_bind path _ _ (keeps_gives path cause_of _) (λ at. kept_some store_in at)

  kept_pattern : (id text : List ℕ) → Preserves path (reads_pattern id text)
  unfolding reads_pattern
  kept_pattern id text old new result h = keeps_same path old new (ap (λ (s : Seen). s.runs) h.0)
      (ap (λ (s : Seen). standing s.files path) h.0)

  kept_more : (id text : List ℕ) (patterns : List (List Item)) → Preserves path (adds_pattern id text patterns)
  unfolding adds_pattern
  kept_more id text patterns = keeps_bind path _ _ (kept_pattern id text) (λ pattern. keeps_gives path cause_of _)

  kept_slice : (id : List ℕ) (texts : List (List ℕ)) (slices : Slices) → Preserves path (adds_slice id texts slices)
  unfolding adds_slice
  kept_slice id texts slices =
      keeps_bind path _ _ (in_each (λ (s : Seen). s) path (adds_pattern id) texts []
      (λ text patterns. kept_more id text patterns)) (λ patterns. keeps_gives path cause_of _)

  kept_slices : (id : List ℕ) (slices : List (List (List ℕ))) → Preserves path (reads_slices id slices)
  kept_slices id slices = in_each (λ (s : Seen). s) path (adds_slice id) slices []
      (λ texts so_far. kept_slice id texts so_far)

  kept_cut : (app : List ℕ) (slices : Slices) → Preserves path (cuts_app app slices)
  unfolding cuts_app
  kept_cut app slices = keeps_bind path _ _ (keeps_told path Store _ (keeps_reads_tree path app))
      (λ tree. keeps_gives path cause_of _)

  kept_documents : (folder id : List ℕ) → KeepsEach path (exports_documents folder id)
  unfolding exports_documents exports_store_document
  kept_documents folder id gathered =
      keeps_bind path _ _ (kept_launch folder id)
      (λ launch. keeps_bind path _ _ (kept_slices id launch.slices)
      (λ slices. keeps_bind path _ _ (kept_store folder) (λ store. keeps_gives path cause_of _)))

  kept_listing : (absent : Bool) (folder : List ℕ) → Preserves path (lists_unless absent folder)
  kept_listing true folder = keeps_yields path _
  kept_listing false folder = keeps_reads path cause_of _ _ _

  kept_names : (folder : List ℕ) → Preserves path (reads_names folder)
  unfolding reads_names
  kept_names folder = keeps_bind path _ _ (keeps_reads path cause_of _ _ _)
      (λ kind. kept_listing (is_absent kind) folder)

  kept_layer_names : (folder : List ℕ) → Preserves path (reads_layer_names folder)
  unfolding reads_layer_names
  kept_layer_names folder = keeps_bind path _ _ (kept_names folder)
      (λ names. keeps_gives path cause_of (Ok (layers_among names)))

  kept_layer_document : (at : List ℕ) → Preserves path (reads_layer at)
  unfolding reads_layer
  kept_layer_document at = keeps_bind path _ _ (keeps_reads path cause_of _ _ _) (λ found. keeps_gives path cause_of _)

  kept_look : (at : List ℕ) → Preserves path (looks_for_contents at)
  unfolding looks_for_contents
  kept_look at = keeps_bind path _ _ (keeps_reads path cause_of _ _ _)
      (λ kind. keeps_gives path cause_of (there_by at kind))

  kept_tree_look : (store digest : List ℕ) → Preserves path (looks_for_tree store digest)
  unfolding looks_for_tree
  kept_tree_look store digest = keeps_reads path _ _ _ _

  kept_stored : (store digest : List ℕ) → Preserves path (looks_for_stored store digest)
  unfolding looks_for_stored
  kept_stored store digest = keeps_bind path _ _ (keeps_told path Store _ (kept_tree_look store digest))
      (λ stored. keeps_gives path cause_of _)

  kept_check : (store : List ℕ) → KeepsBoth path (checks_reused store)
  kept_check store (Some digest) before = keeps_yields path tt
  kept_check store None None = keeps_yields path tt
  kept_check store None (Some row) = kept_stored store row.digest

  kept_settled : (line : ExportRow) (store id layer : List ℕ) → KeepsBoth path (settles_by line store id layer)
  unfolding reuses
  kept_settled table.Skip store id layer digest before = keeps_yields path _
  kept_settled table.Add store id layer digest before = keeps_yields path _
  kept_settled table.Reuse store id layer digest before = keeps_bind path _ _ (kept_check store digest before)
      (λ checked. keeps_yields path _)
  kept_settled table.NoContents store id layer digest before = keeps_gives path cause_of _
  kept_settled table.NoPrevious store id layer digest before = keeps_gives path cause_of _

-- ---- what puts trees too

module _ (store path : List ℕ) (apart : are_apart (trees_of store) path ≡ true) where
  kept_put : (at : List ℕ) → Preserves path (puts_contents store at)
  unfolding puts_contents
  kept_put at = keeps_bind path _ _ (keeps_told path Store _ (keeps_puts_folder store path apart at))
      (λ digest. keeps_yields path _)

  kept_there : (cache launch : Bool) (at : List ℕ) → Preserves path (takes_there store cache launch at)
  unfolding digests_contents digests_folder
  kept_there true true at = kept_put at
  kept_there false true at = kept_put at
  kept_there true false at = keeps_bind path _ _ (keeps_told path Store _ (keeps_bind path _ _
      (keeps_reads_tree path at) (λ tree. keeps_yields path _))) (λ digest. keeps_yields path _)
  kept_there false false at = keeps_yields path _

  kept_taken : (flags : Flags) (at : List ℕ) (there : Bool) → Preserves path (takes_contents store flags at there)
  kept_taken flags at true = kept_there flags.cache flags.launch at
  kept_taken flags at false = keeps_yields path _

  kept_contents : (folder layer : List ℕ) (flags : Flags) → Preserves path (finds_contents store folder layer flags)
  unfolding finds_contents
  kept_contents folder layer flags = keeps_bind path _ _ (keeps_gives path cause_of _)
      (λ at. keeps_bind path _ _ (kept_look path at) (λ there. kept_taken flags at there))

  kept_found : (previous : List LayerRow) (id folder layer : List ℕ) (doc : Option LayerDoc)
      → Preserves path (keeps_found store previous id folder layer doc)
  unfolding keeps_documented
  kept_found previous id folder layer None = keeps_yields path None
  kept_found previous id folder layer (Some doc) =
      keeps_bind path _ _ (kept_contents folder layer (flags_of doc))
      (λ contents. keeps_bind path _ _ (kept_settled path
      (decision_of (flags_of doc) contents (row_of previous id layer)) store id layer contents.digest
      (row_of previous id layer))
      (λ settled. keeps_gives path cause_of _))

  kept_layer : (previous : List LayerRow) (id folder layer : List ℕ)
      → Preserves path (keeps_layer store previous id folder layer)
  unfolding keeps_layer
  kept_layer previous id folder layer = keeps_bind path _ _ (keeps_gives path cause_of _)
      (λ document. keeps_bind path _ _ (kept_layer_document path document)
      (λ doc. kept_found previous id folder layer doc))

  kept_one : (previous : List LayerRow) (id folder layer : List ℕ)
      → KeepsEach path (exports_layer store previous id folder layer)
  unfolding exports_layer
  kept_one previous id folder layer gathered = keeps_bind path _ _ (kept_layer previous id folder layer)
      (λ kept. keeps_gives path cause_of _)

  kept_layers : (previous : List LayerRow) (id folder : List ℕ)
      → KeepsEach path (exports_layers store previous id folder)
  unfolding exports_layers
  kept_layers previous id folder gathered =
      keeps_bind path _ _ (kept_layer_names path folder)
      (λ names. in_each (λ (s : Seen). s) path (exports_layer store previous id folder) names gathered
      (λ layer so_far. kept_one previous id folder layer so_far))

  kept_links : (processes : List Process) → Preserves path (puts_links store processes)
  unfolding puts_links
  kept_links processes = keeps_bind path _ _ (keeps_gives path cause_of _)
      (λ tree. keeps_bind path _ _ (keeps_told path Store _
      (keeps_puts path store tree (free_of_trees store path apart))) (λ digest. keeps_yields path (Some digest)))

  kept_whole : (app : List ℕ) → Preserves path (puts_whole store app)
  unfolding puts_whole
  kept_whole app = keeps_bind path _ _ (keeps_told path Store _ (keeps_puts_folder store path apart app))
      (λ digest. keeps_gives path cause_of _)

  kept_part : (tree : Node) (digests : List (List ℕ)) → Preserves path (puts_part store tree digests)
  unfolding puts_part
  kept_part tree digests = keeps_bind path _ _ (keeps_told path Store _
      (keeps_puts path store tree (free_of_trees store path apart))) (λ digest. keeps_gives path cause_of _)

  kept_app : (app : List ℕ) (slices : Slices) → Preserves path (puts_app store app slices)
  unfolding puts_parts
  kept_app app [] = kept_whole app
  kept_app app (slice ∷ slices) =
      keeps_bind path _ _ (kept_cut path app (slice ∷ slices))
      (λ parts. in_each (λ (s : Seen). s) path (puts_part store) parts []
      (λ tree digests. kept_part tree digests))

  kept_process : (processes : List Process) → Preserves path (puts_process store processes)
  kept_process [] = keeps_yields path None
  kept_process (process ∷ processes) = kept_links (process ∷ processes)

module _ (frame : ExportFrame) (path : List ℕ) (apart : are_apart (trees_of frame.store) path ≡ true) where
  kept_buildpack : (previous : List LayerRow) (row : GroupRow) → KeepsEach path (exports_buildpack frame previous row)
  unfolding exports_buildpack
  kept_buildpack previous row gathered =
      keeps_bind path _ _ (keeps_gives path cause_of _)
      (λ folder. keeps_bind path _ _ (kept_documents path folder row.key.id gathered)
      (λ documents. kept_layers frame.store path apart previous row.key.id folder documents))

  kept_trees : (slices : Slices) (processes : List Process) → Preserves path (puts_trees frame slices processes)
  unfolding puts_trees
  kept_trees slices processes =
      keeps_bind path _ _ (kept_app frame.store path apart frame.app slices)
      (λ app. keeps_bind path _ _ (keeps_told path Store _ (keeps_puts_folder frame.store path apart frame.launcher))
      (λ launcher. keeps_bind path _ _ (keeps_gives path cause_of _)
      (λ last. keeps_bind path _ _ (kept_process frame.store path apart last) (λ process. keeps_yields path _))))

  kept_gained : (group : List GroupRow) (analyzed : Analyzed) → Preserves path (gains frame group analyzed)
  unfolding gains
  kept_gained group analyzed =
      keeps_bind path _ _ (keeps_told path of_image_fault _ (kept_run path frame.store analyzed.run))
      (λ run. keeps_bind path _ _ (kept_previous path frame.store analyzed.previous)
      (λ previous. keeps_bind path _ _ (in_each (λ (s : Seen). s) path
      (exports_buildpack frame previous) group nothing_gathered
      (λ row so_far. kept_buildpack previous row so_far))
      (λ gathered. keeps_bind path _ _ (kept_trees _ _)
      (λ digests. keeps_bind path _ _ (keeps_gives path cause_of _)
      (λ image. keeps_bind path _ _ (keeps_gives path cause_of _) (λ rows. keeps_yields path _))))))

  pub keeps_exports : (readable : Bool) (group : List GroupRow) (analyzed : Analyzed)
      → KeepsIn cached_world path (exports readable frame group analyzed)
  unfolding exports
  keeps_exports readable group analyzed =
      in_bind cached_world path _ _ (cached_in_world path _ (kept_gained group analyzed))
      (λ gained. in_bind cached_world path _ _ (in_gives cached_world path cause_of _)
      (λ folders. in_bind cached_world path _ _
      (in_told cached_world path Store _ (keeps_stored path readable gained.cached folders))
      (λ gone. in_yields cached_world path _)))
