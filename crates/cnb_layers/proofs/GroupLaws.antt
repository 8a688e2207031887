-- The files alone decide what is gathered of a group: each of its steps is decided by them.
use Rattle.std.proofs.Common.{◌≡◌, refl, ℕ, Bool, true, false, List, Option, Some, None, Result, Ok}
use Rattle.cnb_toml.specs.declared.fault.DocFault.{DocFault}
use Rattle.image_docs.specs.declared.layer_row.LayerRow.{LayerRow}
use Rattle.layer_flags.specs.declared.export.ExportRow.{ExportRow}
use Rattle.layer_flags.specs.declared.export.ExportRow.TheVariants as table
use Rattle.layer_flags.specs.declared.flags.Flags.{Flags}
use Rattle.layer_paths.specs.Names.{layers_among}
use Rattle.cnb_env.specs.Files.{is_absent}
use Rattle.run_docs.specs.Launch.{launch_in}
use Rattle.run_docs.specs.Store.{store_in}
use Rattle.run_docs.specs.declared.group.GroupRow.{GroupRow}
use Rattle.run_docs.specs.declared.layer.LayerDoc.{LayerDoc}
use Rattle.steps.specs.Outside.{Seen}
use Rattle.steps.specs.Steps.{map_err}
use Rattle.tree_store.specs.Answers as stored
use Rattle.tree_store.specs.Steps.{looks_for_tree}
use Rattle.tree_store.specs.declared.fault.StoreFault.{StoreFault}
use Rattle.cnb_layers.specs.Buildpack.{exports_buildpack, exports_documents, exports_group, exports_layers}
use Rattle.cnb_layers.specs.Buildpack.{exports_store_document, one_default, reads_launch, reads_store_document}
use Rattle.cnb_layers.specs.Gathering.{exports_layer, keeps_found, keeps_layer, keeps_documented, nothing_gathered}
use Rattle.cnb_layers.specs.Layer.{digests_contents, finds_contents, flags_of, looks_for_contents, puts_contents}
use Rattle.cnb_layers.specs.Layer.{reads_layer, takes_contents, takes_there, there_by}
use Rattle.cnb_layers.specs.Names.{lists_unless, reads_layer_names, reads_names}
use Rattle.cnb_layers.specs.Reading.{reads_as, reads_some}
use Rattle.cnb_layers.specs.Refusals.{cause_of}
use Rattle.cnb_layers.specs.Settling.{checks_reused, decision_of, looks_for_stored, reuses, row_of, settles_by}
use Rattle.cnb_layers.specs.declared.frame.ExportFrame.{ExportFrame}
use Rattle.cnb_layers.specs.declared.gathered.Gathered.{Gathered}
use Rattle.cnb_layers.specs.declared.fault.ExportFault.TheVariants.{Store}
use Rattle.cnb_layers.proofs.DecidedLaws.{AreDecided, decided_bind, decided_digests_folder, decided_each}
use Rattle.cnb_layers.proofs.DecidedLaws.{decided_gives, decided_puts_folder, decided_reads, decided_told}
use Rattle.cnb_layers.proofs.DecidedLaws.{decided_yields}
use Rattle.cnb_layers.proofs.PatternLaws.{decided_slices}

-- ---- refusals that are told as an export's

stored_cause : (fault : StoreFault) → cause_of (Store fault) ≡ stored.cause_of fault
stored_cause fault = refl

pub of_store : {A : Type 0} (step : Seen → Result A StoreFault → Seen → Type 0) → AreDecided stored.cause_of step
    → AreDecided cause_of (map_err Store step)
of_store step h = decided_told stored.cause_of cause_of Store step stored_cause h

-- ---- what only reads

one_as : {A : Type 0} (form : List ℕ → Result A DocFault) (at : List ℕ) → AreDecided cause_of (reads_as form at)
unfolding reads_as
one_as form at = decided_bind cause_of _ _ (decided_reads cause_of _ _ _) (λ found. decided_gives cause_of _)

one_some : {A : Type 0} (form : List ℕ → Result A DocFault) (at : List ℕ) → AreDecided cause_of (reads_some form at)
unfolding reads_some
one_some form at = decided_bind cause_of _ _ (decided_reads cause_of _ _ _) (λ found. decided_gives cause_of _)

one_launch : (folder id : List ℕ) → AreDecided cause_of (reads_launch folder id)
unfolding reads_launch
one_launch folder id = decided_bind cause_of _ _ (decided_gives cause_of _)
    (λ at. decided_bind cause_of _ _ (one_as launch_in at)
    (λ launch. decided_gives cause_of (one_default id launch)))

one_store : (folder : List ℕ) → AreDecided cause_of (reads_store_document folder)
unfolding reads_store_document
one_store folder = decided_bind cause_of _ _ (decided_gives cause_of _) (λ at. one_some store_in at)

one_listing : (absent : Bool) (folder : List ℕ) → AreDecided cause_of (lists_unless absent folder)
one_listing true folder = decided_yields cause_of _
one_listing false folder = decided_reads cause_of _ _ _

one_names : (folder : List ℕ) → AreDecided cause_of (reads_names folder)
unfolding reads_names
one_names folder = decided_bind cause_of _ _ (decided_reads cause_of _ _ _)
    (λ kind. one_listing (is_absent kind) folder)

one_layer_names : (folder : List ℕ) → AreDecided cause_of (reads_layer_names folder)
unfolding reads_layer_names
one_layer_names folder = decided_bind cause_of _ _ (one_names folder)
    (λ names. decided_gives cause_of (Ok (layers_among names)))

one_layer_document : (at : List ℕ) → AreDecided cause_of (reads_layer at)
unfolding reads_layer
one_layer_document at = decided_bind cause_of _ _ (decided_reads cause_of _ _ _) (λ found. decided_gives cause_of _)

one_look : (at : List ℕ) → AreDecided cause_of (looks_for_contents at)
unfolding looks_for_contents
one_look at = decided_bind cause_of _ _ (decided_reads cause_of _ _ _)
    (λ kind. decided_gives cause_of (there_by at kind))

one_tree_look : (store digest : List ℕ) → AreDecided stored.cause_of (looks_for_tree store digest)
unfolding looks_for_tree
one_tree_look store digest = decided_reads stored.cause_of _ _ _

one_stored : (store digest : List ℕ) → AreDecided cause_of (looks_for_stored store digest)
unfolding looks_for_stored
one_stored store digest = decided_bind cause_of _ _ (of_store _ (one_tree_look store digest))
    (λ stored. decided_gives cause_of _)

one_check : (store : List ℕ) (digest : Option (List ℕ)) (before : Option LayerRow)
    → AreDecided cause_of (checks_reused store digest before)
one_check store (Some digest) before = decided_yields cause_of tt
one_check store None None = decided_yields cause_of tt
one_check store None (Some row) = one_stored store row.digest

-- ---- what puts trees too

module _ (store : List ℕ) where
  one_there : (cache launch : Bool) (at : List ℕ) → AreDecided cause_of (takes_there store cache launch at)
  unfolding puts_contents digests_contents
  one_there cache true at = decided_bind cause_of _ _ (of_store _ (decided_puts_folder store at))
      (λ digest. decided_yields cause_of _)
  one_there true false at = decided_bind cause_of _ _ (of_store _ (decided_digests_folder at))
      (λ digest. decided_yields cause_of _)
  one_there false false at = decided_yields cause_of _

  one_taken : (flags : Flags) (at : List ℕ) (there : Bool) → AreDecided cause_of (takes_contents store flags at there)
  one_taken flags at true = one_there flags.cache flags.launch at
  one_taken flags at false = decided_yields cause_of _

  one_contents : (folder layer : List ℕ) (flags : Flags) → AreDecided cause_of (finds_contents store folder layer flags)
  unfolding finds_contents
  one_contents folder layer flags = decided_bind cause_of _ _ (decided_gives cause_of _)
      (λ at. decided_bind cause_of _ _ (one_look at) (λ there. one_taken flags at there))

  one_settled : (line : ExportRow) (id layer : List ℕ) (digest : Option (List ℕ)) (before : Option LayerRow)
      → AreDecided cause_of (settles_by line store id layer digest before)
  unfolding reuses
  one_settled table.Skip id layer digest before = decided_yields cause_of _
  one_settled table.Add id layer digest before = decided_yields cause_of _
  one_settled table.Reuse id layer digest before = decided_bind cause_of _ _ (one_check store digest before)
      (λ checked. decided_yields cause_of _)
  one_settled table.NoContents id layer digest before = decided_gives cause_of _
  one_settled table.NoPrevious id layer digest before = decided_gives cause_of _

  one_found : (previous : List LayerRow) (id folder layer : List ℕ) (doc : Option LayerDoc)
      → AreDecided cause_of (keeps_found store previous id folder layer doc)
  unfolding keeps_documented
  one_found previous id folder layer None = decided_yields cause_of None
  one_found previous id folder layer (Some doc) =
      decided_bind cause_of _ _ (one_contents folder layer (flags_of doc))
      (λ contents. decided_bind cause_of _ _ (one_settled
      (decision_of (flags_of doc) contents (row_of previous id layer)) id layer contents.digest
      (row_of previous id layer))
      (λ settled. decided_gives cause_of _))

  one_layer : (previous : List LayerRow) (id folder layer : List ℕ)
      → AreDecided cause_of (keeps_layer store previous id folder layer)
  unfolding keeps_layer
  one_layer previous id folder layer = decided_bind cause_of _ _ (decided_gives cause_of _)
      (λ document. decided_bind cause_of _ _ (one_layer_document document)
      (λ doc. one_found previous id folder layer doc))

  one_of : (previous : List LayerRow) (id folder layer : List ℕ) (gathered : Gathered)
      → AreDecided cause_of (exports_layer store previous id folder layer gathered)
  unfolding exports_layer
  one_of previous id folder layer gathered = decided_bind cause_of _ _ (one_layer previous id folder layer)
      (λ kept. decided_gives cause_of _)

  one_layers : (previous : List LayerRow) (id folder : List ℕ) (gathered : Gathered)
      → AreDecided cause_of (exports_layers store previous id folder gathered)
  unfolding exports_layers
  one_layers previous id folder gathered =
      decided_bind cause_of _ _ (one_layer_names folder)
      (λ names. decided_each cause_of (exports_layer store previous id folder) names gathered
      (λ layer so_far. one_of previous id folder layer so_far))

one_documents : (folder id : List ℕ) (gathered : Gathered) → AreDecided cause_of (exports_documents folder id gathered)
unfolding exports_documents exports_store_document
one_documents folder id gathered =
    decided_bind cause_of _ _ (one_launch folder id)
    (λ launch. decided_bind cause_of _ _ (decided_slices id launch.slices)
    (λ slices. decided_bind cause_of _ _ (one_store folder) (λ store. decided_gives cause_of _)))

one_buildpack : (frame : ExportFrame) (previous : List LayerRow) (row : GroupRow) (gathered : Gathered)
    → AreDecided cause_of (exports_buildpack frame previous row gathered)
unfolding exports_buildpack
one_buildpack frame previous row gathered =
    decided_bind cause_of _ _ (decided_gives cause_of _)
    (λ folder. decided_bind cause_of _ _ (one_documents folder row.key.id gathered)
    (λ documents. one_layers frame.store previous row.key.id folder documents))

pub one_group : (frame : ExportFrame) (previous : List LayerRow) (group : List GroupRow)
    → AreDecided cause_of (exports_group frame previous group)
one_group frame previous group = decided_each cause_of (exports_buildpack frame previous) group nothing_gathered
    (λ row so_far. one_buildpack frame previous row so_far)
