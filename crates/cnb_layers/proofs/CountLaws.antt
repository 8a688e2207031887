-- What it does to the counts of the world to gather what a group left, by what ended it.
use Rattle.std.proofs.Common.{refl, ℕ, Bool, true, false, List, Option, Some, None, Result}
use Rattle.cnb_env.specs.Files.{is_absent}
use Rattle.cnb_toml.specs.declared.fault.DocFault.{DocFault}
use Rattle.image_docs.specs.declared.layer_row.LayerRow.{LayerRow}
use Rattle.layer_flags.specs.declared.export.ExportRow.{ExportRow}
use Rattle.layer_flags.specs.declared.export.ExportRow.TheVariants as decision
use Rattle.layer_flags.specs.declared.flags.Flags.{Flags}
use Rattle.run_docs.specs.declared.group.GroupRow.{GroupRow}
use Rattle.run_docs.specs.declared.layer.LayerDoc.{LayerDoc}
use Rattle.steps.proofs.EndLaws.{Obeys, files_link, files_rest, obeys_bind, obeys_each, obeys_gives, obeys_told}
use Rattle.steps.proofs.EndLaws.{obeys_yields, reads_counts}
use Rattle.steps.specs.Counts.{FileCounts}
use Rattle.steps.specs.Outside.{Seen}
use Rattle.steps.specs.Steps.{map_err}
use Rattle.tree_store.specs.Answers as tree_store
use Rattle.tree_store.specs.Caching.{digests_folder}
use Rattle.tree_store.specs.declared.fault.StoreFault.{StoreFault}
use Rattle.tree_store.proofs.CountLaws.{look_for_tree_counts, put_folder_counts, read_tree_counts}
use Rattle.cnb_layers.specs.declared.frame.ExportFrame.{ExportFrame}
use Rattle.cnb_layers.specs.declared.gathered.Gathered.{Gathered}
use Rattle.cnb_layers.specs.declared.fault.ExportFault.TheVariants.{Store}
use Rattle.cnb_layers.specs.Buildpack.{exports_buildpack, exports_documents, exports_group, exports_layers}
use Rattle.cnb_layers.specs.Buildpack.{exports_store_document, reads_launch, reads_store_document}
use Rattle.cnb_layers.specs.Gathering.{exports_layer, keeps_found, keeps_layer, keeps_documented}
use Rattle.cnb_layers.specs.Layer.{digests_contents, finds_contents, flags_of, looks_for_contents, puts_contents}
use Rattle.cnb_layers.specs.Layer.{reads_layer, takes_contents, takes_there}
use Rattle.cnb_layers.specs.Names.{lists_unless, reads_layer_names, reads_names}
use Rattle.cnb_layers.specs.Reading.{reads_as, reads_some}
use Rattle.cnb_layers.specs.Refusals.{cause_of}
use Rattle.cnb_layers.specs.Settling.{checks_reused, decision_of, looks_for_stored, reuses, row_of, settles_by}
use Rattle.cnb_layers.proofs.PatternLaws.{slices_counts}

-- a step over the store
pub of_store : {A : Type 0} (step : Seen → Result A StoreFault → Seen → Type 0)
    → Obeys FileCounts tree_store.cause_of step → Obeys FileCounts cause_of (map_err Store step)
of_store step p = obeys_told FileCounts tree_store.cause_of cause_of Store step (λ fault. refl) p

-- ---- documents and names

read_as_counts : {A : Type 0} (form : List ℕ → Result A DocFault) (path : List ℕ)
    → Obeys FileCounts cause_of (reads_as form path)
unfolding reads_as
read_as_counts form path = obeys_bind _ _ _ _ files_link (reads_counts cause_of _ _ _)
    (λ found. obeys_gives _ _ _ files_rest)

read_some_counts : {A : Type 0} (form : List ℕ → Result A DocFault) (path : List ℕ)
    → Obeys FileCounts cause_of (reads_some form path)
unfolding reads_some
read_some_counts form path = obeys_bind _ _ _ _ files_link (reads_counts cause_of _ _ _)
    (λ found. obeys_gives _ _ _ files_rest)

list_unless_counts : (absent : Bool) (folder : List ℕ) → Obeys FileCounts cause_of (lists_unless absent folder)
list_unless_counts true folder = obeys_yields _ _ _ files_rest
list_unless_counts false folder = reads_counts cause_of _ _ _

read_names_counts : (folder : List ℕ) → Obeys FileCounts cause_of (reads_names folder)
unfolding reads_names
read_names_counts folder = obeys_bind _ _ _ _ files_link (reads_counts cause_of _ _ _)
    (λ kind. list_unless_counts (is_absent kind) folder)

read_layer_names_counts : (folder : List ℕ) → Obeys FileCounts cause_of (reads_layer_names folder)
unfolding reads_layer_names
read_layer_names_counts folder = obeys_bind _ _ _ _ files_link (read_names_counts folder)
    (λ names. obeys_gives _ _ _ files_rest)

-- ---- a layer

read_layer_counts : (path : List ℕ) → Obeys FileCounts cause_of (reads_layer path)
unfolding reads_layer
read_layer_counts path = obeys_bind _ _ _ _ files_link (reads_counts cause_of _ _ _)
    (λ found. obeys_gives _ _ _ files_rest)

look_for_contents_counts : (path : List ℕ) → Obeys FileCounts cause_of (looks_for_contents path)
unfolding looks_for_contents
look_for_contents_counts path = obeys_bind _ _ _ _ files_link (reads_counts cause_of _ _ _)
    (λ kind. obeys_gives _ _ _ files_rest)

digest_folder_counts : (path : List ℕ) → Obeys FileCounts tree_store.cause_of (digests_folder path)
unfolding digests_folder
digest_folder_counts path = obeys_bind _ _ _ _ files_link (read_tree_counts path)
    (λ tree. obeys_yields _ _ _ files_rest)

take_there_counts : (store : List ℕ) (cache launch : Bool) (path : List ℕ)
    → Obeys FileCounts cause_of (takes_there store cache launch path)
unfolding puts_contents digests_contents
take_there_counts store cache true path = obeys_bind _ _ _ _ files_link
    (of_store _ (put_folder_counts store path)) (λ digest. obeys_yields _ _ _ files_rest)
take_there_counts store true false path = obeys_bind _ _ _ _ files_link
    (of_store _ (digest_folder_counts path)) (λ digest. obeys_yields _ _ _ files_rest)
take_there_counts store false false path = obeys_yields _ _ _ files_rest

take_contents_counts : (store : List ℕ) (flags : Flags) (path : List ℕ) (there : Bool)
    → Obeys FileCounts cause_of (takes_contents store flags path there)
take_contents_counts store flags path true = take_there_counts store flags.cache flags.launch path
take_contents_counts store flags path false = obeys_yields _ _ _ files_rest

find_contents_counts : (store folder layer : List ℕ) (flags : Flags)
    → Obeys FileCounts cause_of (finds_contents store folder layer flags)
unfolding finds_contents
find_contents_counts store folder layer flags =
    obeys_bind _ _ _ _ files_link (obeys_gives _ _ _ files_rest)
    (λ path. obeys_bind _ _ _ _ files_link (look_for_contents_counts path)
    (λ there. take_contents_counts store flags path there))

look_for_stored_counts : (store digest : List ℕ) → Obeys FileCounts cause_of (looks_for_stored store digest)
unfolding looks_for_stored
look_for_stored_counts store digest = obeys_bind _ _ _ _ files_link
    (of_store _ (look_for_tree_counts store digest)) (λ stored. obeys_gives _ _ _ files_rest)

check_reused_counts : (store : List ℕ) (digest : Option (List ℕ)) (before : Option LayerRow)
    → Obeys FileCounts cause_of (checks_reused store digest before)
check_reused_counts store (Some digest) before = obeys_yields _ _ _ files_rest
check_reused_counts store None None = obeys_yields _ _ _ files_rest
check_reused_counts store None (Some row) = look_for_stored_counts store row.digest

settle_by_counts : (row : ExportRow) (store id layer : List ℕ) (digest : Option (List ℕ))
    (before : Option LayerRow) → Obeys FileCounts cause_of (settles_by row store id layer digest before)
unfolding reuses
settle_by_counts decision.Skip store id layer digest before = obeys_yields _ _ _ files_rest
settle_by_counts decision.Add store id layer digest before = obeys_yields _ _ _ files_rest
settle_by_counts decision.Reuse store id layer digest before = obeys_bind _ _ _ _ files_link
    (check_reused_counts store digest before) (λ checked. obeys_yields _ _ _ files_rest)
settle_by_counts decision.NoContents store id layer digest before = obeys_gives _ _ _ files_rest
settle_by_counts decision.NoPrevious store id layer digest before = obeys_gives _ _ _ files_rest

keep_found_counts : (store : List ℕ) (previous : List LayerRow) (id folder layer : List ℕ) (doc : Option LayerDoc)
    → Obeys FileCounts cause_of (keeps_found store previous id folder layer doc)
unfolding keeps_documented
keep_found_counts store previous id folder layer None = obeys_yields _ _ _ files_rest
keep_found_counts store previous id folder layer (Some doc) =
    obeys_bind _ _ _ _ files_link (find_contents_counts store folder layer (flags_of doc))
    (λ contents. obeys_bind _ _ _ _ files_link (settle_by_counts
    (decision_of (flags_of doc) contents (row_of previous id layer)) store id layer contents.digest
    (row_of previous id layer))
    (λ settled. obeys_gives _ _ _ files_rest))

export_layer_counts : (store : List ℕ) (previous : List LayerRow) (id folder layer : List ℕ) (gathered : Gathered)
    → Obeys FileCounts cause_of (exports_layer store previous id folder layer gathered)
unfolding exports_layer keeps_layer
export_layer_counts store previous id folder layer gathered =
    obeys_bind _ _ _ _ files_link
    (obeys_bind _ _ _ _ files_link (obeys_gives _ _ _ files_rest)
    (λ document. obeys_bind _ _ _ _ files_link (read_layer_counts document)
    (λ doc. keep_found_counts store previous id folder layer doc)))
    (λ kept. obeys_gives _ _ _ files_rest)

-- ---- a buildpack

read_launch_counts : (folder id : List ℕ) → Obeys FileCounts cause_of (reads_launch folder id)
unfolding reads_launch
read_launch_counts folder id =
    obeys_bind _ _ _ _ files_link (obeys_gives _ _ _ files_rest)
    (λ path. obeys_bind _ _ _ _ files_link (read_as_counts _ path) (λ launch. obeys_gives _ _ _ files_rest))

read_store_counts : (folder : List ℕ) → Obeys FileCounts cause_of (reads_store_document folder)
unfolding reads_store_document
read_store_counts folder = obeys_bind _ _ _ _ files_link (obeys_gives _ _ _ files_rest)
    (λ path. read_some_counts _ path)

export_documents_counts : (folder id : List ℕ) (gathered : Gathered)
    → Obeys FileCounts cause_of (exports_documents folder id gathered)
unfolding exports_documents exports_store_document
export_documents_counts folder id gathered =
    obeys_bind _ _ _ _ files_link (read_launch_counts folder id)
    (λ launch. obeys_bind _ _ _ _ files_link (slices_counts id launch.slices)
    (λ slices. obeys_bind _ _ _ _ files_link (read_store_counts folder) (λ store. obeys_gives _ _ _ files_rest)))

export_layers_counts : (store : List ℕ) (previous : List LayerRow) (id folder : List ℕ) (gathered : Gathered)
    → Obeys FileCounts cause_of (exports_layers store previous id folder gathered)
unfolding exports_layers
export_layers_counts store previous id folder gathered =
    obeys_bind _ _ _ _ files_link (read_layer_names_counts folder)
    (λ names. obeys_each _ _ _ files_link files_rest (export_layer_counts store previous id folder) names gathered)

export_buildpack_counts : (frame : ExportFrame) (previous : List LayerRow) (row : GroupRow) (gathered : Gathered)
    → Obeys FileCounts cause_of (exports_buildpack frame previous row gathered)
unfolding exports_buildpack
export_buildpack_counts frame previous row gathered =
    obeys_bind _ _ _ _ files_link (obeys_gives _ _ _ files_rest)
    (λ folder. obeys_bind _ _ _ _ files_link (export_documents_counts folder row.key.id gathered)
    (λ documents. export_layers_counts frame.store previous row.key.id folder documents))

pub export_group_counts : (frame : ExportFrame) (previous : List LayerRow) (group : List GroupRow)
    → Obeys FileCounts cause_of (exports_group frame previous group)
export_group_counts frame previous group = obeys_each _ _ _ files_link files_rest
    (export_buildpack_counts frame previous) group _
