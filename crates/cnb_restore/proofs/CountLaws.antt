-- What the commands do to the counts, by what ended them.
use Rattle.std.proofs.Common.{◌≡◌, ◌∙◌, refl, sym, ap, subst, ℕ, Bool, true, false, List, Option, Some, None, Result}
use Rattle.std.proofs.Common.{Ok, Err}
use Rattle.cnb_words.specs.declared.analyze.AnalyzeWords.{AnalyzeWords}
use Rattle.cnb_words.specs.declared.restore.RestoreWords.{RestoreWords}
use Rattle.cnb_world.specs.Path.{joined}
use Rattle.image_docs.specs.declared.analyzed.Analyzed.{Analyzed}
use Rattle.image_docs.specs.declared.layer_row.LayerRow.{LayerRow}
use Rattle.image_docs.specs.declared.store_row.StoreRow.{StoreRow}
use Rattle.layer_flags.specs.declared.restore.RestoreRow.{RestoreRow}
use Rattle.layer_flags.specs.declared.restore.RestoreRow.TheVariants as part
use Rattle.run_docs.specs.declared.group.GroupRow.{GroupRow}
use Rattle.shelf_set.proofs.CountLaws.{BesideCaches, beside_link, beside_rest, gathers_ends, obeys_in_caches}
use Rattle.shelf_set.proofs.CountLaws.{obeys_in_world, restores_tree_counts}
use Rattle.shelf_set.specs.Caches.{WorldAndCaches, in_world}
use Rattle.shelf_set.specs.Restoring.{restores_tree}
use Rattle.shelf_set.specs.declared.restoring.Found.{Found}
use Rattle.shelf_set.specs.declared.restoring.Found.TheVariants as found
use Rattle.steps.specs.Causes.{Cause}
use Rattle.steps.specs.Counts.{FileCounts}
use Rattle.steps.specs.Outside.{Seen}
use Rattle.steps.specs.Steps.{◌>>=◌, gives, map_err, yields}
use Rattle.steps.proofs.EndLaws.{Obeys, files_link, files_rest, makes_folder_counts, obeys_bind, obeys_each}
use Rattle.steps.proofs.EndLaws.{obeys_gives, obeys_told, obeys_yields, reads_counts, removes_counts, writes_counts}
use Rattle.tree_store.specs.Answers as tree_store
use Rattle.tree_store.specs.Steps.{IsCauseWithin}
use Rattle.tree_store.specs.declared.fault.StoreFault.{StoreFault}
use Rattle.tree_store.specs.declared.fault.StoreFault.TheVariants as store
use Rattle.cnb_restore.specs.declared.fault.RestoreFault.{RestoreFault}
use Rattle.cnb_restore.specs.declared.refusal.RestoreRefusal.TheVariants.{Fault}
use Rattle.cnb_restore.specs.declared.restored.Restored.{Restored}
use Rattle.cnb_restore.specs.declared.sources.Sources.{Sources}
use Rattle.cnb_restore.specs.Analyzes.{analyzes}
use Rattle.cnb_restore.specs.Commands.{analyzes_command, refusal_cause, restores_analyzed, restores_command}
use Rattle.cnb_restore.specs.Faults.{cause_of, of_laying_fault}
use Rattle.cnb_restore.specs.Layers.{writes_layer, writes_store}
use Rattle.cnb_restore.specs.Restores.{prepares_folder, restores, restores_buildpack, restores_contents}
use Rattle.cnb_restore.specs.Restores.{restores_document, restores_each, restores_found, restores_group}
use Rattle.cnb_restore.specs.Restores.{restores_layer, restores_layers, restores_part, restores_rows}

-- ---- `analyze`

pub analyzes_counts : (store run : List ℕ) (previous : Option (List ℕ))
    → Obeys FileCounts cause_of (analyzes store run previous)
unfolding analyzes
analyzes_counts store run previous =
    obeys_bind _ _ _ _ files_link (reads_counts cause_of _ _ _)
    (λ image. obeys_bind _ _ _ _ files_link (reads_counts cause_of _ _ _) (λ known. obeys_gives _ _ _ files_rest))

pub analyze_counts : (words : AnalyzeWords) → Obeys FileCounts cause_of (analyzes_command words)
unfolding analyzes_command
analyze_counts words =
    obeys_bind _ _ _ _ files_link (analyzes_counts words.store words.run words.previous)
    (λ analyzed. obeys_bind _ _ _ _ files_link (obeys_gives _ _ _ files_rest)
    (λ text. obeys_bind _ _ _ _ files_link (writes_counts cause_of _ _) (λ written. obeys_yields _ _ _ files_rest)))

-- ---- what is written of a layer and of a buildpack

layer_counts : (folder : List ℕ) (row : LayerRow) → Obeys FileCounts cause_of (writes_layer folder row)
unfolding writes_layer
layer_counts folder row = writes_counts cause_of _ _

store_counts : (folder : List ℕ) (kept : Option StoreRow) → Obeys FileCounts cause_of (writes_store folder kept)
unfolding writes_store
store_counts folder None = obeys_yields FileCounts cause_of tt files_rest
store_counts folder (Some row) = writes_counts cause_of _ _

folder_counts : (folder id : List ℕ) (kept : List StoreRow) → Obeys FileCounts cause_of (prepares_folder folder id kept)
unfolding prepares_folder
folder_counts folder id kept =
    obeys_bind _ _ _ _ files_link (removes_counts cause_of folder)
    (λ removed. obeys_bind _ _ _ _ files_link (makes_folder_counts cause_of folder) (λ made. store_counts folder _))

-- ---- steps over the world and its caches

abbrev Beside : {E A : Type 0} → (E → Cause) → (WorldAndCaches → Result A E → WorldAndCaches → Type 0) → Type 0
Beside cause step = Obeys (BesideCaches FileCounts) cause step

-- one after another
follows : {E A B : Type 0} (cause : E → Cause) (first : WorldAndCaches → Result A E → WorldAndCaches → Type 0)
    (next : A → WorldAndCaches → Result B E → WorldAndCaches → Type 0)
    → Beside cause first → ((a : A) → Beside cause (next a)) → Beside cause (first >>= next)
follows cause first next p q = obeys_bind (BesideCaches FileCounts) cause first next
    (beside_link FileCounts files_link) p q

known : {E A : Type 0} (cause : E → Cause) (want : Result A E) → Beside cause (gives cause want)
known cause want = obeys_gives (BesideCaches FileCounts) cause want (beside_rest FileCounts files_rest)

kept : {A : Type 0} (value : A) → Beside cause_of (yields value)
kept value = obeys_yields (BesideCaches FileCounts) cause_of value (beside_rest FileCounts files_rest)

over_world : {E A : Type 0} (cause : E → Cause) (step : Seen → Result A E → Seen → Type 0)
    → Obeys FileCounts cause step → Beside cause (in_world step)
over_world cause step p = obeys_in_world FileCounts cause step p

document_counts : (folder : List ℕ) (row : LayerRow) (contents : Bool) (restored : Restored)
    → Beside cause_of (restores_document folder row contents restored)
unfolding restores_document
document_counts folder row contents restored = follows _ _ _ (over_world _ _ (layer_counts folder row))
    (λ written. known _ _)

found_counts : (folder : List ℕ) (row : LayerRow) (restored : Restored) (answer : Found)
    → Beside cause_of (restores_found folder row restored answer)
unfolding restores_found
found_counts folder row restored found.None = kept restored
found_counts folder row restored (found.Damaged asked is bad) = known _ _
found_counts folder row restored found.Laid = document_counts folder row true restored

-- a tree that is restored is refused for a failed call, or for want of memory
laid_cause : (root : List ℕ) (fault : StoreFault) → IsCauseWithin root (tree_store.cause_of fault)
    → cause_of (of_laying_fault fault) ≡ tree_store.cause_of fault
laid_cause root (store.File path) h = refl
laid_cause root store.Memory h = refl
laid_cause root (store.OddFile path) h = absurd h
laid_cause root (store.Limit kind) h = absurd h
laid_cause root (store.NoTree digest) h = absurd h
laid_cause root (store.Damaged asked is bad) h = absurd h
laid_cause root (store.Clash digest) h = absurd h

tree_counts : (digest root : List ℕ) → Beside cause_of (map_err of_laying_fault (restores_tree digest root))
unfolding map_err restores_tree
tree_counts digest root old new (Ok search) h = restores_tree_counts digest root old new (Ok search) h
tree_counts digest root old new (Err refusal) (fault, is, h) =
    subst (λ (cause : Cause). FileCounts (Some cause) old.world new.world)
    (sym (ap cause_of is ∙ laid_cause root fault h.by.0))
    (restores_tree_counts digest root old new (Err fault) h)

contents_counts : (folder : List ℕ) (row : LayerRow) (restored : Restored)
    → Beside cause_of (restores_contents folder row restored)
unfolding restores_contents
contents_counts folder row restored =
    follows _ _ _ (tree_counts row.digest (joined folder row.layer))
    (λ search. follows _ _ _ (known _ _) (λ counted. found_counts folder row counted search.found))

part_counts : (folder : List ℕ) (source : Option LayerRow) (line : RestoreRow) (restored : Restored)
    → Beside cause_of (restores_part folder source line restored)
unfolding restores_part
part_counts folder None line restored = kept restored
part_counts folder (Some row) part.Nothing restored = kept restored
part_counts folder (Some row) part.Meta restored = document_counts folder row false restored
part_counts folder (Some row) part.Both restored = contents_counts folder row restored

each_counts : (folder : List ℕ) (app cache : List LayerRow) (names : List (List ℕ)) (restored : Restored)
    → Beside cause_of (restores_each folder app cache names restored)
unfolding restores_each restores_layer
each_counts folder app cache names restored =
    obeys_each (BesideCaches FileCounts) cause_of _ (beside_link FileCounts files_link)
    (beside_rest FileCounts files_rest) (λ name so_far. part_counts folder _ _ so_far) names restored

layers_counts : (folder : List ℕ) (app cache : List LayerRow) (restored : Restored)
    → Beside cause_of (restores_layers folder app cache restored)
unfolding restores_layers
layers_counts folder app cache restored = follows _ _ _ (known _ _) (λ made. each_counts folder app cache _ restored)

rows_counts : (folder : List ℕ) (sources : Sources) (id : List ℕ) (restored : Restored)
    → Beside cause_of (restores_rows folder sources id restored)
unfolding restores_rows
rows_counts folder sources id restored = follows _ _ _ (known _ _) (λ made. layers_counts folder _ _ restored)

buildpack_counts : (layers : List ℕ) (sources : Sources) (id : List ℕ) (restored : Restored)
    → Beside cause_of (restores_buildpack layers sources id restored)
unfolding restores_buildpack
buildpack_counts layers sources id restored = follows _ _ _ (over_world _ _ (folder_counts _ id _))
    (λ prepared. rows_counts _ sources id restored)

group_counts : (layers : List ℕ) (sources : Sources) (group : List GroupRow) (restored : Restored)
    → Beside cause_of (restores_group layers sources group restored)
unfolding restores_group
group_counts layers sources group restored =
    obeys_each (BesideCaches FileCounts) cause_of _ (beside_link FileCounts files_link)
    (beside_rest FileCounts files_rest) (λ row so_far. buildpack_counts layers sources row.key.id so_far)
    group restored

-- ---- `restore`

pub restores_counts : (store : List ℕ) (name : Option (List ℕ)) (group : List GroupRow) (layers : List ℕ)
    → Obeys (BesideCaches FileCounts) cause_of (restores store name group layers)
unfolding restores
restores_counts store name group layers =
    follows _ _ _ (over_world _ _ (reads_counts cause_of _ _ _))
    (λ previous. follows _ _ _ (obeys_in_caches FileCounts cause_of _ files_rest (gathers_ends cause_of))
    (λ gathered. follows _ _ _ (known _ _) (λ restored. group_counts layers _ group restored)))

analyzed_counts : (words : RestoreWords) (analyzed : Analyzed) (group : List GroupRow)
    → Beside refusal_cause (restores_analyzed words analyzed group)
unfolding restores_analyzed
analyzed_counts words analyzed group =
    follows _ _ _ (known _ _)
    (λ allowed. follows _ _ _ (obeys_told (BesideCaches FileCounts) cause_of refusal_cause _ _ (λ fault. refl)
    (restores_counts words.store analyzed.previous group words.layers)) (λ restored. known _ _))

read_counts : {A : Type 0} (step : Seen → Result A RestoreFault → Seen → Type 0) → Obeys FileCounts cause_of step
    → Beside refusal_cause (map_err Fault (in_world step))
read_counts step p = obeys_told (BesideCaches FileCounts) cause_of refusal_cause Fault (in_world step)
    (λ fault. refl) (over_world cause_of step p)

pub restore_counts : (words : RestoreWords) → Obeys (BesideCaches FileCounts) refusal_cause (restores_command words)
unfolding restores_command
restore_counts words =
    follows _ _ _ (read_counts _ (reads_counts cause_of _ _ _))
    (λ analyzed. follows _ _ _ (read_counts _ (reads_counts cause_of _ _ _))
    (λ group. analyzed_counts words analyzed group))
