-- What an export does to the counts of the world, by what ended it.
use Rattle.std.proofs.Common.{◌≡◌, refl, ℕ, Bool, true, List, [], ◌∷◌, Option, Some, None, Result}
use Rattle.app_slices.specs.Slots.{Slices}
use Rattle.cnb_toml.specs.declared.fault.DocFault.{DocFault}
use Rattle.cnb_toml.specs.declared.process.Process.{Process}
use Rattle.cnb_words.specs.declared.export.ExportWords.{ExportWords}
use Rattle.image_docs.specs.declared.analyzed.Analyzed.{Analyzed}
use Rattle.image_docs.specs.declared.image.ImageDoc.{ImageDoc}
use Rattle.image_files.specs.Faults as image_files
use Rattle.image_files.specs.Images.{writes_image}
use Rattle.image_files.specs.declared.fault.ImageFault.{ImageFault}
use Rattle.image_files.specs.declared.fault.ImageFault.TheVariants as image
use Rattle.image_files.proofs.CountLaws as images
use Rattle.run_docs.specs.declared.group.GroupRow.{GroupRow}
use Rattle.shelf_set.proofs.CountLaws.{BesideCaches, beside_link, beside_rest, obeys_in_world, stores_folders_counts}
use Rattle.steps.proofs.EndLaws.{Links, Obeys, Rests, files_link, files_rest, obeys_bind, obeys_each, obeys_gives}
use Rattle.steps.proofs.EndLaws.{obeys_told, obeys_yields, reads_counts, writes_counts}
use Rattle.steps.specs.Counts.{FileCounts}
use Rattle.steps.specs.Outside.{Seen}
use Rattle.steps.specs.Steps.{map_err}
use Rattle.tree_canon.specs.declared.node.Node.{Node}
use Rattle.tree_store.specs.Answers as tree_store
use Rattle.tree_store.proofs.CountLaws.{put_folder_counts, put_tree_counts, read_tree_counts}
use Rattle.cnb_export.specs.declared.exported.Exported.{Exported}
use Rattle.cnb_layers.specs.declared.frame.ExportFrame.{ExportFrame}
use Rattle.cnb_layers.specs.declared.fault.ExportFault.{ExportFault}
use Rattle.cnb_layers.specs.declared.fault.ExportFault.TheVariants.{Store}
use Rattle.cnb_export.specs.declared.refusal.ExportRefusal.TheVariants.{Fault}
use Rattle.cnb_export.specs.Command.{exports_command, exports_given, finishes_export, saves_image, saves_readable_image}
use Rattle.cnb_export.specs.Exports.{exports, gains}
use Rattle.cnb_export.specs.Given.{reads_given, reads_group, reads_needed, refusal_cause}
use Rattle.cnb_export.specs.Images.{reads_layers, reads_previous}
use Rattle.cnb_layers.specs.Refusals.{cause_of, of_image_fault}
use Rattle.cnb_export.specs.Trees.{cuts_app, puts_app, puts_links, puts_part, puts_parts, puts_process, puts_trees}
use Rattle.cnb_export.specs.Trees.{puts_whole}
use Rattle.cnb_layers.proofs.CountLaws.{export_group_counts, of_store}

same_cause : (fault : ImageFault) → cause_of (of_image_fault fault) ≡ image_files.cause_of fault
same_cause (image.NoImage name) = refl
same_cause (image.Document path fault) = refl
same_cause (image.Limit kind) = refl
same_cause (image.File path) = refl
same_cause image.Memory = refl

-- a step over images
of_images : {A : Type 0} (step : Seen → Result A ImageFault → Seen → Type 0)
    → Obeys FileCounts image_files.cause_of step → Obeys FileCounts cause_of (map_err of_image_fault step)
of_images step p = obeys_told FileCounts image_files.cause_of cause_of of_image_fault step same_cause p

-- a step of an export, as one of the command
of_fault : {A : Type 0} (step : Seen → Result A ExportFault → Seen → Type 0) → Obeys FileCounts cause_of step
    → Obeys FileCounts refusal_cause (map_err Fault step)
of_fault step p = obeys_told FileCounts cause_of refusal_cause Fault step (λ fault. refl) p

-- ---- the image

read_previous_counts : (store : List ℕ) (name : Option (List ℕ)) → Obeys FileCounts cause_of (reads_previous store name)
unfolding reads_layers
read_previous_counts store None = obeys_yields _ _ _ files_rest
read_previous_counts store (Some name) = obeys_bind _ _ _ _ files_link
    (of_images _ (images.image_counts store name)) (λ image. obeys_yields _ _ _ files_rest)

put_process_counts : (store : List ℕ) (processes : List Process)
    → Obeys FileCounts cause_of (puts_process store processes)
unfolding puts_links
put_process_counts store [] = obeys_yields _ _ _ files_rest
put_process_counts store (process ∷ processes) =
    obeys_bind _ _ _ _ files_link (obeys_gives _ _ _ files_rest)
    (λ tree. obeys_bind _ _ _ _ files_link (of_store _ (put_tree_counts store tree))
    (λ digest. obeys_yields _ _ _ files_rest))

put_whole_counts : (store app : List ℕ) → Obeys FileCounts cause_of (puts_whole store app)
unfolding puts_whole
put_whole_counts store app = obeys_bind _ _ _ _ files_link (of_store _ (put_folder_counts store app))
    (λ digest. obeys_gives _ _ _ files_rest)

cut_app_counts : (app : List ℕ) (slices : Slices) → Obeys FileCounts cause_of (cuts_app app slices)
unfolding cuts_app
cut_app_counts app slices = obeys_bind _ _ _ _ files_link (of_store _ (read_tree_counts app))
    (λ tree. obeys_gives _ _ _ files_rest)

put_part_counts : (store : List ℕ) (tree : Node) (digests : List (List ℕ))
    → Obeys FileCounts cause_of (puts_part store tree digests)
unfolding puts_part
put_part_counts store tree digests = obeys_bind _ _ _ _ files_link (of_store _ (put_tree_counts store tree))
    (λ digest. obeys_gives _ _ _ files_rest)

put_app_counts : (store app : List ℕ) (slices : Slices) → Obeys FileCounts cause_of (puts_app store app slices)
unfolding puts_parts
put_app_counts store app [] = put_whole_counts store app
put_app_counts store app (slice ∷ slices) =
    obeys_bind _ _ _ _ files_link (cut_app_counts app (slice ∷ slices))
    (λ parts. obeys_each _ _ _ files_link files_rest (put_part_counts store) parts [])

put_trees_counts : (frame : ExportFrame) (slices : Slices) (processes : List Process)
    → Obeys FileCounts cause_of (puts_trees frame slices processes)
unfolding puts_trees
put_trees_counts frame slices processes =
    obeys_bind _ _ _ _ files_link (put_app_counts frame.store frame.app slices)
    (λ app. obeys_bind _ _ _ _ files_link (of_store _ (put_folder_counts frame.store frame.launcher))
    (λ launcher. obeys_bind _ _ _ _ files_link (obeys_gives _ _ _ files_rest)
    (λ last. obeys_bind _ _ _ _ files_link (put_process_counts frame.store last)
    (λ process. obeys_yields _ _ _ files_rest))))

gain_counts : (frame : ExportFrame) (group : List GroupRow) (analyzed : Analyzed)
    → Obeys FileCounts cause_of (gains frame group analyzed)
unfolding gains
gain_counts frame group analyzed =
    obeys_bind _ _ _ _ files_link (of_images _ (images.run_image_counts frame.store analyzed.run))
    (λ run. obeys_bind _ _ _ _ files_link (read_previous_counts frame.store analyzed.previous)
    (λ previous. obeys_bind _ _ _ _ files_link (export_group_counts frame previous group)
    (λ gathered. obeys_bind _ _ _ _ files_link (put_trees_counts frame gathered.slices gathered.processes)
    (λ digests. obeys_bind _ _ _ _ files_link (obeys_gives _ _ _ files_rest)
    (λ image. obeys_bind _ _ _ _ files_link (obeys_gives _ _ _ files_rest) (λ rows. obeys_yields _ _ _ files_rest))))))

-- ---- the command

beside_caches_link : Links (BesideCaches FileCounts)
beside_caches_link = beside_link FileCounts files_link

beside_caches_rest : Rests (BesideCaches FileCounts)
beside_caches_rest = beside_rest FileCounts files_rest

pub exports_counts : (readable : Bool) (frame : ExportFrame) (group : List GroupRow) (analyzed : Analyzed)
    → Obeys (BesideCaches FileCounts) cause_of (exports readable frame group analyzed)
unfolding exports
exports_counts readable frame group analyzed =
    obeys_bind (BesideCaches FileCounts) _ _ _ beside_caches_link
    (obeys_in_world FileCounts _ _ (gain_counts frame group analyzed))
    (λ gained. obeys_bind (BesideCaches FileCounts) _ _ _ beside_caches_link
    (obeys_gives (BesideCaches FileCounts) _ _ beside_caches_rest)
    (λ folders. obeys_bind (BesideCaches FileCounts) _ _ _ beside_caches_link
    (obeys_told (BesideCaches FileCounts) tree_store.cause_of cause_of Store _ (λ fault. refl)
    (stores_folders_counts readable gained.cached folders))
    (λ gone. obeys_yields (BesideCaches FileCounts) _ _ beside_caches_rest)))

pub saved_image_counts : (store name : List ℕ) (image : ImageDoc)
    → Obeys FileCounts cause_of (saves_image store name image)
unfolding writes_image
saved_image_counts store name image = of_images _ (writes_counts image_files.cause_of _ _)

pub saved_readable_image_counts : (store name : List ℕ) (image : ImageDoc)
    → Obeys FileCounts cause_of (saves_readable_image store name image)
saved_readable_image_counts store name image = of_images _ (images.written_image_counts store name image)

read_needed_counts : {A : Type 0} (form : List ℕ → Result A DocFault) (folder name : List ℕ)
    → Obeys FileCounts cause_of (reads_needed form folder name)
unfolding reads_needed
read_needed_counts form folder name =
    obeys_bind _ _ _ _ files_link (obeys_gives _ _ _ files_rest)
    (λ path. obeys_bind _ _ _ _ files_link (reads_counts cause_of _ _ _) (λ found. obeys_gives _ _ _ files_rest))

read_given_counts : (words : ExportWords) → Obeys FileCounts refusal_cause (reads_given words)
unfolding reads_given reads_group
read_given_counts words =
    obeys_bind _ _ _ _ files_link
    (obeys_bind _ _ _ _ files_link (of_fault _ (read_needed_counts _ words.work _))
    (λ group. obeys_bind _ _ _ _ files_link (obeys_gives _ _ _ files_rest) (λ allowed. obeys_yields _ _ _ files_rest)))
    (λ group. obeys_bind _ _ _ _ files_link (of_fault _ (read_needed_counts _ words.work _))
    (λ analyzed. obeys_gives _ _ _ files_rest))

finish_export_counts : (words : ExportWords) (exported : Exported)
    → Obeys (BesideCaches FileCounts) refusal_cause (finishes_export words exported)
unfolding finishes_export
finish_export_counts words exported =
    obeys_bind (BesideCaches FileCounts) _ _ _ beside_caches_link
    (obeys_gives (BesideCaches FileCounts) _ _ beside_caches_rest)
    (λ text. obeys_bind (BesideCaches FileCounts) _ _ _ beside_caches_link
    (obeys_in_world FileCounts _ _ (of_fault _ (saved_readable_image_counts words.store words.image
    exported.image)))
    (λ saved. obeys_yields (BesideCaches FileCounts) _ _ beside_caches_rest))

pub export_counts : (words : ExportWords) → Obeys (BesideCaches FileCounts) refusal_cause (exports_command words)
unfolding exports_command exports_given
export_counts words =
    obeys_bind (BesideCaches FileCounts) _ _ _ beside_caches_link
    (obeys_in_world FileCounts _ _ (read_given_counts words))
    (λ given. obeys_bind (BesideCaches FileCounts) _ _ _ beside_caches_link
    (obeys_told (BesideCaches FileCounts) cause_of refusal_cause Fault _ (λ fault. refl)
    (exports_counts true given.frame given.group given.analyzed))
    (λ exported. finish_export_counts words exported))
