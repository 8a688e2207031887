-- What `create` leaves alone where it is refused: the image's document.
use Rattle.std.proofs.Common.{◌≡◌, ◌∙◌, refl, sym, ap, subst, ℕ, ◌<◌, Bool, true, false, not, cond, List, [], ◌∷◌, ◌++◌}
use Rattle.std.proofs.Common.{length, length-append, codes, drop, take, append_assoc, arith, Option, Some, Result, Ok}
use Rattle.std.proofs.Common.{Err, inl, inr}
use Rattle.std.specs.Prelude.{◌||◌, IsTrue, OnErr}
use Rattle.std.specs.FinMap.{get, insert}
use Rattle.std.specs.List.{list_all}
use Rattle.std.specs.Str.{bytes_eq}
use Rattle.std.proofs.lemmas.Bool.{and_from, and_parts}
use Rattle.cnb_world.specs.Path.{beside, is_path, joined, parent_of}
use Rattle.cnb_world.specs.Tree.{Tree, folder_made, is_root, is_within, item_at}
use Rattle.cnb_world.specs.Whole.{FolderMade, PartBeside, Progress, Unbegun, left_of}
use Rattle.cnb_world.specs.declared.env.Variable.{Variable}
use Rattle.cnb_world.specs.declared.world.Item.TheVariants.{File}
use Rattle.cnb_world.proofs.Trees.{bytes_eq-other, get-insert_bytes}
use Rattle.cnb_world.proofs.Folders.{get-folder_made_longer, longer_beside, parent_shorter}
use Rattle.cnb_build.specs.Places.{buildpack_plan_path}
use Rattle.cnb_build.specs.declared.frame.BuildFrame.{BuildFrame}
use Rattle.cnb_build.specs.Outcome.{spares}
use Rattle.layer_paths.specs.Paths.{layers_folder}
use Rattle.cnb_build.specs.Refusals as building
use Rattle.cnb_build.proofs.KeepLaws.{keeps_builds}
use Rattle.cnb_detect.specs.Choice.{Choice}
use Rattle.cnb_detect.specs.Detects.{chooses}
use Rattle.cnb_detect.specs.Documents.{group_document, plan_document, writes_choice}
use Rattle.cnb_detect.specs.Preparation.{prepares}
use Rattle.cnb_detect.specs.Refusals as detection
use Rattle.cnb_detect.specs.declared.target.TargetSource.{TargetSource}
use Rattle.cnb_detect.specs.declared.target.TargetSource.TheVariants.{Given}
use Rattle.cnb_detect.proofs.DetectLaws.{prepares_reads}
use Rattle.cnb_export.specs.Command.{saves_readable_image}
use Rattle.cnb_layers.specs.Refusals as exporting
use Rattle.cnb_restore.specs.Analyzes.{analyzes}
use Rattle.cnb_restore.specs.Commands.{ReadsAsAnalyzed}
use Rattle.cnb_restore.specs.Faults as restoring
use Rattle.cnb_toml.specs.declared.target.Target.{Target}
use Rattle.cnb_words.specs.declared.create.CreateWords.{CreateWords}
use Rattle.image_docs.specs.declared.analyzed.Analyzed.{Analyzed}
use Rattle.image_docs.specs.declared.image.ImageDoc.{ImageDoc}
use Rattle.image_docs.specs.declared.run_image.RunDoc.{RunDoc}
use Rattle.image_files.specs.Images.{writes_readable_image, writes_readable_run_image}
use Rattle.image_files.specs.Paths.{document_name, image_path, images_folder, run_path, runs_folder}
use Rattle.image_files.specs.Target.{analyzed_document, target_of}
use Rattle.image_files.proofs.PathLemmas.{document_length}
use Rattle.run_docs.specs.Group.{group_in, is_row}
use Rattle.run_docs.specs.Plan.{plan_in}
use Rattle.run_docs.specs.declared.group.GroupRow.{GroupRow}
use Rattle.shelf_set.specs.Caches.{in_world}
use Rattle.steps.specs.Causes.{Cause}
use Rattle.steps.specs.Keeping.{Keeps, is_free, standing, touched}
use Rattle.steps.specs.Outside.{Seen}
use Rattle.steps.specs.Steps.{LeavesSome, ◌>>=◌, gives, map_err, writes, yields}
use Rattle.steps.proofs.KeepingLaws.{Preserves, keeps_bind, keeps_gives, keeps_reads, keeps_same, keeps_told}
use Rattle.steps.proofs.KeepingLaws.{keeps_writes, keeps_yields, step_at}
use Rattle.cnb_create.specs.Apart.{are_apart, are_folders_apart, image_document, is_document_apart, is_image_apart}
use Rattle.cnb_create.specs.Creates.{build_frame, builds_group, chooses_group, creates, export_frame, exports_image}
use Rattle.cnb_create.specs.Creates.{leaves_image, looks_at_images, phases_of, previous_name}
use Rattle.cnb_create.specs.Report.{created_text}
use Rattle.cnb_create.specs.Refusals.{cause_of}
use Rattle.cnb_create.specs.Surroundings.{Surroundings, over_outside}
use Rattle.cnb_create.specs.declared.phases.Phases.{Phases}
use Rattle.cnb_create.specs.declared.refusal.CreateRefusal.{CreateRefusal}
use Rattle.cnb_create.specs.declared.refusal.CreateRefusal.TheVariants.{Build, Detect, Export, Restore}
use Rattle.cnb_create.proofs.ApartLemmas.{folder_not_root, free_document, free_folder, inside_joined, unless_within}
use Rattle.cnb_create.proofs.ChoiceLaws.{chosen_keyed}
use Rattle.cnb_create.proofs.ExportLaws.{keeps_exports}
use Rattle.cnb_create.proofs.KeepLemmas.{KeepsIn, KeepsRefused, all_over_caches, all_over_outside, all_over_world}
use Rattle.cnb_create.proofs.KeepLemmas.{all_world, at_get, cached_world, in_bind, in_gives, in_told, in_yields}
use Rattle.cnb_create.proofs.KeepLemmas.{refused_bind, refused_over_caches, refused_where, spawners_in_spawners}
use Rattle.cnb_create.proofs.KeepLemmas.{spawners_in_world, spawners_world}
use Rattle.cnb_create.proofs.RestoreLaws.{keeps_restores}
use Rattle.cnb_create.proofs.WorkLemmas.{document_apart, free_in_work, free_plan, no_document_root, no_root_behind}

-- ---- the phases

keeps_analyzes : (path store run : List ℕ) (previous : Option (List ℕ)) → Preserves path (analyzes store run previous)
unfolding analyzes
keeps_analyzes path store run previous =
    keeps_bind path _ _ (keeps_reads path restoring.cause_of _ _ _)
    (λ image. keeps_bind path _ _ (keeps_reads path restoring.cause_of _ _ _)
    (λ known. keeps_gives path restoring.cause_of _))

keeps_images : (path : List ℕ) (words : CreateWords) → is_free
    (touched (analyzed_document words.detect.work)) path ≡ true → Preserves path (looks_at_images words)
unfolding looks_at_images
keeps_images path words free =
    keeps_bind path _ _ (keeps_analyzes path words.store words.run (Some (previous_name words)))
    (λ analyzed. keeps_bind path _ _ (keeps_writes path restoring.cause_of (analyzed_document words.detect.work)
    (ReadsAsAnalyzed analyzed) free) (λ written. keeps_yields path analyzed))

keeps_prepares : (path : List ℕ) (source : TargetSource) (words : CreateWords) (env : List Variable)
    → Preserves path (prepares source words.detect env)
keeps_prepares path source words env old new result h =
    let read = prepares_reads source words.detect env old new result h in
    keeps_same path old new read.same.runs (ap (λ files. standing files path) read.same.files)

keeps_choice : (path : List ℕ) (work : List ℕ) (choice : Choice)
    → is_free (touched (group_document work)) path ≡ true → is_free (touched (plan_document work)) path ≡ true
    → Preserves path (writes_choice work choice)
unfolding writes_choice
keeps_choice path work choice group plan =
    keeps_bind path _ _ (keeps_writes path detection.cause_of (group_document work)
    (λ bytes. group_in bytes ≡ Ok choice.group) group)
    (λ first. keeps_bind path _ _ (keeps_writes path detection.cause_of (plan_document work)
    (λ bytes. plan_in bytes ≡ Ok choice.plan) plan) (λ second. keeps_yields path tt))

keeps_chooses : (path : List ℕ) (target : Target) (words : CreateWords) (env : List Variable)
    → is_free (touched (group_document words.detect.work)) path ≡ true
    → is_free (touched (plan_document words.detect.work)) path ≡ true
    → KeepsIn spawners_world path (chooses_group target words.detect env)
unfolding chooses_group chooses
keeps_chooses path target words env group plan =
    in_bind spawners_world path _ _ (in_bind spawners_world path _ _
    (spawners_in_world path _ (keeps_prepares path (Given target) words env))
    (λ prepared. spawners_in_spawners path _))
    (λ choice. in_bind spawners_world path _ _ (spawners_in_world path _
    (keeps_choice path words.detect.work choice group plan))
    (λ written. in_yields spawners_world path choice))

-- a group of keys of their form: its builds leave an image's document alone that is apart from the layers folder, if
-- the work folder isn't in the image's store
all_spared : (store name : List ℕ) (frame : BuildFrame) (group : List GroupRow)
    → not (is_within store frame.work) ≡ true → are_apart frame.layers (image_path store name) ≡ true
    → list_all is_row group ≡ true
    → list_all (spares (image_path store name) frame) group ≡ true
all_spared store name frame [] away layers named = refl
all_spared store name frame (row ∷ group) away layers named =
    let keys = and_parts (is_row row) (list_all is_row group) named in
    and_from (spares (image_path store name) frame row) (list_all (spares (image_path store name) frame) group)
    (and_from _ _ (free_folder frame.layers (image_path store name) layers (layers_folder frame.layers row.key.id)
    (inside_joined frame.layers _ (folder_not_root frame.layers (image_path store name) layers)))
    (free_plan store name frame.work away frame row.key refl keys.0))
    (all_spared store name frame group away layers keys.1)

was_given : {A E : Type 0} (a b : A) → (let r : Result A E = Ok a in r) ≡ Ok b → a ≡ b
was_given a b h = cc

-- a value that is known, and what is done with it
in_known : {S E A B : Type 0} (view : S → Seen) (path : List ℕ) (cause : E → Cause) (value : A)
    (next : A → S → Result B E → S → Type 0) → KeepsIn view path (next value)
    → KeepsIn view path (gives cause (Ok value) >>= next)
unfolding ◌>>=◌ gives
in_known view path cause value next keeps old new (Ok result) (a, mid, given, later) =
    subst (λ s. Keeps path (view s) (view new)) given.0
    (subst (λ v. KeepsIn view path (next v)) (was_given value a given.1) keeps mid new (Ok result) later)
in_known view path cause value next keeps old new (Err fault) (inl given) = in_gives view path cause
    (Ok value) old new (Err fault) given
in_known view path cause value next keeps old new (Err fault) (inr (a, mid, given, later)) =
    subst (λ s. Keeps path (view s) (view new)) given.0
    (subst (λ v. KeepsIn view path (next v)) (was_given value a given.1) keeps mid new (Err fault) later)

keeps_group : (target : Target) (words : CreateWords) (env : List Variable) (choice : Choice)
    → not (is_within words.store words.detect.work) ≡ true → are_apart words.layers (image_document words) ≡ true
    → list_all is_row choice.group ≡ true → Preserves (image_document words) (builds_group target words env choice)
unfolding builds_group
keeps_group target words env choice away layers named =
    keeps_bind (image_document words) _ _ (keeps_reads (image_document words) building.cause_of _ _ _)
    (λ files. in_known (λ (s : Seen). s) (image_document words) building.cause_of (build_frame target words env files) _
    (keeps_builds (image_document words) (build_frame target words env files) choice.plan choice.group
    (all_spared words.store words.image (build_frame target words env files) choice.group away layers named)))

-- ---- trees stand apart from images

other_behind : (c : ℕ) (front xs ys : List ℕ) → (c ≡ 116 → ⊥) → front ++ c ∷ xs ≡ front ++ 116 ∷ ys → ⊥
other_behind c [] xs ys differs same = differs (cc)
other_behind c (d ∷ front) xs ys differs same = let rest : front ++ c ∷ xs ≡ front ++ 116 ∷ ys = cc
    in other_behind c front xs ys differs rest

abbrev front_of_store : List ℕ → List ℕ
front_of_store store = cond (bytes_eq store (47 ∷ [])) store (store ++ 47 ∷ [])

-- what a name lies behind, in or below a folder
behind : (folder name : List ℕ) → (more : List ℕ) × (joined folder name ≡ folder ++ more)
behind folder name = by (bytes_eq folder (47 ∷ []))
  where
    by : (root : Bool) → (more : List ℕ) × (cond root folder (folder ++ 47 ∷ []) ++ name ≡ folder ++ more)
    by true = (name, refl)
    by false = (47 ∷ name, append_assoc folder (47 ∷ []) name)

images_are : (store name : List ℕ) → (more : List ℕ) × (image_path store name ≡ front_of_store store ++ 105 ∷ more)
images_are store name =
    let b = behind (images_folder store) (document_name name) in
    (109 ∷ 97 ∷ 103 ∷ 101 ∷ 115 ∷ b.0, b.1 ∙ append_assoc (front_of_store store) (codes "images") b.0)

runs_are : (store name : List ℕ) → (more : List ℕ) × (run_path store name ≡ front_of_store store ++ 114 ∷ more)
runs_are store name =
    let b = behind (runs_folder store) (document_name name) in
    (117 ∷ 110 ∷ 115 ∷ b.0, b.1 ∙ append_assoc (front_of_store store) (codes "runs") b.0)

-- a document in a folder of the store whose name doesn't begin as that of the trees
beside_trees : (store path : List ℕ) (c : ℕ) (more : List ℕ) → (c ≡ 116 → ⊥) → is_root path ≡ false
    → path ≡ front_of_store store ++ c ∷ more → are_apart (joined store (codes "trees")) path ≡ true
beside_trees store path c more differs no_root at =
    and_from (not (is_within (joined store (codes "trees")) path)) (not (is_within path (joined store (codes "trees"))))
    (unless_within _ _ (no_root_behind (front_of_store store) (codes "trees") (omega arith))
    (λ below. other_behind c (front_of_store store) more (114 ∷ 101 ∷ 101 ∷ 115 ∷ below.0) differs
    (sym at ∙ below.1 ∙ append_assoc (front_of_store store) (codes "trees") below.0)))
    (unless_within _ _ no_root
    (λ below. other_behind c (front_of_store store) (more ++ below.0) (114 ∷ 101 ∷ 101 ∷ 115 ∷ []) differs
    (sym (append_assoc (front_of_store store) (c ∷ more) below.0) ∙ ap (λ v. v ++ below.0) (sym at)
    ∙ sym below.1)))

pub trees_apart : (store name : List ℕ) → are_apart (joined store (codes "trees")) (image_path store name) ≡ true
trees_apart store name =
    let at = images_are store name in
    beside_trees store (image_path store name) 105 at.0 (λ (e : ◌≡◌ {A = ℕ} 105 116). absurd (omega (arith, e)))
    (no_document_root (images_folder store) name) at.1

pub trees_apart_from_run : (store name : List ℕ) → are_apart (joined store (codes "trees")) (run_path store name) ≡ true
trees_apart_from_run store name =
    let at = runs_are store name in
    beside_trees store (run_path store name) 114 at.0 (λ (e : ◌≡◌ {A = ℕ} 114 116). absurd (omega (arith, e)))
    (no_document_root (runs_folder store) name) at.1

-- ---- the image's own document

-- where a write is refused, its own path is as before
left_itself : (progress : Progress) (bytes : List ℕ) (t : Tree) (p : List ℕ) → 1 < length p
    → item_at (left_of progress p bytes t) p ≡ item_at t p
left_itself progress bytes t p long = by progress
  where
    folder : get (folder_made (parent_of p) t) p ≡ get t p
    folder = get-folder_made_longer (parent_of p) p t (parent_shorter p long)

    beside_it : (u : Tree) (bytes : List ℕ) → get (insert u (beside p) (File false bytes)) p ≡ get u p
    beside_it u bytes =
        get-insert_bytes u (beside p) (File false bytes) p
        ∙ ap (λ b. cond b (Some (File false bytes)) (get u p))
        (bytes_eq-other p (beside p) (λ e. let same : length p ≡ length (beside p) = ap length e
        in omega (arith, same, longer_beside p)))

    by : (progress : Progress) → item_at (left_of progress p bytes t) p ≡ item_at t p
    by Unbegun = refl
    by FolderMade = at_get _ t p folder
    by (PartBeside count) = at_get _ t p (beside_it (folder_made (parent_of p) t) (take count bytes) ∙ folder)

some_left_itself : (p : List ℕ) (Says : List ℕ → Type 0) (o n : Option Tree) → 1 < length p
    → LeavesSome p Says o n → standing n p ≡ standing o p
some_left_itself p Says o n long (inl same) = ap (λ files. standing files p) same
some_left_itself p Says o n long (inr (bytes, says, (progress, fits, is))) = step_at o n
    (left_of progress p bytes) p (λ t. left_itself progress bytes t p long) is

long_document : (folder name : List ℕ) → 1 < length (joined folder (document_name name))
long_document folder name = by (bytes_eq folder (47 ∷ []))
  where
    by : (root : Bool) → 1 < length (cond root folder (folder ++ 47 ∷ []) ++ document_name name)
    by true = omega (arith, length-append folder (document_name name), document_length name)
    by false = omega (arith, length-append (folder ++ 47 ∷ []) (document_name name), document_length name)

pub refused_write : (store name : List ℕ) (image : ImageDoc)
    → KeepsRefused (λ (s : Seen). s) (image_path store name) (writes_readable_image store name image)
unfolding writes_readable_image writes
refused_write store name image old new fault h = keeps_same (image_path store name) old new h.1.runs
    (some_left_itself (image_path store name) _ old.files new.files
    (long_document (images_folder store) name) h.1.files)

pub refused_run_write : (store name : List ℕ) (image : RunDoc)
    → KeepsRefused (λ (s : Seen). s) (run_path store name) (writes_readable_run_image store name image)
unfolding writes_readable_run_image writes
refused_run_write store name image old new fault h = keeps_same (run_path store name) old new h.1.runs
    (some_left_itself (run_path store name) _ old.files new.files
    (long_document (runs_folder store) name) h.1.files)

pub refused_told : {S E F A : Type 0} (view : S → Seen) (path : List ℕ) (of : E → F)
    (step : S → Result A E → S → Type 0) → KeepsRefused view path step → KeepsRefused view path (map_err of step)
unfolding map_err
refused_told view path of step p old new refusal (fault, is, h) = p old new fault h

refused_save : (words : CreateWords) (image : ImageDoc) (text : List ℕ)
    → KeepsRefused {E = CreateRefusal} cached_world (image_document words)
    (in_world (map_err Export (saves_readable_image words.store words.image image)) >>= (λ saved. yields text))
unfolding ◌>>=◌ in_world yields
refused_save words image text old new fault (inl h) =
    refused_told (λ (s : Seen). s) _ Export _ (refused_told (λ (s : Seen). s) _ exporting.of_image_fault _
    (refused_write words.store words.image image)) old.world new.world fault h.0
refused_save words image text old new fault (inr (saved, mid, h, k)) = absurd k

keeps_image_export : (words : CreateWords) (analyzed : Analyzed) (group : List GroupRow)
    → KeepsIn cached_world (image_document words) (exports_image true words analyzed group)
unfolding exports_image
keeps_image_export words analyzed group =
    in_known cached_world (image_document words) exporting.cause_of (export_frame words) _
    (keeps_exports (export_frame words) (image_document words)
    (trees_apart words.store words.image) true group analyzed)

refused_leaving : (words : CreateWords) (phases : Phases)
    → KeepsRefused cached_world (image_document words) (leaves_image words phases)
unfolding leaves_image
refused_leaving words phases =
    refused_bind cached_world _ _ _ (in_told cached_world _ Export _
    (keeps_image_export words phases.analyzed phases.group))
    (λ exported. refused_bind cached_world _ _ _ (in_gives cached_world _ cause_of
    (Ok (created_text words.image phases exported))) (λ text. refused_save words exported.image text))

path_long : (path : List ℕ) → is_path path ≡ true → 0 < length path
path_long [] h = absurd (cc)
path_long (c ∷ cs) h = omega arith

-- ---- all of it

choice_keyed : (target : Target) (words : CreateWords) (env : List Variable) (old new : Surroundings)
    (choice : Choice) → over_outside (map_err Detect (chooses_group target words.detect env)) old (Ok choice) new
    → list_all is_row choice.group ≡ true
unfolding over_outside map_err
choice_keyed target words env old new choice h = chosen_keyed target words.detect env _ _ choice h.0

keeps_apart : (words : CreateWords) (env : List Variable) (old new : Surroundings) (refusal : CreateRefusal)
    → 0 < length words.layers → are_folders_apart words ≡ true → creates words env old (Err refusal) new
    → Keeps (image_document words) old.world new.world
unfolding creates
keeps_apart words env old new refusal long apart did =
    let (away, folders) = and_parts (not (is_within words.store words.detect.work))
    (are_apart words.layers words.store) apart in
    let layers = document_apart words.layers words.store words.image folders in
    let free = free_in_work words.store words.image words.detect.work away in
    refused_bind all_world _ _ _ (all_over_world _ _
    (keeps_told _ Restore _ (keeps_images (image_document words) words
    (free 97 (drop 1 (codes "analyzed.toml")) (λ (e : ◌≡◌ {A = ℕ} 97 105). absurd (omega (arith, e)))
    (omega arith)))))
    (λ analyzed. refused_where all_world _ _ _ (λ (choice : Choice). list_all is_row choice.group ≡ true)
    (all_over_outside _ _ (in_told spawners_world _ Detect _
    (keeps_chooses (image_document words) (target_of analyzed) words env
    (free 103 (drop 1 (codes "group.toml")) (λ (e : ◌≡◌ {A = ℕ} 103 105). absurd (omega (arith, e)))
    (omega arith))
    (free 112 (drop 1 (codes "plan.toml")) (λ (e : ◌≡◌ {A = ℕ} 112 105). absurd (omega (arith, e))) (omega arith)))))
    (choice_keyed (target_of analyzed) words env)
    (λ choice named. refused_bind all_world _ _ _
    (all_over_caches _ _ (in_told cached_world _ Restore _
    (keeps_restores words.layers (image_document words) layers long words.store analyzed.previous
    choice.group)))
    (λ restored. refused_bind all_world _ _ _ (all_over_world _ _
    (keeps_told _ Build _ (keeps_group (target_of analyzed) words env choice away layers named)))
    (λ built. refused_over_caches _ _ (refused_leaving words (phases_of analyzed choice restored))))))
    old new refusal did

-- ---- where the document alone is apart

-- a group whose builds leave a path alone that is apart from the layers folder and from that of the plans
document_spared : (path : List ℕ) (frame : BuildFrame) (group : List GroupRow)
    → are_apart (joined frame.work (codes "plans")) path ≡ true → are_apart frame.layers path ≡ true
    → list_all (spares path frame) group ≡ true
document_spared path frame [] plans layers = refl
document_spared path frame (row ∷ group) plans layers =
    and_from (spares path frame row) (list_all (spares path frame) group)
    (and_from _ _ (free_folder frame.layers path layers (layers_folder frame.layers row.key.id)
    (inside_joined frame.layers _ (folder_not_root frame.layers path layers)))
    (free_document (joined frame.work (codes "plans")) path plans (buildpack_plan_path frame row.key)
    (inside_joined (joined frame.work (codes "plans")) _
    (folder_not_root (joined frame.work (codes "plans")) path plans))))
    (document_spared path frame group plans layers)

keeps_built : (path : List ℕ) (target : Target) (words : CreateWords) (env : List Variable) (choice : Choice)
    → are_apart (joined words.detect.work (codes "plans")) path ≡ true → are_apart words.layers path ≡ true
    → Preserves path (builds_group target words env choice)
unfolding builds_group
keeps_built path target words env choice plans layers =
    keeps_bind path _ _ (keeps_reads path building.cause_of _ _ _)
    (λ files. in_known (λ (s : Seen). s) path building.cause_of (build_frame target words env files) _
    (keeps_builds path (build_frame target words env files) choice.plan choice.group
    (document_spared path (build_frame target words env files) choice.group plans layers)))

keeps_document : (words : CreateWords) (env : List Variable) (old new : Surroundings) (refusal : CreateRefusal)
    → 0 < length words.layers → is_document_apart words ≡ true → creates words env old (Err refusal) new
    → Keeps (image_document words) old.world new.world
unfolding creates
keeps_document words env old new refusal long apart did =
    let last = and_parts _ (are_apart words.layers (image_document words)) apart in
    let fourth = and_parts _ (are_apart (joined words.detect.work (codes "plans")) (image_document words)) last.0 in
    let third = and_parts _ (is_free (touched (plan_document words.detect.work)) (image_document words)) fourth.0 in
    let first = and_parts (is_free (touched (analyzed_document words.detect.work)) (image_document words))
    (is_free (touched (group_document words.detect.work)) (image_document words)) third.0 in
    refused_bind all_world _ _ _ (all_over_world _ _
    (keeps_told _ Restore _ (keeps_images (image_document words) words first.0)))
    (λ analyzed. refused_bind all_world _ _ _ (all_over_outside _ _
    (in_told spawners_world _ Detect _ (keeps_chooses (image_document words)
    (target_of analyzed) words env first.1 third.1)))
    (λ choice. refused_bind all_world _ _ _ (all_over_caches _ _
    (in_told cached_world _ Restore _ (keeps_restores words.layers
    (image_document words) last.1 long words.store analyzed.previous choice.group)))
    (λ restored. refused_bind all_world _ _ _ (all_over_world _ _
    (keeps_told _ Build _ (keeps_built (image_document words)
    (target_of analyzed) words env choice fourth.1 last.1)))
    (λ built. refused_over_caches _ _ (refused_leaving words (phases_of analyzed choice restored))))))
    old new refusal did

-- ---- either

keeps_either : (words : CreateWords) (env : List Variable) (old new : Surroundings) (refusal : CreateRefusal)
    → 0 < length words.layers → is_image_apart words ≡ true → creates words env old (Err refusal) new
    → Keeps (image_document words) old.world new.world
keeps_either words env old new refusal long apart did = by (are_folders_apart words) refl
  where
    by : (folders : Bool) → are_folders_apart words ≡ folders → Keeps (image_document words) old.world new.world
    by true is = keeps_apart words env old new refusal long is did
    by false is =
        keeps_document words env old new refusal long
        (sym (ap (λ folders. folders || is_document_apart words) is) ∙ apart) did

pub refused_keeps : (words : CreateWords) (env : List Variable) (old new : Surroundings)
    (result : Result (List ℕ) CreateRefusal) → is_path words.layers ≡ true → creates words env old result new
    → OnErr result (IsTrue (is_image_apart words) → Keeps (image_document words) old.world new.world)
refused_keeps words env old new (Ok text) path did = tt
refused_keeps words env old new (Err refusal) path did = λ apart. keeps_either words env old new refusal
    (path_long words.layers path) apart did
