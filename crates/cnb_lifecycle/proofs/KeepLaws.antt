-- What the commands that write an image's document leave of it where they are refused.
use Rattle.std.proofs.Common.{◌≡◌, refl, sym, subst, ℕ, true, List, [], Option, Some, None, Result, Ok, Err, inl, inr}
use Rattle.cnb_create.specs.Apart.{are_apart}
use Rattle.cnb_create.specs.Surroundings.{Surroundings, caches_beside, over_caches, over_world, surroundings}
use Rattle.cnb_create.proofs.CreateLaws.{refused_keeps, refused_run_write, refused_told, refused_write, trees_apart}
use Rattle.cnb_create.proofs.CreateLaws.{trees_apart_from_run}
use Rattle.cnb_create.proofs.ExportLaws.{keeps_exports}
use Rattle.cnb_create.proofs.KeepLemmas.{KeepsIn, KeepsRefused, cached_in_world, cached_world, in_each, in_gives}
use Rattle.cnb_create.proofs.KeepLemmas.{in_told, refused_bind, refused_where}
use Rattle.cnb_create.proofs.PutLemmas.{keeps_puts_folder}
use Rattle.cnb_export.specs.Command.{exports_command, exports_given, finishes_export, saves_readable_image}
use Rattle.cnb_export.specs.Given.{frame_of, reads_given, reads_group, reads_needed, refusal_cause}
use Rattle.cnb_layers.specs.Refusals as exporting
use Rattle.cnb_export.specs.declared.exported.Exported.{Exported}
use Rattle.cnb_layers.specs.declared.frame.ExportFrame.{ExportFrame}
use Rattle.cnb_export.specs.declared.refusal.ExportRefusal.{ExportRefusal}
use Rattle.cnb_export.specs.declared.refusal.ExportRefusal.TheVariants.{Fault}
use Rattle.cnb_rebase.specs.Bases.{bases_command, makes_base, puts_folders, puts_next}
use Rattle.cnb_rebase.specs.Rebases.{rebases, rebases_command, rebases_on, saves_rebased}
use Rattle.cnb_rebase.specs.Refusals as rebasing
use Rattle.cnb_rebase.specs.declared.refusal.BaseFault.{BaseFault}
use Rattle.cnb_rebase.specs.declared.refusal.BaseFault.TheVariants.{Image, Store}
use Rattle.cnb_rebase.specs.declared.refusal.RebaseFault.{RebaseFault}
use Rattle.cnb_toml.specs.declared.fault.DocFault.{DocFault}
use Rattle.cnb_words.specs.declared.base.BaseWords.{BaseWords}
use Rattle.cnb_words.specs.declared.export.ExportWords.{ExportWords}
use Rattle.cnb_words.specs.declared.rebase.RebaseWords.{RebaseWords}
use Rattle.cnb_words.specs.declared.words.Asked.{Asked}
use Rattle.cnb_words.specs.declared.words.Asked.TheVariants.{Detect, Analyze, Restore, Build, Export, Create, Rebase}
use Rattle.cnb_words.specs.declared.words.Asked.TheVariants.{Base, Unpack, Show, Prune, Verify, Check, Drill, Launch}
use Rattle.cnb_world.specs.declared.env.Variable.{Variable}
use Rattle.image_docs.specs.declared.image.ImageDoc.{ImageDoc}
use Rattle.image_docs.specs.declared.run_image.RunDoc.{RunDoc}
use Rattle.image_files.specs.Images.{reads_image, reads_run_image, writes_readable_image, writes_readable_run_image}
use Rattle.image_files.specs.Paths.{image_path, run_path}
use Rattle.shelf_set.specs.Caches.{caches_of, in_world}
use Rattle.shelf_set.specs.ShelfState.{ShelfState}
use Rattle.steps.specs.Outside.{Outside, Seen}
use Rattle.steps.specs.Steps.{◌>>=◌, gives, map_err, yields}
use Rattle.steps.proofs.KeepingLaws.{Preserves, keeps_bind, keeps_gives, keeps_reads, keeps_same, keeps_then}
use Rattle.steps.proofs.KeepingLaws.{keeps_told}
use Rattle.steps.proofs.KeepingLaws.{keeps_yields}
use Rattle.tree_store.specs.Answers as tree_store
use Rattle.tree_store.specs.Writing.{trees_of}
use Rattle.cnb_lifecycle.specs.declared.answer.Answer.{Answer}
use Rattle.cnb_lifecycle.specs.declared.answer.Answer.TheVariants as answer
use Rattle.cnb_lifecycle.specs.declared.refusal.Refusal.{Refusal}
use Rattle.cnb_lifecycle.specs.declared.status.Status.{Status}
use Rattle.cnb_lifecycle.specs.declared.status.Status.TheVariants.{Done, Output, Refused, Launched}
use Rattle.cnb_lifecycle.specs.Commands.{On, after_words, does}
use Rattle.cnb_lifecycle.specs.Ends.{Ends}
use Rattle.cnb_lifecycle.specs.Keeping.{KeepsImage, OnRefusal}
use Rattle.cnb_lifecycle.specs.Printing.{Finishes}
use Rattle.cnb_lifecycle.specs.Telling.{tells}
use Rattle.cnb_lifecycle.proofs.WordLaws.{HasPaths}

abbrev world : Seen → Seen
world s = s

-- ---- export

keeps_needed : {A : Type 0} (path : List ℕ) (form : List ℕ → Result A DocFault) (folder name : List ℕ)
    → Preserves path (reads_needed form folder name)
unfolding reads_needed
keeps_needed path form folder name =
    keeps_bind path _ _ (keeps_gives path exporting.cause_of _)
    (λ at. keeps_bind path _ _ (keeps_reads path exporting.cause_of _ _ _)
    (λ found. keeps_gives path exporting.cause_of _))

keeps_group : (path work : List ℕ) → Preserves path (reads_group work)
unfolding reads_group
keeps_group path work =
    keeps_bind path _ _ (keeps_told path Fault _ (keeps_needed path _ work _))
    (λ group. keeps_bind path _ _ (keeps_gives path refusal_cause _) (λ allowed. keeps_yields path group))

keeps_given : (path : List ℕ) (words : ExportWords) → Preserves path (reads_given words)
unfolding reads_given
keeps_given path words =
    keeps_bind path _ _ (keeps_group path words.work)
    (λ group. keeps_bind path _ _ (keeps_told path Fault _ (keeps_needed path _ words.work _))
    (λ analyzed. keeps_gives path refusal_cause _))

refused_export_save : (words : ExportWords) (image : ImageDoc) (text : List ℕ)
    → KeepsRefused {E = ExportRefusal} cached_world (image_path words.store words.image)
    (in_world (map_err Fault (saves_readable_image words.store words.image image)) >>= (λ saved. yields text))
unfolding ◌>>=◌ in_world yields
refused_export_save words image text old new fault (inl h) =
    refused_told world _ Fault _ (refused_told world _ exporting.of_image_fault _
    (refused_write words.store words.image image)) old.world new.world fault h.0
refused_export_save words image text old new fault (inr (saved, mid, h, k)) = absurd k

refused_finish : (words : ExportWords) (exported : Exported)
    → KeepsRefused cached_world (image_path words.store words.image) (finishes_export words exported)
unfolding finishes_export
refused_finish words exported =
    refused_bind cached_world _ _ _ (in_gives cached_world _ refusal_cause _)
    (λ text. refused_export_save words exported.image text)

value_is : {A E : Type 0} (a b : A) → (let r : Result A E = Ok a in r) ≡ Ok b → b ≡ a
value_is a b h = cc

pub export_refused : (words : ExportWords) → KeepsRefused cached_world (image_path words.store words.image)
    (exports_command words)
unfolding exports_command exports_given reads_given in_world gives ◌>>=◌
export_refused words =
    let path = image_path words.store words.image in
    refused_where cached_world path (in_world (reads_given words)) (exports_given words)
    (λ given. given.frame ≡ frame_of words) (cached_in_world path _ (keeps_given path words))
    (λ old new given ((group, first, grouped, (analyzed, second, analyzing, (same, made, cause))), caches).
    let is = value_is _ given made in cc)
    (λ given is. refused_bind cached_world path _ (finishes_export words)
    (in_told cached_world path Fault _ (keeps_exports given.frame path
    (subst (λ (frame : ExportFrame). are_apart (trees_of frame.store) path ≡ true) (sym is)
    (trees_apart words.store words.image)) true given.group given.analyzed))
    (λ exported. refused_finish words exported))

-- ---- rebase

keeps_rebases : (path store name run : List ℕ) → Preserves path (rebases store name run)
unfolding rebases rebases_on reads_image reads_run_image
keeps_rebases path store name run =
    keeps_bind path _ _ (keeps_told path rebasing.of_image_fault _ (keeps_reads path _ _ _ _))
    (λ image. keeps_bind path _ _ (keeps_told path rebasing.of_image_fault _ (keeps_reads path _ _ _ _))
    (λ base. keeps_gives path rebasing.cause_of _))

refused_rebase_save : (words : RebaseWords) (image : ImageDoc) (text : List ℕ)
    → KeepsRefused {E = RebaseFault} world (image_path words.store words.image)
    (map_err rebasing.of_image_fault (writes_readable_image words.store words.image image)
    >>= (λ written. yields text))
unfolding ◌>>=◌ yields
refused_rebase_save words image text old new fault (inl h) = refused_told world _ rebasing.of_image_fault _
    (refused_write words.store words.image image) old new fault h
refused_rebase_save words image text old new fault (inr (written, mid, h, k)) = absurd k

pub rebase_refused : (words : RebaseWords) → KeepsRefused world (image_path words.store words.image)
    (rebases_command words)
unfolding rebases_command saves_rebased
rebase_refused words =
    let path = image_path words.store words.image in
    refused_bind world path _ _ (keeps_rebases path words.store words.image words.run)
    (λ image. refused_bind world path _ _ (keeps_gives path rebasing.cause_of _)
    (λ text. refused_rebase_save words image text))

-- ---- base

keeps_base : (path store os arch : List ℕ) (folders : List (List ℕ)) → are_apart (trees_of store) path ≡ true
    → Preserves path (makes_base store os arch folders)
unfolding makes_base puts_folders puts_next
keeps_base path store os arch folders apart =
    keeps_bind path _ _
    (in_each world path (puts_next store) folders []
    (λ folder so_far. keeps_bind path _ _ (keeps_puts_folder store path apart folder)
    (λ digest. keeps_gives path tree_store.cause_of _)))
    (λ rows. keeps_gives path tree_store.cause_of _)

refused_base_save : (words : BaseWords) (image : RunDoc) (text : List ℕ)
    → KeepsRefused {E = BaseFault} world (run_path words.store words.run)
    (map_err Image (writes_readable_run_image words.store words.run image) >>= (λ written. yields text))
unfolding ◌>>=◌ yields
refused_base_save words image text old new fault (inl h) = refused_told world _ Image _
    (refused_run_write words.store words.run image) old new fault h
refused_base_save words image text old new fault (inr (written, mid, h, k)) = absurd k

pub base_refused : (words : BaseWords) → KeepsRefused world (run_path words.store words.run) (bases_command words)
unfolding bases_command
base_refused words =
    let path = run_path words.store words.run in
    refused_bind world path _ _ (keeps_told path Store _
    (keeps_base path words.store words.os words.arch words.trees
    (trees_apart_from_run words.store words.run)))
    (λ image. refused_bind world path _ _ (keeps_gives path rebasing.base_cause _)
    (λ text. refused_base_save words image text))

-- ---- each command

kept_asked : (asked : Asked) (env : List Variable) (refusal : Refusal) (old new : Surroundings) → HasPaths asked
    → does asked env old (Err refusal) new → KeepsImage asked old.world new.world
unfolding over_caches over_world tells
kept_asked (Export options) env refusal old new path ((fault, is, steps), spawners) = export_refused options
    (caches_beside old) (caches_beside new) fault steps
kept_asked (Create options) env refusal old new path (fault, is, steps) = refused_keeps options env old new
    (Err fault) path.1 steps
kept_asked (Rebase options) env refusal old new path ((fault, is, steps), spawners, caches) = rebase_refused
    options old.world new.world fault steps
kept_asked (Base options) env refusal old new path ((fault, is, steps), spawners, caches) = base_refused options
    old.world new.world fault steps
kept_asked (Detect options) env refusal old new path h = tt
kept_asked (Analyze options) env refusal old new path h = tt
kept_asked (Restore options) env refusal old new path h = tt
kept_asked (Build options) env refusal old new path h = tt
kept_asked (Unpack options) env refusal old new path h = tt
kept_asked (Show options) env refusal old new path h = tt
kept_asked (Prune options) env refusal old new path h = tt
kept_asked (Verify options) env refusal old new path h = tt
kept_asked (Check options) env refusal old new path h = tt
kept_asked (Drill options) env refusal old new path h = tt
kept_asked (Launch options) env refusal old new path h = tt

-- nothing was done
unchanged : (asked : Asked) (old : Seen) → KeepsImage asked old old
unchanged (Export options) old = keeps_same _ old old refl refl
unchanged (Create options) old = λ apart. keeps_same _ old old refl refl
unchanged (Rebase options) old = keeps_same _ old old refl refl
unchanged (Base options) old = keeps_same _ old old refl refl
unchanged (Detect options) old = tt
unchanged (Analyze options) old = tt
unchanged (Restore options) old = tt
unchanged (Build options) old = tt
unchanged (Unpack options) old = tt
unchanged (Show options) old = tt
unchanged (Prune options) old = tt
unchanged (Verify options) old = tt
unchanged (Check options) old = tt
unchanged (Drill options) old = tt
unchanged (Launch options) old = tt

kept_behind_words : (asked : Asked) (env : List Variable) (refusal : Refusal) (old new : Surroundings)
    → HasPaths asked → after_words (does asked env) old (Err refusal) new → KeepsImage asked old.world new.world
unfolding ◌>>=◌ gives
kept_behind_words asked env refusal old new path (inl given) = subst
    (λ (s : Surroundings). KeepsImage asked old.world s.world) (sym given.0) (unchanged asked old.world)
kept_behind_words asked env refusal old new path (inr (read, mid, given, did)) =
    subst (λ (s : Surroundings). KeepsImage asked s.world new.world) given.0
    (kept_asked asked env refusal mid new path did)

kept_by : (asked : Asked) (env : List Variable) (old : Surroundings) (outside : Outside)
    (shelves : List ShelfState) (standing : List ℕ) (end : Result Answer Refusal) (status : Status)
    (taken_old taken_new : Option (List ℕ))
    → HasPaths asked → after_words (does asked env) old end (surroundings outside (caches_of shelves standing))
    → Finishes end status taken_old taken_new → OnRefusal status (KeepsImage asked old.world outside.world)
kept_by asked env old outside shelves standing (Ok (answer.Printed text))
    (Refused told) taken_old taken_new path did finishes = absurd finishes
kept_by asked env old outside shelves standing (Ok (answer.Launched code))
    (Refused told) taken_old taken_new path did finishes = absurd finishes
kept_by asked env old outside shelves standing (Err refusal) (Refused told) taken_old taken_new path did finishes =
    kept_behind_words asked env refusal old (surroundings outside (caches_of shelves standing)) path did
kept_by asked env old outside shelves standing end Done taken_old taken_new path did finishes = tt
kept_by asked env old outside shelves standing end Output taken_old taken_new path did finishes = tt
kept_by asked env old outside shelves standing end (Launched code) taken_old taken_new path did finishes = tt

-- for every command
pub keeps_image : (o : Option Asked) (env : List Variable) (old : Surroundings) (outside : Outside)
    (shelves : List ShelfState) (status : Status) (taken_old taken_new : Option (List ℕ))
    → On o HasPaths → On o (λ asked. Ends (after_words (does asked env)) old outside shelves status taken_old
    taken_new) → On o (λ asked. OnRefusal status (KeepsImage asked old.world outside.world))
keeps_image None env old outside shelves status taken_old taken_new path h = tt
keeps_image (Some asked) env old outside shelves status taken_old taken_new path h =
    kept_by asked env old outside shelves h.standing h.end status taken_old taken_new path h.did h.finishes
