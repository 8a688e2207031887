-- Where the files fit a command, it makes no call on a path of the wrong kind.
use Rattle.std.proofs.Common.{◌≡◌, ◌∙◌, refl, sym, ap, subst, arith, ℕ, ◌+◌, ◌<◌, ◌≤◌, nat_le, Bool, true, false, not}
use Rattle.std.proofs.Common.{List, [], ◌∷◌, ◌++◌, codes, length, length-append, map, Option, Some, None, Result, Ok}
use Rattle.std.proofs.Common.{Err, inl, inr}
use Rattle.std.proofs.lemmas.Bool.{and_from, and_parts, leb-true}
use Rattle.std.specs.Prelude.{◌||◌, IfOk, IsTrue, OnOk, if◌then◌else◌, is_some}
use Rattle.std.specs.Option.{option_map}
use Rattle.std.specs.Str.{bytes_eq}
use Rattle.cnb_create.specs.Surroundings.{Surroundings, over_outside, over_world, surroundings, caches_beside}
use Rattle.cnb_create.specs.Surroundings.{over_caches}
use Rattle.cnb_env.specs.Layers.{are_fit_launch_sets}
use Rattle.cnb_launch.specs.Choosing.{chosen_in}
use Rattle.cnb_launch.specs.Commands.{launches_command}
use Rattle.cnb_launch.specs.Documents.{launch_doc_under}
use Rattle.cnb_launch.specs.Exec.{runs_exec, runs_execs}
use Rattle.cnb_launch.specs.Faults as launching
use Rattle.cnb_launch.specs.Planning.{are_fit_execs, launches, plans, prepares, prepares_in, prepares_of, sets_in}
use Rattle.cnb_record.specs.Checks.{checks, compares, compares_group, compares_plan, follows, matches, proves}
use Rattle.cnb_record.specs.Checks.{reads_group, reads_ordered}
use Rattle.cnb_rebase.specs.Bases.{bases_command, makes_base, puts_folders, puts_next}
use Rattle.cnb_rebase.specs.Refusals.{base_cause}
use Rattle.cnb_rebase.specs.Rebases.{rebases, rebases_command, rebases_on, saves_rebased}
use Rattle.cnb_rebase.specs.Shows.{shows_command}
use Rattle.cnb_restore.specs.Analyzes.{analyzes}
use Rattle.cnb_restore.specs.Commands.{analyzes_command}
use Rattle.cnb_words.specs.declared.analyze.AnalyzeWords.{AnalyzeWords}
use Rattle.cnb_words.specs.declared.base.BaseWords.{BaseWords}
use Rattle.cnb_words.specs.declared.check.CheckWords.{CheckWords}
use Rattle.cnb_words.specs.declared.launch.LaunchWords.{LaunchWords}
use Rattle.cnb_words.specs.declared.prune.PruneWords.{PruneWords}
use Rattle.cnb_words.specs.declared.rebase.RebaseWords.{RebaseWords}
use Rattle.cnb_words.specs.declared.show.ShowWords.{ShowWords}
use Rattle.cnb_words.specs.declared.verify.VerifyWords.{VerifyWords}
use Rattle.cnb_words.specs.declared.words.Asked.{Asked}
use Rattle.cnb_words.specs.declared.words.Asked.TheVariants.{Detect, Analyze, Restore, Build, Export, Create, Rebase}
use Rattle.cnb_words.specs.declared.words.Asked.TheVariants.{Base, Unpack, Show, Prune, Verify, Check, Drill, Launch}
use Rattle.cnb_world.proofs.Joins.{file_is_path, parent_of_file}
use Rattle.cnb_world.specs.Calls.{MayMisuse}
use Rattle.cnb_world.specs.Path.{is_path, is_short_path, joined, parent_of}
use Rattle.cnb_world.specs.Tree.{Tree, is_file, is_file_or_absent, is_root, item_at}
use Rattle.cnb_world.specs.declared.env.Variable.{Variable}
use Rattle.cnb_world.specs.declared.world.Item.{Item}
use Rattle.cnb_toml.specs.Form.{TableForm}
use Rattle.cnb_toml.specs.Names.{is_image_name}
use Rattle.doc_files.specs.Faults.{read_cause}
use Rattle.image_docs.specs.Image.{image_table_in}
use Rattle.image_docs.specs.RunImage.{table_in}
use Rattle.image_docs.specs.declared.launch_doc.LaunchDoc.{LaunchDoc}
use Rattle.image_files.proofs.PathLemmas.{document_length, document_name_is_part, image_name_fits}
use Rattle.image_files.specs.Images.{reads_image, reads_run_image, writes_readable_image, writes_readable_run_image}
use Rattle.image_files.specs.Paths.{document_name, images_folder, run_path, runs_folder}
use Rattle.sha2.specs.Sha256.{sha256}
use Rattle.shelf_set.specs.Caches.{caches_of}
use Rattle.shelf_set.specs.ShelfState.{ShelfState}
use Rattle.steps.specs.Causes.{Cause}
use Rattle.steps.specs.Each.{for_each}
use Rattle.steps.specs.Outside.{Outside, Seen}
use Rattle.steps.specs.Steps.{◌>>=◌, gives, removes, yields}
use Rattle.store_prune.specs.Digests.{tree_digest}
use Rattle.store_prune.specs.Faults.{cause_of as prune_cause}
use Rattle.store_prune.specs.Listing.{lists, lists_where, looks_for, looks_for_file}
use Rattle.store_prune.specs.Named.{adds_document, adds_folder, adds_if, adds_name, adds_where, digests_of_image}
use Rattle.store_prune.specs.Named.{digests_of_run, is_document_name, reads_named, reads_names}
use Rattle.store_prune.specs.Prunes.{prunes_command, removes_all, removes_next, removes_trees}
use Rattle.store_prune.specs.Surveys.{surveys}
use Rattle.store_prune.specs.Trees.{adds_digest, adds_tree, reads_trees}
use Rattle.store_prune.specs.declared.fault.PruneFault.{PruneFault}
use Rattle.store_prune.specs.Verifies.{checks_all, checks_image, checks_next, verifies, verifies_command}
use Rattle.tree_canon.specs.Spelling.{spelling_of}
use Rattle.tree_canon.specs.declared.node.Node.{Node}
use Rattle.tree_store.specs.Answers.{cause_of as tree_cause}
use Rattle.tree_store.specs.Reading.{tree_in}
use Rattle.tree_store.specs.Steps.{LeavesFolder, can_name, can_put_folder, checks_tree, folder_put, gets_tree}
use Rattle.tree_store.specs.Steps.{puts_folder}
use Rattle.tree_store.specs.declared.fault.StoreFault.{StoreFault}
use Rattle.tree_store.specs.Store.{tree_path}
use Rattle.tree_store.specs.Writing.{trees_of}
use Rattle.cnb_lifecycle.specs.declared.answer.Answer.{Answer}
use Rattle.cnb_lifecycle.specs.declared.refusal.Refusal.{Refusal}
use Rattle.cnb_lifecycle.specs.declared.status.Status.{Status}
use Rattle.cnb_lifecycle.specs.Commands.{On, after_words, does}
use Rattle.cnb_lifecycle.specs.Ends.{Ends}
use Rattle.cnb_lifecycle.specs.Fitting.{FitsAnalyze, FitsBase, FitsCheck, FitsLaunch, FitsPrune, FitsRebase, FitsShow}
use Rattle.cnb_lifecycle.specs.Fitting.{FitsVerify, IsListed, NoMisuseBy}
use Rattle.cnb_lifecycle.specs.Telling.{tells}
use Rattle.cnb_lifecycle.proofs.BuildFits.{build_idle, build_minds}
use Rattle.cnb_lifecycle.proofs.CreateFits.{create_idle, create_minds}
use Rattle.cnb_lifecycle.proofs.DetectFits.{detect_minds}
use Rattle.cnb_lifecycle.proofs.FitPasses.{Goes, Passes, goes_bind, goes_each, goes_looks, goes_told, minds_behind}
use Rattle.cnb_lifecycle.proofs.FitSteps.{by_allows, Counts, counts_bind, counts_child, counts_each, counts_exec}
use Rattle.cnb_lifecycle.proofs.FitSteps.{given_then, Looks, looks_bind, looks_each, looks_gives, looks_reads}
use Rattle.cnb_lifecycle.proofs.FitSteps.{looks_told, looks_yields, Minds, minds_bind, minds_counts, minds_looks}
use Rattle.cnb_lifecycle.proofs.FitSteps.{minds_told, minds_writes, minds_yields, narrow, reads_then, still, told_then}
use Rattle.cnb_lifecycle.proofs.FitSteps.{unmoved}
use Rattle.cnb_lifecycle.proofs.ExportFits.{export_minds}
use Rattle.cnb_lifecycle.proofs.PutFits.{begin_kept, child_longer, file_kept, joined_within, not_root, tree_longer}
use Rattle.cnb_lifecycle.proofs.PutFits.{trees_long, write_kept}
use Rattle.cnb_lifecycle.proofs.UnpackFits.{unpack_minds}
use Rattle.cnb_lifecycle.proofs.RestoreFits.{restore_minds}
use Rattle.cnb_lifecycle.proofs.WordLaws.{HasPaths}

-- ---- show, analyze, rebase

show_minds : (words : ShowWords) → Minds (FitsShow words) (shows_command words)
unfolding shows_command reads_image
show_minds words = minds_looks _ _ (looks_bind _ _ _ (looks_reads _ _ _ _ _ (λ t fit. fit))
    (λ image. looks_gives _ _ _))

analyze_minds : (words : AnalyzeWords) → Minds (FitsAnalyze words) (analyzes_command words)
unfolding analyzes_command analyzes
analyze_minds words =
    minds_bind _ _ _
    (looks_bind _ _ _ (looks_reads _ _ _ _ _ (λ t (fit : FitsAnalyze words t). fit.run))
    (λ image. looks_bind _ _ _ (looks_reads _ _ _ _ _ (λ t (fit : FitsAnalyze words t). fit.previous))
    (λ known. looks_gives _ _ _)))
    (λ analyzed. minds_bind _ _ _ (looks_gives _ _ _)
    (λ text. minds_yields _ _ _ (minds_writes _ _ _ _ (λ t (fit : FitsAnalyze words t). fit.written))))

rebase_minds : (words : RebaseWords) → Minds (FitsRebase words) (rebases_command words)
unfolding rebases_command rebases rebases_on saves_rebased reads_image reads_run_image writes_readable_image
rebase_minds words =
    minds_bind _ _ _
    (looks_bind _ _ _ (looks_told _ _ _ (looks_reads _ _ _ _ _ (λ t (fit : FitsRebase words t). fit.image)))
    (λ image. looks_bind _ _ _ (looks_told _ _ _ (looks_reads _ _ _ _ _ (λ t (fit : FitsRebase words t). fit.run)))
    (λ base. looks_gives _ _ _)))
    (λ image. minds_bind _ _ _ (looks_gives _ _ _)
    (λ text. minds_yields _ _ _ (minds_told _ _ _
    (minds_writes _ _ _ _ (λ t (fit : FitsRebase words t). fit.written)))))

-- ---- verify

looks_for_tree : (store digest : List ℕ) (Fit : Tree → Type 0)
    → ((t : Tree) → Fit t → IsTrue (is_file_or_absent (item_at t (tree_path store digest))))
    → Looks Fit (checks_tree store digest)
unfolding checks_tree gets_tree
looks_for_tree store digest Fit so =
    looks_bind Fit (gets_tree store digest) _
    (λ old new result h. (
      h.same.files,
      narrow (λ t. IsTrue
          (is_file_or_absent (item_at t (tree_path store digest)))) Fit old.files old.misused new.misused so
          (by_allows (λ t. is_file_or_absent (item_at t (tree_path store digest))) old.files old.misused new.misused
          h.allows),
    ))
    (λ tree. looks_yields Fit tt)

verify_minds : (words : VerifyWords) → Minds (FitsVerify words) (verifies_command words)
unfolding verifies_command verifies checks_image checks_all reads_image
verify_minds words =
    minds_looks _ _
    (looks_bind _ _ _
    (looks_bind _ _ _ (looks_told _ _ _ (looks_reads _ _ _ _ _ (λ t (fit : FitsVerify words t). fit.image)))
    (λ image. looks_bind _ _ _ (looks_gives _ _ _)
    (λ digests. looks_bind _ _ _ (looks_each _ (checks_next words.store) digests tt
    (λ digest done. looks_told _ _ _ (looks_for_tree words.store digest _
    (λ t (fit : FitsVerify words t). fit.trees digest)))) (λ checked. looks_yields _ _))))
    (λ count. looks_gives _ _ _))

-- ---- check

looks_matched : {A : Type 0} (Fit : Tree → Type 0) (path : List ℕ) (proved found : A)
    → Looks Fit (matches path proved found)
unfolding matches
looks_matched Fit path proved found old new result h = unmoved Fit old new h.0

check_minds : (words : CheckWords) → Minds (FitsCheck words) (checks words)
unfolding checks proves reads_ordered follows compares compares_group compares_plan reads_group
check_minds words =
    minds_looks _ _
    (looks_bind _ _ _
    (looks_bind _ _ _
    (looks_bind _ _ _ (looks_told _ _ _ (looks_reads _ _ _ _ _ (λ t (fit : FitsCheck words t). fit.order)))
    (λ order. looks_bind _ _ _ (looks_told _ _ _ (looks_reads _ _ _ _ _
    (λ t (fit : FitsCheck words t). fit.buildpacks)))
    (λ catalog. looks_bind _ _ _ (looks_told _ _ _ (looks_gives _ _ _)) (λ groups. looks_yields _ _))))
    (λ ordered. looks_bind _ _ _ (looks_told _ _ _
    (looks_reads _ _ _ _ _ (λ t (fit : FitsCheck words t). fit.record_file)))
    (λ bytes. looks_told _ _ _ (looks_gives _ _ _))))
    (λ proved. looks_bind _ _ _
    (looks_bind _ _ _ (looks_bind _ _ _ (looks_told _ _ _
    (looks_reads _ _ _ _ _ (λ t (fit : FitsCheck words t). fit.group)))
    (λ group. looks_bind _ _ _ (looks_gives _ _ _) (λ known. looks_yields _ _)))
    (λ group. looks_matched _ _ _ _))
    (λ group. looks_bind _ _ _ (looks_bind _ _ _ (looks_told _ _ _
    (looks_reads _ _ _ _ _ (λ t (fit : FitsCheck words t). fit.plan))) (λ plan. looks_matched _ _ _ _))
    (λ plan. looks_gives _ _ _))))

-- ---- prune

ok_is : {A E : Type 0} (a b : A) → (let r : Result A E = Ok a in r) ≡ Ok b → a ≡ b
ok_is a b h = cc

counts_removal : {E : Type 0} (cause : E → Cause) (path : List ℕ) → is_root path ≡ false → Counts (removes cause path)
unfolding removes
counts_removal cause path is old new result h = by result h
  where
    none : (o : Option Tree) (a b : ℕ) → MayMisuse (option_map (λ (t : Tree). not (is_root path)) o) a b → b ≡ a
    none None a b h = h
    none (Some t) a b h = subst (λ v. MayMisuse (Some (not v)) a b) is h

    by : (result : _) → removes cause path old result new → new.misused ≡ old.misused
    by (Ok done) h = none old.files old.misused new.misused h.1
    by (Err fault) h = none old.files old.misused new.misused h.2

looks_lists : (Fit : Tree → Type 0) (folder : List ℕ) → ((t : Tree) → Fit t → IsListed folder t)
    → Looks Fit (lists folder)
unfolding lists looks_for lists_where
looks_lists Fit folder so = reads_then Fit prune_cause _ _ (λ files. Ok (is_some (item_at files folder))) _
    (λ t fit. refl) by
  where
    by : (there : Bool) → Looks (λ t. Fit t × (◌≡◌ {A = Result Bool PruneFault} (Ok (is_some (item_at t folder)))
        (Ok there))) (lists_where folder there)
    by true = looks_reads _ prune_cause _ _ _ (λ t fit. so t fit.0 (ok_is (is_some (item_at t folder)) true fit.1))
    by false = looks_yields _ []

file_fits : (found : Option Item) → is_file found ≡ true → is_file_or_absent found ≡ true
file_fits found is = subst (λ v. (v || not (is_some found)) ≡ true) (sym is) refl

module _ {A : Type 0} (form : TableForm A) (digests : A → List (List ℕ)) (Fit : Tree → Type 0) where
  looks_document : (path : List ℕ) (named : List (List ℕ)) → Looks Fit (adds_document form digests path named)
  unfolding adds_document adds_where looks_for_file reads_names
  looks_document path named = reads_then Fit prune_cause _ _ (λ files. Ok (is_file (item_at files path))) _
      (λ t fit. refl) by
    where
      by : (there : Bool) → Looks (λ t. Fit t × (◌≡◌ {A = Result Bool PruneFault} (Ok (is_file (item_at t path)))
          (Ok there))) (adds_where form digests path named there)
      by true = looks_bind _ _ _ (looks_reads _ prune_cause _ _ _
          (λ t fit. file_fits (item_at t path) (ok_is (is_file (item_at t path)) true fit.1)))
          (λ more. looks_gives _ _ _)
      by false = looks_yields _ named

  looks_name : (folder name : List ℕ) (named : List (List ℕ)) → Looks Fit (adds_name form digests folder name named)
  unfolding adds_name adds_if
  looks_name folder name named = by (is_document_name name)
    where
      by : (is : Bool) → Looks Fit (adds_if form digests (joined folder name) named is)
      by true = looks_document (joined folder name) named
      by false = looks_yields Fit named

  looks_folder : (folder : List ℕ) (named : List (List ℕ)) → ((t : Tree) → Fit t → IsListed folder t)
      → Looks Fit (adds_folder form digests folder named)
  unfolding adds_folder
  looks_folder folder named so = looks_bind Fit _ _ (looks_lists Fit folder so)
      (λ names. looks_each Fit (adds_name form digests folder) names named
      (λ name before. looks_name folder name before))

looks_digest : (Fit : Tree → Type 0) (store : List ℕ) (digest : Option (List ℕ)) (trees : List (List ℕ))
    → Looks Fit (adds_digest store digest trees)
unfolding adds_digest looks_for_file
looks_digest Fit store None trees = looks_yields Fit trees
looks_digest Fit store (Some digest) trees = looks_bind Fit _ _ (looks_reads Fit prune_cause _ _ _ (λ t fit. refl))
    (λ there. looks_gives Fit prune_cause _)

looks_survey : (words : PruneWords) → Looks (FitsPrune words) (surveys words.store)
unfolding surveys reads_named reads_trees adds_tree
looks_survey words =
    let Fit : Tree → Type 0 = FitsPrune words in
    looks_bind Fit _ _
    (looks_bind Fit _ _ (looks_folder image_table_in digests_of_image Fit (images_folder words.store) []
    (λ t fit. fit.images)) (λ named. looks_folder table_in digests_of_run Fit (runs_folder words.store) named
    (λ t fit. fit.runs)))
    (λ named. looks_bind Fit _ _
    (looks_bind Fit _ _ (looks_lists Fit (trees_of words.store) (λ t fit. fit.trees))
    (λ names. looks_each Fit (adds_tree words.store) names []
    (λ name before. looks_digest Fit words.store (tree_digest name) before)))
    (λ trees. looks_gives Fit prune_cause _))

removal_counts : (store : List ℕ) (digests : List (List ℕ))
    → Counts (for_each removes_next (map (tree_path store) digests) tt)
unfolding for_each yields
removal_counts store [] old new (Ok value) h = ap (λ (s : Seen). s.misused) h.1
removal_counts store [] old new (Err fault) h = absurd h
removal_counts store (digest ∷ digests) old new result h =
    counts_bind (removes prune_cause (tree_path store digest))
    (for_each removes_next (map (tree_path store) digests))
    (counts_removal prune_cause (tree_path store digest)
    (not_root (tree_path store digest) (omega (arith, trees_long store, tree_longer store digest))))
    (λ done. removal_counts store digests) old new result h

removing_counts : (store : List ℕ) (digests : List (List ℕ)) → Counts (removes_trees store digests)
unfolding removes_trees removes_all ◌>>=◌ gives
removing_counts store digests old new (Ok value) (paths, mid, given, gone) =
    subst (λ (ps : List (List ℕ)). for_each removes_next ps tt mid (Ok value) new → new.misused ≡ old.misused)
    (ok_is (map (tree_path store) digests) paths given.1)
    (λ gone. removal_counts store digests mid new (Ok value) gone ∙ ap (λ (s : Seen). s.misused) given.0) gone
removing_counts store digests old new (Err fault) (inl given) = ap (λ (s : Seen). s.misused) given.0
removing_counts store digests old new (Err fault) (inr (paths, mid, given, gone)) =
    subst (λ (ps : List (List ℕ)). for_each removes_next ps tt mid (Err fault) new → new.misused ≡ old.misused)
    (ok_is (map (tree_path store) digests) paths given.1)
    (λ gone. removal_counts store digests mid new (Err fault) gone ∙ ap (λ (s : Seen). s.misused) given.0) gone

counts_yields : {E A : Type 0} (value : A) → Counts {E = E} {A = A} (yields value)
unfolding yields
counts_yields value old new (Ok told) h = ap (λ (s : Seen). s.misused) h.1
counts_yields value old new (Err fault) h = absurd h

counts_gives : {E A : Type 0} (cause : E → Cause) (want : Result A E) → Counts (gives cause want)
unfolding gives
counts_gives cause want old new result h = ap (λ (s : Seen). s.misused) h.0

prune_minds : (words : PruneWords) → Minds (FitsPrune words) (prunes_command words)
unfolding prunes_command
prune_minds words =
    minds_counts _ _ _ (minds_looks _ _ (looks_survey words))
    (λ pruned. counts_bind _ _ (counts_gives _ _)
    (λ text. counts_bind _ _ (removing_counts words.store pruned.removed) (λ gone. counts_yields _)))

-- ---- base

module _ (words : BaseWords) (path : IsTrue (is_short_path words.store)) (name : IsTrue (is_image_name words.run)) where
  runs_length : length (runs_folder words.store) ≤ length (trees_of words.store)
  runs_length = by (bytes_eq words.store (47 ∷ []))
    where
      by : (root : Bool) → length ((if root then words.store else words.store ++ 47 ∷ []) ++ codes "runs")
          ≤ length ((if root then words.store else words.store ++ 47 ∷ []) ++ codes "trees")
      by true = omega (arith, length-append words.store (codes "runs"), length-append words.store (codes "trees"))
      by false = omega (
        arith,
        length-append (words.store ++ 47 ∷ []) (codes "runs"),
        length-append
            (words.store ++ 47 ∷ []) (codes "trees"),
      )

  trees_length : length (trees_of words.store) ≤ length (runs_folder words.store) + 1
  trees_length = by (bytes_eq words.store (47 ∷ []))
    where
      by : (root : Bool) → length ((if root then words.store else words.store ++ 47 ∷ []) ++ codes "trees")
          ≤ length ((if root then words.store else words.store ++ 47 ∷ []) ++ codes "runs") + 1
      by true = omega (arith, length-append words.store (codes "runs"), length-append words.store (codes "trees"))
      by false = omega (
        arith,
        length-append (words.store ++ 47 ∷ []) (codes "runs"),
        length-append
            (words.store ++ 47 ∷ []) (codes "trees"),
      )

  document_longer : length (trees_of words.store) < length (run_path words.store words.run)
  document_longer = omega (
    arith,
    trees_length,
    child_longer (runs_folder words.store)
        (document_name words.run),
    document_length words.run,
  )

  parent_is : parent_of (run_path words.store words.run) ≡ runs_folder words.store
  parent_is =
      let short = and_parts (nat_le (length words.store) 4096) (is_path words.store) path in
      let few : length words.store ≤ 4096 = leb-true (length words.store) 4096 short.0 in
      let part = image_name_fits words.run name in
      parent_of_file (runs_folder words.store) (document_name words.run)
      (file_is_path words.store (codes "runs") short.1 refl
      (omega (arith, few, joined_within words.store (codes "runs"))))
      (document_name_is_part words.run part.part (omega (arith, part.short)))

  put_fits : (tree : Node) (t : Tree) → FitsBase words t → FitsBase words (folder_put words.store tree t)
  put_fits tree t fit = record {
    begun = begin_kept words.store (spelling_of tree) t fit.begun;
    trees = λ digest. file_kept words.store (spelling_of tree) t (tree_path words.store digest)
        (tree_longer words.store digest) (fit.trees digest);
    written = write_kept words.store (spelling_of tree) t (run_path words.store words.run) document_longer
        (subst (λ p. length p ≤ length (trees_of words.store)) (sym parent_is) runs_length) fit.written;
  }

  may_put : (folder : List ℕ) (t : Tree) → FitsBase words t → can_put_folder words.store folder t ≡ true
  may_put folder t fit = and_from _ _ fit.begun (named (tree_in folder t))
    where
      named : (read : Result Node StoreFault) → can_name words.store read t ≡ true
      named (Ok tree) = fit.trees (sha256 (spelling_of tree))
      named (Err fault) = refl

  passes_put : (o o1 : Option Tree) (tree : Node) → o1 ≡ option_map (folder_put words.store tree) o
      → Passes (FitsBase words) o o1
  passes_put None o1 tree is = tt
  passes_put (Some t) o1 tree is = λ fit. (folder_put words.store tree t, is, put_fits tree t fit)

  goes_put : (folder : List ℕ) → Goes (FitsBase words) (puts_folder words.store folder)
  unfolding puts_folder
  goes_put folder old new result h = (
    narrow (λ t. IsTrue (can_put_folder words.store folder t))
        (FitsBase words) old.files old.misused new.misused (may_put folder)
        (by_allows (can_put_folder words.store folder) old.files old.misused new.misused h.allows),
    kept result
        h.leaves,
  )
    where
      kept : (result : Result (List ℕ) StoreFault) → LeavesFolder words.store folder old result new
          → OnOk result (Passes (FitsBase words) old.files new.files)
      kept (Ok digest) (tree, is, told, files) = passes_put old.files new.files tree files
      kept (Err fault) leaves = tt

  base_minds : Minds (FitsBase words) (bases_command words)
  unfolding bases_command makes_base puts_folders puts_next writes_readable_run_image
  base_minds =
      let Fit : Tree → Type 0 = FitsBase words in
      minds_behind Fit _ _
      (goes_told Fit _ _
      (goes_bind Fit _ _
      (goes_each Fit (puts_next words.store) words.trees []
      (λ folder digests. goes_bind Fit _ _ (goes_put folder)
      (λ digest. goes_looks Fit _ (looks_gives Fit tree_cause _))))
      (λ rows. goes_looks Fit _ (looks_gives Fit tree_cause _))))
      (λ image. minds_bind Fit _ _ (looks_gives Fit base_cause _)
      (λ text. minds_yields Fit _ _ (minds_told Fit _ _ (minds_writes Fit _ _ _ (λ t fit. fit.written)))))

-- ---- launch

of_ok : {A E : Type 0} (result : Result A E) (value : A) (P : A → Type 0) → result ≡ Ok value → IfOk result P → P value
of_ok {A = A} {E = E} result value P is h = subst (λ (r : Result A E). IfOk r P) is h

module _ (words : LaunchWords) (env : List Variable) where
  abbrev Known : LaunchDoc → Tree → Type 0
  Known doc t = FitsLaunch words t × (launch_doc_under words.root t ≡ Ok doc)

  abbrev KnownSets : LaunchDoc → List (List (List ℕ)) → Tree → Type 0
  KnownSets doc sets t = Known doc t × (sets_in words.root doc.buildpacks t ≡ Ok sets)

  abbrev Layered : Option (List ℕ) → List (List (List ℕ)) → Tree → Type 0
  Layered kind sets t = IsTrue (are_fit_launch_sets kind t sets) × IsTrue (are_fit_execs kind sets t)

  launch_looks : Looks (FitsLaunch words) (prepares words.root words.call env)
  unfolding prepares prepares_of prepares_in
  launch_looks =
      told_then (FitsLaunch words) _ read_cause _ _ (launch_doc_under words.root) _ (λ t fit. fit.document)
      (λ doc. given_then (Known doc) launching.cause_of (chosen_in doc words.call) _
      (λ chosen is.
      let layered : (sets : List (List (List ℕ))) (t : Tree) → KnownSets doc sets t
      → Layered chosen.kind sets t = λ sets t fit. of_ok _ sets _ fit.1
      (of_ok _ chosen _ is (of_ok _ doc _ fit.0.1 fit.0.0.process)) in
      told_then (Known doc) _ read_cause _ _ (sets_in words.root doc.buildpacks) _
      (λ t (fit : Known doc t). of_ok _ doc _ fit.1 fit.0.layers)
      (λ sets. looks_bind (KnownSets doc sets) _ _ (looks_told _ _ _
      (looks_reads _ read_cause _ _ _ (λ t fit. (layered sets t fit).0)))
      (λ start. looks_bind (KnownSets doc sets) _ _
      (looks_told _ _ _ (looks_reads _ read_cause _ _ _ (λ t fit. (layered sets t fit).1)))
      (λ execs. looks_gives _ _ _)))))

  launch_minds : Minds (FitsLaunch words) (launches_command words env)
  unfolding launches_command launches plans
  launch_minds =
      minds_counts _ _ _
      (minds_counts _ _ _
      (minds_counts _ _ _ (minds_looks _ _ launch_looks)
      (λ prepared. counts_bind _ _ (counts_each (runs_execs prepared.workspace) prepared.execs prepared.env
      (λ folder before. counts_each (runs_exec prepared.workspace) folder before
      (λ path before. counts_exec prepared.workspace path before))) (λ ready. counts_yields _)))
      (λ plan. counts_child launching.cause_of _))
      (λ end. counts_yields _)

-- ---- each command

minds_asked : (asked : Asked) (env : List Variable) (old new : Surroundings) (result : Result Answer Refusal)
    → HasPaths asked → does asked env old result new → NoMisuseBy asked old.caches.shelves old.world new.world
unfolding over_caches over_outside over_world tells gives
minds_asked (Show options) env old new (Ok answer) paths
    ((value, is, h), spawners, caches) = show_minds options old.world new.world (Ok value) h
minds_asked (Show options) env old new (Err refusal) paths
    ((fault, is, h), spawners, caches) = show_minds options old.world new.world (Err fault) h
minds_asked (Analyze options) env old new (Ok answer) paths
    ((value, is, h), spawners, caches) = analyze_minds options old.world new.world (Ok value) h
minds_asked (Analyze options) env old new (Err refusal) paths
    ((fault, is, h), spawners, caches) = analyze_minds options old.world new.world (Err fault) h
minds_asked (Rebase options) env old new (Ok answer) paths
    ((value, is, h), spawners, caches) = rebase_minds options old.world new.world (Ok value) h
minds_asked (Rebase options) env old new (Err refusal) paths
    ((fault, is, h), spawners, caches) = rebase_minds options old.world new.world (Err fault) h
minds_asked (Verify options) env old new (Ok answer) paths
    ((value, is, h), spawners, caches) = verify_minds options old.world new.world (Ok value) h
minds_asked (Verify options) env old new (Err refusal) paths
    ((fault, is, h), spawners, caches) = verify_minds options old.world new.world (Err fault) h
minds_asked (Check options) env old new (Ok answer) paths
    ((value, is, h), spawners, caches) = check_minds options old.world new.world (Ok value) h
minds_asked (Check options) env old new (Err refusal) paths
    ((fault, is, h), spawners, caches) = check_minds options old.world new.world (Err fault) h
minds_asked (Launch options) env old new (Ok answer) paths
    ((value, is, h), spawners, caches) = launch_minds options env old.world new.world (Ok value) h
minds_asked (Launch options) env old new (Err refusal) paths
    ((fault, is, h), spawners, caches) = launch_minds options env old.world new.world (Err fault) h
minds_asked (Drill options) env old new result paths h = ap (λ (s : Surroundings). s.world.misused) h.0
minds_asked (Detect options) env old new (Ok answer) paths
    ((value, is, h), caches) = detect_minds options.proof_path options env _ _ (Ok value) paths refl h
minds_asked (Detect options) env old new (Err refusal) paths
    ((fault, is, h), caches) = detect_minds options.proof_path options env _ _ (Err fault) paths refl h
minds_asked (Restore options) env old new (Ok answer) paths
    ((value, is, h), spawners) = restore_minds options paths (caches_beside old) (caches_beside new) (Ok value) h
minds_asked (Restore options) env old new (Err refusal) paths
    ((fault, is, h), spawners) = restore_minds options paths (caches_beside old) (caches_beside new) (Err fault) h
minds_asked (Build options) env old new (Ok answer) paths
    ((value, is, h), spawners, caches) = build_minds options env old.world new.world (Ok value) h
minds_asked (Build options) env old new (Err refusal) paths
    ((fault, is, h), spawners, caches) = build_minds options env old.world new.world (Err fault) h
minds_asked (Export options) env old new (Ok answer) paths
    ((value, is, h), spawners) = export_minds options paths.0 paths.1 paths.2 (caches_beside old)
    (caches_beside new) (Ok value) h
minds_asked (Export options) env old new (Err refusal) paths
    ((fault, is, h), spawners) = export_minds options paths.0 paths.1 paths.2 (caches_beside old)
    (caches_beside new) (Err fault) h
minds_asked (Create options) env old new (Ok answer) paths (value, is, h) = create_minds options env old new
    (Ok value) h
minds_asked (Create options) env old new (Err refusal) paths (fault, is, h) = create_minds options env old new
    (Err fault) h
minds_asked (Base options) env old new (Ok answer) paths
    ((value, is, h), spawners, caches) = base_minds options paths.0 paths.1 old.world new.world (Ok value) h
minds_asked (Base options) env old new (Err refusal) paths
    ((fault, is, h), spawners, caches) = base_minds options paths.0 paths.1 old.world new.world (Err fault) h
minds_asked (Unpack options) env old new (Ok answer) paths
    ((value, is, h), spawners, caches) = unpack_minds options old.world new.world (Ok value) h
minds_asked (Unpack options) env old new (Err refusal) paths
    ((fault, is, h), spawners, caches) = unpack_minds options old.world new.world (Err fault) h
minds_asked (Prune options) env old new (Ok answer) paths
    ((value, is, h), spawners, caches) = prune_minds options old.world new.world (Ok value) h
minds_asked (Prune options) env old new (Err refusal) paths
    ((fault, is, h), spawners, caches) = prune_minds options old.world new.world (Err fault) h

-- nothing was done
idle_minds : (asked : Asked) (shelves : List ShelfState) (old : Seen) → NoMisuseBy asked shelves old old
idle_minds (Show options) shelves old = still _ old.files old.misused old.misused refl
idle_minds (Analyze options) shelves old = still _ old.files old.misused old.misused refl
idle_minds (Rebase options) shelves old = still _ old.files old.misused old.misused refl
idle_minds (Verify options) shelves old = still _ old.files old.misused old.misused refl
idle_minds (Check options) shelves old = still _ old.files old.misused old.misused refl
idle_minds (Launch options) shelves old = still _ old.files old.misused old.misused refl
idle_minds (Drill options) shelves old = refl
idle_minds (Detect options) shelves old = still _ old.files old.misused old.misused refl
idle_minds (Restore options) shelves old = still _ old.files old.misused old.misused refl
idle_minds (Build options) shelves old = build_idle options old
idle_minds (Export options) shelves old = still _ old.files old.misused old.misused refl
idle_minds (Create options) shelves old = create_idle options shelves old
idle_minds (Base options) shelves old = still _ old.files old.misused old.misused refl
idle_minds (Unpack options) shelves old = still _ old.files old.misused old.misused refl
idle_minds (Prune options) shelves old = still _ old.files old.misused old.misused refl

minds_behind_words : (asked : Asked) (env : List Variable) (result : Result Answer Refusal)
    (old new : Surroundings) → HasPaths asked → after_words (does asked env) old result new
    → NoMisuseBy asked old.caches.shelves old.world new.world
unfolding ◌>>=◌ gives
minds_behind_words asked env (Ok answer) old new paths (read, mid, given, did) = subst
    (λ (s : Surroundings). NoMisuseBy asked s.caches.shelves s.world new.world) given.0
    (minds_asked asked env mid new (Ok answer) paths did)
minds_behind_words asked env (Err refusal) old new paths (inl given) = subst
    (λ (s : Surroundings). NoMisuseBy asked old.caches.shelves old.world s.world) (sym given.0)
    (idle_minds asked old.caches.shelves old.world)
minds_behind_words asked env (Err refusal) old new paths (inr (read, mid, given, did)) = subst
    (λ (s : Surroundings). NoMisuseBy asked s.caches.shelves s.world new.world) given.0
    (minds_asked asked env mid new (Err refusal) paths did)

-- for every command
pub minds_paths : (o : Option Asked) (env : List Variable) (old : Surroundings) (outside : Outside)
    (shelves : List ShelfState) (status : Status) (taken_old taken_new : Option (List ℕ))
    → On o HasPaths → On o (λ asked. Ends (after_words (does asked env)) old outside shelves status taken_old
    taken_new) → On o (λ asked. NoMisuseBy asked old.caches.shelves old.world outside.world)
minds_paths None env old outside shelves status taken_old taken_new paths h = tt
minds_paths (Some asked) env old outside shelves status taken_old taken_new paths h =
    minds_behind_words asked env h.end old (surroundings outside (caches_of shelves h.standing)) paths h.did
