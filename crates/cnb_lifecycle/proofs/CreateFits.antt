-- Where the files and the caches fit `create`, it makes no call on a path of the wrong kind.
use Rattle.std.proofs.Common.{◌≡◌, ◌∙◌, refl, sym, ap, subst, arith, ℕ, ◌<◌, true}
use Rattle.std.proofs.Common.{◌&&◌, List, [], ◌∷◌, ◌++◌, append-nil, length, Option}
use Rattle.std.proofs.Common.{Some, None, Result, Ok, Err, inl, inr}
use Rattle.std.proofs.lemmas.Bool.{and_from, and_parts}
use Rattle.std.specs.Prelude.{IfOk, IfSome, IsTrue, nat_le}
use Rattle.std.specs.List.{AllByRecursion, list_all}
use Rattle.cnb_build.proofs.OutcomeLaws.{runs_builds}
use Rattle.cnb_build.specs.Builds.{builds}
use Rattle.cnb_build.specs.Outcome.{left_by}
use Rattle.cnb_build.specs.Refusals as building
use Rattle.cnb_build.specs.declared.fault.BuildFault.{BuildFault}
use Rattle.cnb_build.specs.declared.frame.BuildFrame.{BuildFrame}
use Rattle.cnb_create.proofs.ChoiceLaws.{chosen_keyed}
use Rattle.cnb_create.proofs.CreateLaws.{trees_apart}
use Rattle.cnb_create.proofs.ExportLaws.{keeps_exports}
use Rattle.cnb_create.proofs.RestoreLaws.{keeps_restores}
use Rattle.cnb_create.specs.Apart.{are_apart}
use Rattle.cnb_create.specs.Creates.{build_frame, builds_group, chooses_group, creates, export_frame, exports_image}
use Rattle.cnb_create.specs.Creates.{leaves_image, looks_at_images, phases_of}
use Rattle.cnb_create.specs.Refusals as creating
use Rattle.cnb_create.specs.Surroundings.{Surroundings, caches_beside, outside_of, over_caches, over_outside}
use Rattle.cnb_create.specs.Surroundings.{over_world}
use Rattle.cnb_create.specs.declared.refusal.CreateRefusal.{CreateRefusal}
use Rattle.cnb_create.specs.declared.refusal.CreateRefusal.TheVariants.{Build, Detect, Export, Restore}
use Rattle.cnb_detect.proofs.DetectLaws.{prepares_reads}
use Rattle.cnb_detect.specs.Choice.{Choice}
use Rattle.cnb_detect.specs.Detects.{chooses}
use Rattle.cnb_detect.specs.Documents.{group_document, plan_document, writes_choice}
use Rattle.cnb_detect.specs.Preparation.{is_fit_preparation, prepares}
use Rattle.cnb_detect.specs.Refusals as detecting
use Rattle.cnb_layers.specs.declared.fault.ExportFault.TheVariants.{Store}
use Rattle.cnb_detect.specs.declared.target.TargetSource.TheVariants.{Given}
use Rattle.cnb_env.specs.Files.{is_fit_platform, is_folder_or_absent}
use Rattle.cnb_env.specs.declared.files.EnvFile.{EnvFile}
use Rattle.cnb_export.specs.Exports.{exports}
use Rattle.cnb_layers.specs.Refusals as exporting
use Rattle.cnb_layers.specs.Refusals.{of_image_fault}
use Rattle.cnb_restore.specs.Analyzes.{analyzes}
use Rattle.cnb_restore.specs.Faults.{cause_of}
use Rattle.cnb_restore.specs.Restores.{restores}
use Rattle.cnb_restore.specs.declared.fault.RestoreFault.{RestoreFault}
use Rattle.cnb_restore.specs.declared.restored.Restored.{Restored}
use Rattle.cnb_toml.specs.Keys.{is_key}
use Rattle.cnb_toml.specs.Names.{is_bp_id, is_bp_version}
use Rattle.cnb_toml.specs.declared.names.Key.{Key}
use Rattle.cnb_toml.specs.declared.target.Target.{Target}
use Rattle.cnb_words.specs.declared.create.CreateWords.{CreateWords}
use Rattle.cnb_world.specs.Path.{beside, is_path, parent_of}
use Rattle.cnb_world.specs.Runs.{Run}
use Rattle.cnb_world.specs.Tree.{Tree, can_make_folder, is_file_or_absent}
use Rattle.cnb_world.specs.Tree.{item_at}
use Rattle.cnb_world.specs.Whole.{can_write, written}
use Rattle.cnb_world.specs.declared.env.Variable.{Variable}
use Rattle.image_docs.specs.declared.analyzed.Analyzed.{Analyzed}
use Rattle.image_files.specs.Images.{writes_readable_image}
use Rattle.image_files.specs.Paths.{image_path}
use Rattle.image_files.specs.Target.{target_of}
use Rattle.layer_paths.specs.Paths.{layers_folder}
use Rattle.run_docs.specs.Group.{is_row}
use Rattle.run_docs.specs.declared.group.GroupRow.{GroupRow}
use Rattle.run_docs.specs.declared.plan.PlanEntry.{PlanEntry}
use Rattle.shelf_set.specs.Caches.{Caches, WorldAndCaches, in_world}
use Rattle.shelf_set.specs.ShelfState.{ShelfState}
use Rattle.steps.specs.Causes.{Cause}
use Rattle.steps.specs.Each.{for_each}
use Rattle.steps.specs.Keeping.{Spares, standing}
use Rattle.steps.specs.Outside.{Outside, Seen, SpawnerSeen}
use Rattle.steps.specs.Steps as steps
use Rattle.steps.specs.Steps.{◌>>=◌, gives, in_spawners, map_err, yields}
use Rattle.cnb_lifecycle.specs.Fitting.{ArePlacesApart, FitsCreate, FitsFirst, FitsImage, FitsLeft, FitsRestore}
use Rattle.cnb_lifecycle.specs.Fitting.{LeaveFit, LeaveTold, NoMisuse, restore_words, with_analyzed}
use Rattle.cnb_lifecycle.specs.Fitting.{with_group, with_plan}
use Rattle.cnb_lifecycle.proofs.BuildFits.{builds_first}
use Rattle.cnb_lifecycle.proofs.ExportFits.{CachedGoes, CachedMinds, cached_behind, cached_bind, cached_stores}
use Rattle.cnb_lifecycle.proofs.ExportFits.{cached_gives, cached_last, cached_told, cached_world, cached_yields}
use Rattle.cnb_lifecycle.proofs.ExportFits.{goes_gains}
use Rattle.cnb_lifecycle.proofs.FitPasses.{Passes}
use Rattle.cnb_lifecycle.proofs.FitSteps.{minds_told, minds_writes}
use Rattle.cnb_lifecycle.proofs.LeadingSteps.{Brings, beside_caches}
use Rattle.cnb_lifecycle.proofs.ReadNames.{HasId}
use Rattle.cnb_lifecycle.proofs.LeadingSteps.{itself}
use Rattle.cnb_lifecycle.proofs.RestoreFits.{restores_leads}
use Rattle.cnb_lifecycle.proofs.ServeLaws.{no_runs}
use Rattle.cnb_lifecycle.proofs.CreateRestores.{Folders, Stays, beside_plan_apart, borne_group, borne_none}
use Rattle.cnb_lifecycle.proofs.CreateRestores.{borne_restores, descriptor_apart, folder, folders_of, folders_stay}
use Rattle.cnb_lifecycle.proofs.CreateRestores.{made_of, plan_apart, plan_of, plans_outside}
use Rattle.cnb_lifecycle.proofs.ToldSteps.{Came, Comes, Ends, IsTold, any_came, came_looks, came_same, comes_bind}
use Rattle.cnb_lifecycle.proofs.ToldSteps.{comes_gives, comes_reads, comes_told, comes_writes, comes_yields, ends_bind}
use Rattle.cnb_lifecycle.proofs.ToldSteps.{runs_on}

record IsAnalyzed (words : CreateWords) (shelves : List ShelfState) (t : Tree) : Type 0 where
  start : Tree
  analyzed : List ℕ
  fit : FitsCreate words shelves start
  is : t ≡ with_analyzed words.detect.work analyzed start

record IsGrouped (words : CreateWords) (shelves : List ShelfState) (t : Tree) : Type 0 where
  start : Tree
  analyzed : List ℕ
  group : List ℕ
  fit : FitsCreate words shelves start
  is : t ≡ with_group words.detect.work analyzed group start

record IsPlanned (words : CreateWords) (shelves : List ShelfState) (t : Tree) : Type 0 where
  start : Tree
  analyzed : List ℕ
  group : List ℕ
  plan : List ℕ
  fit : FitsCreate words shelves start
  is : t ≡ with_plan words.detect.work analyzed group plan start

abbrev any : {A : Type 0} → A → Type 0
any a = Unit {0}

module _ (words : CreateWords) where
  abbrev pub Left : Tree → Type 0
  Left = FitsLeft words

  images_come : (shelves : List ShelfState) → Comes Left itself (λ s. FitsCreate words shelves) any
      (λ a s. IsAnalyzed words shelves) (looks_at_images words)
  unfolding looks_at_images analyzes
  images_come shelves =
      let Start : Tree → Type 0 = FitsCreate words shelves in
      let Behind : Tree → Type 0 = IsAnalyzed words shelves in
      comes_bind Left itself (λ s. Start) any (λ a s. Start) any (λ a s. Behind) _ _
      (comes_bind Left itself (λ s. Start) any (λ a s. Start) any (λ a s. Start) _ _
      (comes_reads Left Start cause_of _ _ _ (λ t (fit : FitsCreate words shelves t). fit.run))
      (λ image good. comes_bind Left itself (λ s. Start) any (λ a s. Start) any (λ a s. Start) _ _
      (comes_reads Left Start cause_of _ _ _ (λ t (fit : FitsCreate words shelves t). fit.previous))
      (λ known good old new result h. let one = comes_gives Left itself Start cause_of _ old new result h
      in any_came Left Start old new result one)))
      (λ analyzed good. comes_bind Left itself (λ s. Start) any (λ a s. Behind) any (λ a s. Behind) _ _
      (comes_writes Left Start Behind cause_of _ _ (λ t (fit : FitsCreate words shelves t). fit.written)
      (λ bytes t fit. record { start = t; analyzed = bytes; fit = fit; is = refl }))
      (λ done good. comes_yields Left itself Behind analyzed))

  prepares_come : (shelves : List ShelfState) (known : Target) (env : List Variable)
      → Comes Left itself (λ s. IsAnalyzed words shelves) any (λ a s. IsAnalyzed words shelves)
      (prepares (Given known) words.detect env)
  prepares_come shelves known env old new result h =
      let read = prepares_reads (Given known) words.detect env old new result h in
      came_looks Left (IsAnalyzed words shelves) (is_fit_preparation (Given known) words.detect) old new result
      (λ t (fit : IsAnalyzed words shelves t). subst
      (λ t. IsTrue (is_fit_preparation (Given known) words.detect t)) (sym fit.is)
      (fit.fit.choice known fit.analyzed)) read.same.runs read.same.files read.allows

  writes_come : (shelves : List ShelfState) (choice : Choice)
      → Comes Left itself (λ s. IsAnalyzed words shelves) any (λ a s. IsPlanned words shelves)
      (writes_choice words.detect.work choice)
  unfolding writes_choice
  writes_come shelves choice =
      let First : Tree → Type 0 = IsAnalyzed words shelves in
      let Second : Tree → Type 0 = IsGrouped words shelves in
      let Third : Tree → Type 0 = IsPlanned words shelves in
      comes_bind Left itself (λ s. First) any (λ a s. Second) any (λ a s. Third) _ _
      (comes_writes Left First Second detecting.cause_of (group_document words.detect.work) _
      (λ t (fit : IsAnalyzed words shelves t). subst
      (λ t. IsTrue (can_write (group_document words.detect.work) t)) (sym fit.is)
      (fit.fit.group fit.analyzed))
      (λ bytes t (fit : IsAnalyzed words shelves t). record {
        start = fit.start;
        analyzed = fit.analyzed;
        group = bytes;
        fit = fit.fit;
        is = ap
            (written (group_document words.detect.work) bytes) fit.is;
      }))
      (λ group good. comes_bind Left itself (λ s. Second) any (λ a s. Third) any (λ a s. Third) _ _
      (comes_writes Left Second Third detecting.cause_of (plan_document words.detect.work) _
      (λ t (fit : IsGrouped words shelves t). subst (λ t. IsTrue (can_write (plan_document words.detect.work) t))
      (sym fit.is) (fit.fit.plan fit.analyzed fit.group))
      (λ bytes t (fit : IsGrouped words shelves t). record {
        start = fit.start;
        analyzed = fit.analyzed;
        group = fit.group;
        plan = bytes;
        fit = fit.fit;
        is = ap
            (written (plan_document words.detect.work) bytes) fit.is;
      }))
      (λ plan good. comes_yields Left itself Third tt))

  abbrev of_outside : Outside → Seen
  of_outside s = s.world

  comes_in_world : {E A : Type 0} (P : Tree → Type 0) (Good : A → Type 0) (Q : A → Tree → Type 0)
      (step : Seen → Result A E → Seen → Type 0) → Comes Left itself (λ s. P) Good (λ a s. Q a) step
      → Comes Left of_outside (λ s. P) Good (λ a s. Q a) (steps.in_world step)
  unfolding steps.in_world
  comes_in_world P Good Q step p old new result h = p old.world new.world result h.0

  any_good : {E A : Type 0} (result : Result A E) → IfOk result (λ (a : A). Unit {0})
  any_good (Ok a) = tt
  any_good (Err fault) = tt

  comes_in_spawners : {E A : Type 0} (P : Tree → Type 0)
      (step : List SpawnerSeen → Result A E → List SpawnerSeen → Type 0)
      → Comes Left of_outside (λ s. P) any (λ a s. P) (in_spawners step)
  unfolding in_spawners
  comes_in_spawners P step old new result h = came_same Left of_outside P any old new result (any_good result) h.1

  choice_comes : (shelves : List ShelfState) (known : Target) (env : List Variable)
      → Comes Left of_outside (λ s. IsAnalyzed words shelves) any (λ a s. IsPlanned words shelves)
      (chooses_group known words.detect env)
  unfolding chooses_group chooses
  choice_comes shelves known env =
      let First : Tree → Type 0 = IsAnalyzed words shelves in
      let Third : Tree → Type 0 = IsPlanned words shelves in
      comes_bind Left of_outside (λ s. First) any (λ a s. First) any (λ a s. Third) _ _
      (comes_bind Left of_outside (λ s. First) any (λ a s. First) any (λ a s. First) _ _
      (comes_in_world First any (λ a. First) _ (prepares_come shelves known env))
      (λ prepared good. comes_in_spawners First _))
      (λ choice good. comes_bind Left of_outside (λ s. First) any (λ a s. Third) any (λ a s. Third) _ _
      (comes_in_world First any (λ a. Third) _ (writes_come shelves choice))
      (λ done good. comes_yields Left of_outside Third choice))

  abbrev IsKeyed : Choice → Type 0
  IsKeyed choice = list_all is_row choice.group ≡ true

  keyed_comes : (shelves : List ShelfState) (known : Target) (env : List Variable)
      → Comes Left of_outside (λ s. IsAnalyzed words shelves) IsKeyed (λ a s. IsPlanned words shelves)
      (chooses_group known words.detect env)
  keyed_comes shelves known env old new (Ok choice) h =
      let one = choice_comes shelves known env old new (Ok choice) h in
      record {
        rows = one.rows;
        runs = one.runs;
        good = chosen_keyed known words.detect env old new choice h;
        minds = one.minds;
      }
  keyed_comes shelves known env old new (Err fault) h =
      let one = choice_comes shelves known env old new (Err fault) h in
      record { rows = one.rows; runs = one.runs; good = tt; minds = one.minds }

  -- ---- the restoration

  -- what the group's first build needs, or the export where no build is behind
  abbrev IsNext : List GroupRow → Tree → Type 0
  IsNext [] t = FitsImage words.store words.layers words.image t
  IsNext (row ∷ rows) t = FitsFirst words.detect.buildpacks words.detect.work words.layers row.key t

  -- what is known of the files behind a restoration
  record After (group : List GroupRow) (t : Tree) : Type 0 where
    places : ArePlacesApart words
    platform : IsTrue (is_fit_platform words.detect.platform t)
    next : IsNext group t

  ids_of : (group : List GroupRow) → list_all is_row group ≡ true → AllByRecursion HasId group
  ids_of [] h = tt
  ids_of (row ∷ rows) h = let parts = and_parts (is_row row) (list_all is_row rows) h
      in ((and_parts (is_bp_id row.key.id) (is_bp_version row.key.version) parts.0).0, ids_of rows parts.1)

  no_misuse_at : (F : Tree → Type 0) (o : Option Tree) (t : Tree) (a b : ℕ) → o ≡ Some t → F t
      → IfSome o (λ t. F t → b ≡ a) → b ≡ a
  no_misuse_at F o t a b is fit h = let at : IfSome (Some t) (λ t. F t → b ≡ a) = subst
      (λ o. IfSome o (λ t. F t → b ≡ a)) is h in at fit

  brought_at : (K : Tree → Type 0) (o o1 : Option Tree) (t : Tree) → o ≡ Some t → K t → Brings K K o o1 → IsTold K o1
  brought_at K o o1 t is fit h = let at : Brings K K (Some t) o1 = subst (λ o. Brings K K o o1) is h
      in let (u, same, k) = at fit in record { tree = u; is = same; fit = k }

  some_is : {A : Type 0} (a b : A) → Some a ≡ Some b → a ≡ b
  some_is a b h = cc

  item_same : (o o1 : Option Tree) (t u : Tree) (d : List ℕ) → o ≡ Some t → o1 ≡ Some u
      → standing o1 d ≡ standing o d → item_at u d ≡ item_at t d
  item_same o o1 t u d is at h = some_is (item_at u d) (item_at t d)
      (sym (ap (λ o. standing o d) at) ∙ h ∙ ap (λ o. standing o d) is)

  rest_same : {X : Type 0} (xs ys zs : List X) → xs ++ ys ≡ xs ++ zs → ys ≡ zs
  rest_same [] ys zs h = h
  rest_same (x ∷ xs) ys zs h = rest_same xs ys zs (cc)

  some_length : (path : List ℕ) → is_path path ≡ true → 0 < length path
  some_length [] h = absurd (cc)
  some_length (c ∷ cs) h = omega arith

  module _ (places : ArePlacesApart words) where
    layers_path : is_path words.layers ≡ true
    layers_path = (and_parts (nat_le (length words.layers) 4096) (is_path words.layers) places.layers).1

    -- a path that is apart from the layers
    stands_at : (d : List ℕ) → are_apart words.layers d ≡ true
        → (name : Option (List ℕ)) (group : List GroupRow) (old new : WorldAndCaches)
        (result : Result Restored RestoreFault) → restores words.store name group words.layers old result new
        → new.world.runs ≡ old.world.runs → standing new.world.files d ≡ standing old.world.files d
    stands_at d apart name group old new result h runs =
        let keeps = keeps_restores words.layers d apart (some_length words.layers layers_path) words.store name
        group old new result h in
        let none : keeps.rows ≡ [] = rest_same old.world.runs keeps.rows []
        (sym keeps.runs ∙ runs ∙ sym (append-nil old.world.runs)) in
        keeps.stands (subst (AllByRecursion (Spares d)) (sym none) tt)

    folders_at : (t : Tree) → ((key : Key) → IsTrue (is_key key)
        → FitsFirst words.detect.buildpacks words.detect.work words.layers key t) → Folders words places t
    folders_at t first =
        folders_of words places t
        (λ key valid. (and_parts (is_file_or_absent (item_at t (plan_of words places key))
        && is_file_or_absent (item_at t (beside (plan_of words places key))))
        (can_make_folder t (parent_of (plan_of words places key))) (first key valid).plan).1)
        (λ key valid. (first key valid).folder)

    first_at : (t u : Tree) (key : Key) → IsTrue (is_key key)
        → FitsFirst words.detect.buildpacks words.detect.work words.layers key t → Folders words places u
        → ((d : List ℕ) → are_apart words.layers d ≡ true → item_at u d ≡ item_at t d)
        → FitsFirst words.detect.buildpacks words.detect.work words.layers key u
    first_at t u key valid first folders same =
        let plan = plan_of words places key in
        let outer = and_parts (is_file_or_absent (item_at t plan) && is_file_or_absent (item_at t (beside plan)))
        (can_make_folder t (parent_of plan)) first.plan in
        let both = and_parts (is_file_or_absent (item_at t plan))
        (is_file_or_absent (item_at t (beside plan))) outer.0 in
        record {
          descriptor = ap is_file_or_absent (same _ (descriptor_apart words places key)) ∙ first.descriptor;
          folder = made_of words places u (layers_folder words.layers key.id) (inr (key, valid, refl)) folders;
          plan = and_from _ _ (and_from _ _ (ap is_file_or_absent (same plan (plan_apart words places key))
              ∙ both.0) (ap is_file_or_absent (same (beside plan) (beside_plan_apart words places key)) ∙ both.1))
              (made_of words places u (parent_of plan) (inl (key, valid, refl)) folders);
        }

  planned_restore : (shelves : List ShelfState) (t : Tree) → IsPlanned words shelves t
      → FitsRestore (restore_words words) shelves t
  planned_restore shelves t fit = subst (FitsRestore (restore_words words) shelves) (sym fit.is)
      (fit.fit.restored fit.analyzed fit.group fit.plan)

  planned_platform : (shelves : List ShelfState) (t : Tree) → IsPlanned words shelves t
      → is_fit_platform words.detect.platform t ≡ true
  planned_platform shelves t fit = subst (λ t. is_fit_platform words.detect.platform t ≡ true) (sym fit.is)
      (fit.fit.platform fit.analyzed fit.group fit.plan)

  planned_image : (shelves : List ShelfState) (t : Tree) → IsPlanned words shelves t
      → FitsImage words.store words.layers words.image t
  planned_image shelves t fit = subst (FitsImage words.store words.layers words.image) (sym fit.is)
      (fit.fit.exported fit.analyzed fit.group fit.plan)

  planned_first : (shelves : List ShelfState) (t : Tree) → IsPlanned words shelves t → (key : Key)
      → IsTrue (is_key key) → FitsFirst words.detect.buildpacks words.detect.work words.layers key t
  planned_first shelves t fit key valid = subst
      (FitsFirst words.detect.buildpacks words.detect.work words.layers key) (sym fit.is)
      (fit.fit.first fit.analyzed fit.group fit.plan key valid)

  restores_leads_at : (name : Option (List ℕ)) (group : List GroupRow) → list_all is_row group ≡ true
      → (old new : WorldAndCaches) (result : Result Restored RestoreFault)
      → restores words.store name group words.layers old result new
      → (t : Tree) → old.world.files ≡ Some t → IsPlanned words old.caches.shelves t
      → new.world.misused ≡ old.world.misused
  restores_leads_at name group keys old new result h t is fit =
      no_misuse_at (FitsRestore (restore_words words) old.caches.shelves) old.world.files t old.world.misused
      new.world.misused is (planned_restore old.caches.shelves t fit)
      (restores_leads (restore_words words) fit.fit.places.layers name group (ids_of group keys) old new result h).0

  restores_come : (name : Option (List ℕ)) (group : List GroupRow) → list_all is_row group ≡ true
      → Comes Left beside_caches (λ s. IsPlanned words s.caches.shelves) any (λ a s. After group)
      (restores words.store name group words.layers)
  restores_come name [] keys old new (Ok restored) h =
      let K : Tree → Type 0 = IsPlanned words old.caches.shelves in
      let borne = borne_restores words.layers K words.store name [] (borne_none words.layers K) old new
      (Ok restored) h in
      record {
        rows = [];
        runs = no_runs Left old.world new.world borne.0;
        good = tt;
        minds = λ t is fit left. (
          restores_leads_at name [] keys old new (Ok restored) h t is fit,
          (let told = brought_at K old.world.files new.world.files t is fit borne.1 in
              record {
                tree = told.tree;
                is = told.is;
                fit = record {
                  places = told.fit.fit.places;
                  platform = planned_platform old.caches.shelves told.tree
                      told.fit;
                  next = planned_image old.caches.shelves told.tree told.fit;
                };
              }),
        );
      }
  restores_come name [] keys old new (Err fault) h =
      let K : Tree → Type 0 = IsPlanned words old.caches.shelves in
      let borne = borne_restores words.layers K words.store name [] (borne_none words.layers K) old new (Err fault) h in
      record {
        rows = [];
        runs = no_runs Left old.world new.world borne.0;
        good = tt;
        minds = λ t is fit left.
            (restores_leads_at name [] keys old new (Err fault) h t is fit, tt);
      }
  restores_come name (row ∷ rows) keys old new (Ok restored) h =
      let nothing : Stays words.layers (λ t. Unit {0}) = record {
        gone = λ id t k. tt;
        made = λ id t k. tt;
        wrote = λ id name bytes t k. tt;
        laid = λ id name t after k
            around. tt;
      } in
      let still = borne_restores words.layers (λ t. Unit {0}) words.store name (row ∷ rows)
      (borne_group words.layers (λ t. Unit {0}) nothing (row ∷ rows)) old new (Ok restored) h in
      let valid = (and_parts (is_row row) (list_all is_row rows) keys).0 in
      record {
        rows = [];
        runs = no_runs Left old.world new.world still.0;
        good = tt;
        minds = λ t is fit left. (
          restores_leads_at name (row ∷ rows) keys old new (Ok restored) h t is fit,
          (let places : ArePlacesApart words = fit.fit.places in
              let first = planned_first old.caches.shelves t fit in
              let borne = borne_restores words.layers (Folders words places) words.store name (row ∷ rows)
              (borne_group words.layers (Folders words places) (folders_stay words places) (row ∷ rows)) old
              new (Ok restored) h in
              let told = brought_at (Folders words places) old.world.files new.world.files t is
              (folders_at places t first) borne.1 in
              let same : (d : List ℕ) → are_apart words.layers d ≡ true
              → item_at told.tree d ≡ item_at t d = λ d apart. item_same old.world.files new.world.files t
              told.tree d is told.is (stands_at places d apart name (row ∷ rows) old new
              (Ok restored) h still.0) in
              record {
                tree = told.tree;
                is = told.is;
                fit = record {
                  places = places;
                  platform = ap is_folder_or_absent (same _ places.platform)
                      ∙ planned_platform old.caches.shelves t fit;
                  next = first_at places t told.tree row.key valid
                      (first row.key valid) told.fit same;
                };
              }),
        );
      }
  restores_come name (row ∷ rows) keys old new (Err fault) h =
      let nothing : Stays words.layers (λ t. Unit {0}) = record {
        gone = λ id t k. tt;
        made = λ id t k. tt;
        wrote = λ id name bytes t k. tt;
        laid = λ id name t after k
            around. tt;
      } in
      let still = borne_restores words.layers (λ t. Unit {0}) words.store name (row ∷ rows)
      (borne_group words.layers (λ t. Unit {0}) nothing (row ∷ rows)) old new (Err fault) h in
      record {
        rows = [];
        runs = no_runs Left old.world new.world still.0;
        good = tt;
        minds = λ t is fit left.
            (restores_leads_at name (row ∷ rows) keys old new (Err fault) h t is fit, tt);
      }

  -- ---- the builds

  abbrev IsImage : Tree → Type 0
  IsImage = FitsImage words.store words.layers words.image

  abbrev CanExport : Tree → Type 0
  CanExport t = ArePlacesApart words × IsImage t

  ok_is : {A E : Type 0} (a b : A) → (let r : Result A E = Ok a in r) ≡ Ok b → a ≡ b
  ok_is a b h = cc

  last_told : (o : Option Tree) (rows : List Run) → LeaveTold Left rows → 0 < length rows → IsTold Left (left_by o rows)
  last_told o [] left some = absurd (omega (arith, some))
  last_told o (run ∷ []) (one, rest) some = record { tree = one.0; is = one.1; fit = one.2 }
  last_told o (run ∷ more ∷ rows) (one, rest) some = last_told run.left (more ∷ rows) rest (omega arith)

  leave_of : (rows : List Run) → LeaveTold Left rows → LeaveFit Left rows
  leave_of [] left = tt
  leave_of (run ∷ rows) ((files, is, fit), rest) = (subst (λ o. IfSome o Left) (sym is) fit, leave_of rows rest)

  none_built : (frame : BuildFrame) (plan : List PlanEntry)
      → Comes Left itself (λ s. After []) any (λ a s. After []) (builds frame plan [])
  unfolding builds for_each
  none_built frame plan =
      let P : Tree → Type 0 = After [] in
      comes_bind Left itself (λ s. P) any (λ a s. P) any (λ a s. P) _ _
      (λ old new result h. any_came Left P old new result
      (comes_gives Left itself P building.cause_of _ old new result h))
      (λ base good. comes_bind Left itself (λ s. P) any (λ a s. P) any (λ a s. P) _ _
      (comes_yields Left itself P _) (λ built good. comes_yields Left itself P tt))

  module _ (known : Target) (env : List Variable) (files : List EnvFile) where
    abbrev frame : BuildFrame
    frame = build_frame known words env files

    abbrev First : Key → Tree → Type 0
    First key = FitsFirst words.detect.buildpacks words.detect.work words.layers key

    quiet : (plan : List PlanEntry) (row : GroupRow) (rows : List GroupRow) → list_all is_row (row ∷ rows) ≡ true
        → (old new : Seen) (result : Result (Unit {0}) BuildFault) → builds frame plan (row ∷ rows) old result new
        → (ran : List Run) → new.runs ≡ old.runs ++ ran → LeaveTold Left ran → (t : Tree) → old.files ≡ Some t
        → After (row ∷ rows) t → new.misused ≡ old.misused
    quiet plan row rows keys old new result h ran runs left t is fit =
        let served = builds_first frame (plans_outside words fit.places) Left
        (λ t left. left.0) plan row rows keys old new result h in
        let same : ran ≡ served.rows = rest_same old.runs ran served.rows (sym runs ∙ served.runs) in
        (served.minds (subst (λ o. IfSome o (First row.key)) (sym is) fit.next)
        (subst (LeaveFit Left) same (leave_of ran left))).0

    some_built : (plan : List PlanEntry) (row : GroupRow) (rows : List GroupRow)
        → list_all is_row (row ∷ rows) ≡ true → Comes Left itself (λ s. After (row ∷ rows)) any (λ a s. CanExport)
        (builds frame plan (row ∷ rows))
    some_built plan row rows keys old new (Ok done) h =
        let ran = runs_builds frame plan (row ∷ rows) old new (Ok done) h in
        record {
          rows = ran.rows;
          runs = ran.runs;
          good = tt;
          minds = λ t is fit left. (
            quiet plan row rows keys old new (Ok done) h ran.rows ran.runs left t is fit,
            (let long : length ran.rows ≡ length (row ∷ rows) = ran.all.0 in
                let told = last_told old.files ran.rows left (omega (arith, long)) in
                record { tree = told.tree; is = ran.all.1 ∙ told.is; fit = (fit.places, told.fit.1) }),
          );
        }
    some_built plan row rows keys old new (Err fault) h =
        let ran = runs_builds frame plan (row ∷ rows) old new (Err fault) h in
        record {
          rows = ran.rows;
          runs = ran.runs;
          good = tt;
          minds = λ t is fit left.
              (quiet plan row rows keys old new (Err fault) h ran.rows ran.runs left t is fit, tt);
        }

    told_image : (o : Option Tree) → IsTold (After []) o → IsTold CanExport o
    told_image o told = record { tree = told.tree; is = told.is; fit = (told.fit.places, told.fit.next) }

    built_come : (plan : List PlanEntry) (group : List GroupRow) → list_all is_row group ≡ true
        → Comes Left itself (λ s. After group) any (λ a s. CanExport) (builds frame plan group)
    built_come plan [] keys old new (Ok done) h =
        let one = none_built frame plan old new (Ok done) h in
        record {
          rows = one.rows;
          runs = one.runs;
          good = tt;
          minds = λ t is fit left. let two = one.minds t is
              fit left in (two.0, told_image new.files two.1);
        }
    built_come plan [] keys old new (Err fault) h =
        let one = none_built frame plan old new (Err fault) h in
        record {
          rows = one.rows;
          runs = one.runs;
          good = tt;
          minds = λ t is fit left.
              ((one.minds t is fit left).0, tt);
        }
    built_come plan (row ∷ rows) keys old new result h = some_built plan row rows keys old new result h

  group_comes : (known : Target) (env : List Variable) (choice : Choice) → IsKeyed choice
      → Comes Left itself (λ s. After choice.group) any (λ a s. CanExport) (builds_group known words env choice)
  unfolding builds_group
  group_comes known env choice keys =
      let P : Tree → Type 0 = After choice.group in
      comes_bind Left itself (λ s. P) any (λ a s. P) any (λ a s. CanExport) _ _
      (comes_reads Left P building.cause_of _ _ _ (λ t (fit : After choice.group t). fit.platform))
      (λ files good. comes_bind Left itself (λ s. P) (λ frame. Ok (build_frame known words env files) ≡ Ok frame)
      (λ a s. P) any (λ a s. CanExport) _ _ (comes_gives Left itself P building.cause_of _)
      (λ frame is. subst (λ (frame : BuildFrame). Comes Left itself (λ s. P) any (λ a s. CanExport)
      (builds frame choice.plan choice.group)) (ok_is (build_frame known words env files) frame is)
      (built_come known env files choice.plan choice.group keys)))

  -- ---- the export

  cached_known : {E A B : Type 0} (cause : E → Cause) (value : A)
      (next : A → WorldAndCaches → Result B E → WorldAndCaches → Type 0) → CachedGoes IsImage (next value)
      → CachedGoes IsImage (gives cause (Ok value) >>= next)
  unfolding ◌>>=◌ gives
  cached_known cause value next goes old new (Ok result) (a, mid, given, later) =
      subst (λ (s : WorldAndCaches). NoMisuse IsImage s.world new.world
      × Passes IsImage s.world.files new.world.files) given.0
      (subst (λ v. CachedGoes IsImage (next v)) (ok_is value a given.1) goes mid new (Ok result) later)
  cached_known cause value next goes old new (Err fault) (inl given) =
      ((cached_gives IsImage cause (Ok value) old new (Err fault) given).0, tt)
  cached_known cause value next goes old new (Err fault) (inr (a, mid, given, later)) = (
    subst (λ (s : WorldAndCaches). NoMisuse IsImage s.world new.world) given.0
        (subst (λ v. CachedGoes IsImage (next v)) (ok_is value a given.1) goes mid new (Err fault) later).0,
    tt,
  )

  module _ (places : ArePlacesApart words) where
    image_goes : (analyzed : Analyzed) (group : List GroupRow)
        → CachedGoes IsImage (exports_image true words analyzed group)
    unfolding exports_image exports
    image_goes analyzed group =
        cached_known exporting.cause_of (export_frame words) _
        (cached_bind IsImage _ _ (cached_world IsImage _
        (goes_gains (export_frame words) words.image places.store places.image
        (layers_path places) group analyzed))
        (λ gained. cached_bind IsImage _ _ (cached_gives IsImage exporting.cause_of _)
        (λ folders. cached_bind IsImage _ _
        (cached_told IsImage Store _ (cached_stores IsImage true gained.cached folders))
        (λ gone. cached_yields IsImage _))))

    leaves_minds : (analyzed : Analyzed) (choice : Choice) (restored : Restored)
        → CachedMinds IsImage (leaves_image words (phases_of analyzed choice restored))
    unfolding leaves_image writes_readable_image
    leaves_minds analyzed choice restored =
        cached_behind IsImage _ _ (cached_told IsImage Export _ (image_goes analyzed choice.group))
        (λ exported. cached_behind IsImage _ _ (cached_gives IsImage creating.cause_of _)
        (λ text. cached_last IsImage _ text (minds_told IsImage Export _
        (minds_told IsImage of_image_fault _ (minds_writes IsImage _ _ _
        (λ t (fit : FitsImage words.store words.layers words.image t). fit.written))))))

  -- ---- the runs of an export

  record Ran (old new : Seen) : Type 0 where
    rows : List Run
    runs : new.runs ≡ old.runs ++ rows

  ran_on : (a b c : Seen) → Ran a b → Ran b c → Ran a c
  ran_on a b c first second = record {
    rows = first.rows ++ second.rows;
    runs = runs_on a.runs b.runs c.runs
        first.rows second.rows first.runs second.runs;
  }

  abbrev Runs : {E A : Type 0} → (WorldAndCaches → Result A E → WorldAndCaches → Type 0) → Type 0
  Runs {E} {A} step = (old new : WorldAndCaches) (result : Result A E) → step old result new → Ran old.world new.world

  runs_bind : {E A B : Type 0} (first : WorldAndCaches → Result A E → WorldAndCaches → Type 0)
      (next : A → WorldAndCaches → Result B E → WorldAndCaches → Type 0) → Runs first → ((a : A) → Runs (next a))
      → Runs (first >>= next)
  unfolding ◌>>=◌
  runs_bind first next p q old new (Ok value) (a, mid, h, k) = ran_on old.world mid.world new.world
      (p old mid (Ok a) h) (q a mid new (Ok value) k)
  runs_bind first next p q old new (Err fault) (inl h) = p old new (Err fault) h
  runs_bind first next p q old new (Err fault) (inr (a, mid, h, k)) = ran_on old.world mid.world new.world
      (p old mid (Ok a) h) (q a mid new (Err fault) k)

  runs_told : {E F A : Type 0} (of : E → F) (step : WorldAndCaches → Result A E → WorldAndCaches → Type 0)
      → Runs step → Runs (map_err of step)
  unfolding map_err
  runs_told of step p old new (Ok value) h = p old new (Ok value) h
  runs_told of step p old new (Err refusal) (fault, is, h) = p old new (Err fault) h

  runs_same : (old new : WorldAndCaches) → new ≡ old → Ran old.world new.world
  runs_same old new same = record {
    rows = [];
    runs = no_runs Left old.world new.world
        (ap (λ (s : WorldAndCaches). s.world.runs) same);
  }

  runs_gives : {E A : Type 0} (cause : E → Cause) (want : Result A E) → Runs (gives cause want)
  unfolding gives
  runs_gives cause want old new result h = runs_same old new h.0

  runs_yields : {E A : Type 0} (want : A) → Runs {E = E} {A = A} (yields want)
  unfolding yields
  runs_yields want old new (Ok value) h = runs_same old new h.1
  runs_yields want old new (Err fault) h = absurd h

  runs_in_world : {E A : Type 0} (P : Tree → Type 0) (Good : A → Type 0) (Q : A → Tree → Type 0)
      (step : Seen → Result A E → Seen → Type 0) → Comes Left itself (λ s. P) Good (λ a s. Q a) step
      → Runs (in_world step)
  unfolding in_world
  runs_in_world P Good Q step p old new result h = let came = p old.world new.world result h.0
      in record { rows = came.rows; runs = came.runs }

  image_runs : (analyzed : Analyzed) (group : List GroupRow) → Runs (exports_image true words analyzed group)
  unfolding exports_image
  image_runs analyzed group =
      runs_bind _ _ (runs_gives exporting.cause_of _)
      (λ frame old new result h. let keeps = keeps_exports frame (image_path frame.store words.image)
      (trees_apart frame.store words.image) true group analyzed old new result h
      in record { rows = keeps.rows; runs = keeps.runs })

  abbrev Whatever : Tree → Type 0
  Whatever t = Unit {0}

  leaves_runs : (analyzed : Analyzed) (choice : Choice) (restored : Restored)
      → Runs (leaves_image words (phases_of analyzed choice restored))
  unfolding leaves_image writes_readable_image
  leaves_runs analyzed choice restored =
      runs_bind _ _ (runs_told Export _ (image_runs analyzed choice.group))
      (λ exported. runs_bind _ _ (runs_gives creating.cause_of _)
      (λ text. runs_bind _ _
      (runs_in_world IsImage any (λ a. Whatever) _
      (comes_told Left itself (λ s. IsImage) any (λ a s. Whatever) Export _
      (comes_told Left itself (λ s. IsImage) any (λ a s. Whatever) of_image_fault _
      (comes_writes Left IsImage Whatever _ _ _ (λ t (fit : FitsImage words.store words.layers words.image t).
      fit.written) (λ bytes t fit. tt)))))
      (λ saved. runs_yields text)))

  leaves_end : (analyzed : Analyzed) (choice : Choice) (restored : Restored)
      → Ends Left beside_caches (λ s. CanExport) (leaves_image words (phases_of analyzed choice restored))
  leaves_end analyzed choice restored old new result h =
      let ran = leaves_runs analyzed choice restored old new result h in
      record {
        rows = ran.rows;
        runs = ran.runs;
        minds = λ t is fit left. no_misuse_at IsImage old.world.files t old.world.misused new.world.misused is
            fit.1 (leaves_minds fit.0 analyzed choice restored old new result h);
      }

  -- ---- the command

  abbrev of_all : Surroundings → Seen
  of_all s = s.world

  over_world_comes : {E A : Type 0} (P : List ShelfState → Tree → Type 0) (Good : A → Type 0)
      (Q : A → List ShelfState → Tree → Type 0) (step : Seen → Result A E → Seen → Type 0)
      → ((shelves : List ShelfState) → Comes Left itself (λ s. P shelves) Good (λ a s. Q a shelves) step)
      → Comes Left of_all (λ s. P s.caches.shelves) Good (λ a s. Q a s.caches.shelves) (over_world step)
  unfolding over_world
  over_world_comes P Good Q step p old new result h =
      subst (λ (c : Caches). Came Left (P old.caches.shelves) Good
      (λ a. Q a c.shelves) old.world result new.world) (sym h.2)
      (p old.caches.shelves old.world new.world result h.0)

  over_outside_comes : {E A : Type 0} (P : List ShelfState → Tree → Type 0) (Good : A → Type 0)
      (Q : A → List ShelfState → Tree → Type 0) (step : Outside → Result A E → Outside → Type 0)
      → ((shelves : List ShelfState) → Comes Left of_outside (λ s. P shelves) Good (λ a s. Q a shelves) step)
      → Comes Left of_all (λ s. P s.caches.shelves) Good (λ a s. Q a s.caches.shelves) (over_outside step)
  unfolding over_outside
  over_outside_comes P Good Q step p old new result h =
      subst (λ (c : Caches). Came Left (P old.caches.shelves) Good
      (λ a. Q a c.shelves) old.world result new.world) (sym h.1)
      (p old.caches.shelves (outside_of old) (outside_of new) result h.0)

  over_caches_comes : {E A : Type 0} (P : List ShelfState → Tree → Type 0) (Good : A → Type 0)
      (Q : A → Tree → Type 0) (step : WorldAndCaches → Result A E → WorldAndCaches → Type 0)
      → Comes Left beside_caches (λ s. P s.caches.shelves) Good (λ a s. Q a) step
      → Comes Left of_all (λ s. P s.caches.shelves) Good (λ a s. Q a) (over_caches step)
  unfolding over_caches
  over_caches_comes P Good Q step p old new result h = p (caches_beside old) (caches_beside new) result h.0

  over_caches_ends : {E A : Type 0} (P : Tree → Type 0)
      (step : WorldAndCaches → Result A E → WorldAndCaches → Type 0) → Ends Left beside_caches (λ s. P) step
      → Ends Left of_all (λ s. P) (over_caches step)
  unfolding over_caches
  over_caches_ends P step p old new result h = p (caches_beside old) (caches_beside new) result h.0

  creates_end : (env : List Variable) → Ends Left of_all (λ s. FitsCreate words s.caches.shelves) (creates words env)
  unfolding creates
  creates_end env =
      ends_bind Left of_all (λ s. FitsCreate words s.caches.shelves) any (λ a s. IsAnalyzed words s.caches.shelves) _ _
      (over_world_comes (FitsCreate words) any (λ a. IsAnalyzed words) _
      (λ shelves. comes_told Left itself (λ s. FitsCreate words shelves) any
      (λ a s. IsAnalyzed words shelves) Restore _ (images_come shelves)))
      (λ analyzed good. ends_bind Left of_all (λ s. IsAnalyzed words s.caches.shelves) IsKeyed
      (λ a s. IsPlanned words s.caches.shelves) _ _
      (over_outside_comes (IsAnalyzed words) IsKeyed (λ a. IsPlanned words) _
      (λ shelves. comes_told Left of_outside (λ s. IsAnalyzed words shelves) IsKeyed
      (λ a s. IsPlanned words shelves) Detect _ (keyed_comes shelves (target_of analyzed) env)))
      (λ choice keys. ends_bind Left of_all (λ s. IsPlanned words s.caches.shelves) any (λ a s. After choice.group) _ _
      (over_caches_comes (IsPlanned words) any (λ a. After choice.group) _
      (comes_told Left beside_caches (λ s. IsPlanned words s.caches.shelves) any
      (λ a s. After choice.group) Restore _ (restores_come analyzed.previous choice.group keys)))
      (λ restored good. ends_bind Left of_all (λ s. After choice.group) any (λ a s. CanExport) _ _
      (over_world_comes (λ shelves. After choice.group) any (λ a shelves. CanExport) _
      (λ shelves. comes_told Left itself (λ s. After choice.group) any (λ a s. CanExport) Build _
      (group_comes (target_of analyzed) env choice keys)))
      (λ built good. over_caches_ends CanExport _ (leaves_end analyzed choice restored)))))

  -- where the files and the caches fit, and so does what each child leaves, no such call is made
  pub create_minds : (env : List Variable) (old new : Surroundings) (result : Result (List ℕ) CreateRefusal)
      → creates words env old result new
      → IfSome old.world.files (λ files. FitsCreate words old.caches.shelves files → (ran : List Run)
      → new.world.runs ≡ old.world.runs ++ ran → LeaveTold (FitsLeft words) ran
      → new.world.misused ≡ old.world.misused)
  create_minds env old new result did = by old.world.files refl
    where
      by : (o : Option Tree) → old.world.files ≡ o
          → IfSome o (λ files. FitsCreate words old.caches.shelves files → (ran : List Run)
          → new.world.runs ≡ old.world.runs ++ ran → LeaveTold (FitsLeft words) ran
          → new.world.misused ≡ old.world.misused)
      by None is = tt
      by (Some t) is = λ fit ran all left.
          let ended = creates_end env old new result did in
          ended.minds t is fit (subst (LeaveTold (FitsLeft words))
          (rest_same old.world.runs ran ended.rows (sym all ∙ ended.runs)) left)

  -- nothing was done
  pub create_idle : (shelves : List ShelfState) (old : Seen)
      → IfSome old.files (λ files. FitsCreate words shelves files → (ran : List Run) → old.runs ≡ old.runs ++ ran
      → LeaveTold (FitsLeft words) ran → old.misused ≡ old.misused)
  create_idle shelves old = by old.files
    where
      by : (o : Option Tree) → IfSome o (λ files. FitsCreate words shelves files → (ran : List Run)
          → old.runs ≡ old.runs ++ ran → LeaveTold (FitsLeft words) ran → old.misused ≡ old.misused)
      by None = tt
      by (Some t) = λ fit ran all left. refl
