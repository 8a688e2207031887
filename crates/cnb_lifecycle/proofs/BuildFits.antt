-- Where the files fit `build`, and each child leaves files that fit, it makes no call on a path of the wrong kind.
use Rattle.std.proofs.Common.{◌≡◌, ◌∙◌, refl, sym, ap, subst, ℕ, Bool, true, false, cond, not, ◌&&◌, List, [], ◌∷◌}
use Rattle.std.proofs.Common.{◌++◌, codes, Option, Some, None, Result, Ok, Err, is_some}
use Rattle.std.specs.Prelude.{IfSome, IsTrue, if◌then◌else◌}
use Rattle.std.specs.List.{AllByRecursion, filter, filter_map, list_all}
use Rattle.std.specs.Str.{bytes_eq}
use Rattle.std.proofs.lemmas.Bool.{and_from, and_parts}
use Rattle.cnb_build.specs.Builds.{builds, builds_at, builds_one, closes, ends_build, nothing_built, prepares}
use Rattle.cnb_build.specs.Builds.{reads_left, runs_build, with_layers}
use Rattle.cnb_build.specs.Command.{commands_build}
use Rattle.cnb_build.specs.Descriptor.{reads_descriptor}
use Rattle.cnb_build.specs.Given.{documents_of, frame_of, known_apis, needed, reads_given, reads_needed}
use Rattle.cnb_build.specs.Layers.{found_with, names_if, reads_layer, reads_layers, reads_names, with_layer}
use Rattle.cnb_build.specs.Places.{places_of}
use Rattle.cnb_build.specs.Reading.{reads_as, reads_files, value_at}
use Rattle.cnb_build.specs.Refusals.{cause_of, of_read_fault}
use Rattle.cnb_build.specs.Report.{built_text}
use Rattle.cnb_build.specs.declared.fault.BuildFault.{BuildFault}
use Rattle.cnb_build.specs.declared.frame.BuildFrame.{BuildFrame}
use Rattle.cnb_build.specs.declared.frame.Built.{Built}
use Rattle.cnb_env.specs.Base.{base_env}
use Rattle.cnb_env.specs.Buildpack.{plan_name_of}
use Rattle.cnb_env.specs.Files.{is_absent}
use Rattle.cnb_env.specs.Layers.{are_fit_sets, is_fit_layer, is_fit_set}
use Rattle.cnb_env.specs.declared.files.EnvFile.{EnvFile}
use Rattle.cnb_env.specs.declared.layers.Phase.TheVariants as phase
use Rattle.cnb_toml.specs.DistinctLaws.{bytes_eq-symmetric}
use Rattle.cnb_toml.specs.Distinct.{are_distinct}
use Rattle.cnb_toml.specs.Fields.{required_at}
use Rattle.cnb_toml.specs.Form.{name_of, text_of}
use Rattle.cnb_toml.specs.Keys.{is_key}
use Rattle.cnb_toml.specs.Names.{is_bp_id, is_bp_version, is_layer_name}
use Rattle.cnb_toml.specs.Reading.{◌>>=◌}
use Rattle.cnb_toml.specs.Rows.{rows_of}
use Rattle.cnb_toml.specs.declared.fault.DocFault.{DocFault}
use Rattle.cnb_toml.specs.declared.fault.DocFault.TheVariants.{Wrong}
use Rattle.cnb_toml.specs.declared.fault.DocFault.TheVariants as doc
use Rattle.cnb_toml.specs.declared.names.Key.{Key}
use Rattle.cnb_toml.specs.declared.target.Target.{Target}
use Rattle.cnb_words.specs.declared.build.BuildWords.{BuildWords}
use Rattle.cnb_world.specs.Path.{joined}
use Rattle.cnb_world.specs.Runs.{Run}
use Rattle.cnb_world.specs.Tree.{Tree, can_list, is_file_or_absent, is_within, item_at, kind_of}
use Rattle.cnb_world.specs.Whole.{can_write}
use Rattle.cnb_world.specs.declared.env.Variable.{Variable}
use Rattle.cnb_world.specs.declared.world.Item.{Item}
use Rattle.cnb_world.specs.declared.world.Kind.{Kind}
use Rattle.doc_files.specs.Reading.{names_at}
use Rattle.doc_files.specs.declared.fault.ReadFault.{ReadFault}
use Rattle.image_docs.proofs.Answered.{all_distinct, at_or, at_required, follows, Holds, in_document, in_name, in_rows}
use Rattle.layer_paths.specs.Names.{layers_among, stem_of}
use Rattle.layer_paths.specs.Paths.{layer_document, layers_folder}
use Rattle.cnb_toml.specs.Ascending.{ascending}
use Rattle.run_docs.specs.Build.{build_in}
use Rattle.run_docs.specs.Group.{group_in, is_listed, is_row, new_id, row_id, row_in, rows_in}
use Rattle.run_docs.specs.Layer.{layer_in}
use Rattle.run_docs.specs.Launch.{launch_in}
use Rattle.run_docs.specs.Plan.{plan_in}
use Rattle.run_docs.specs.Store.{store_in}
use Rattle.run_docs.specs.declared.group.GroupRow.{GroupRow}
use Rattle.run_docs.specs.declared.layer.LayerDoc.{LayerDoc}
use Rattle.run_docs.specs.declared.plan.PlanEntry.{PlanEntry}
use Rattle.steps.specs.Each.{for_each}
use Rattle.steps.specs.Outside.{Seen}
use Rattle.steps.specs.Results as results
use Rattle.steps.specs.Results.{with_fault}
use Rattle.steps.specs.Steps as steps
use Rattle.steps.specs.Steps.{gives, yields}
use Rattle.cnb_lifecycle.specs.Fitting.{FitsBuild, FitsBuildpacks, FitsBuilt, FitsFirst, LeaveFit, NoMisuseWhere}
use Rattle.cnb_lifecycle.specs.Fitting.{plans_folder}
use Rattle.cnb_lifecycle.proofs.BuildPlaces.{layer_behind_folder, layer_behind_plan, plan_behind_folder, stands_folder}
use Rattle.cnb_lifecycle.proofs.ServeLaws.{Serves, serves_bind, serves_child, serves_each, serves_folder, serves_gives}
use Rattle.cnb_lifecycle.proofs.ServeLaws.{serves_known, serves_less, serves_reads, serves_writes, serves_yields}

ok_is : {A E : Type 0} (a b : A) → (let r : Result A E = Ok a in r) ≡ Ok b → a ≡ b
ok_is a b h = cc

-- ---- the rows of a group that was read have keys

row_holds : (before : List GroupRow) (id version api : Result (List ℕ) DocFault) → Holds is_bp_id id
    → Holds is_bp_version version
    → Holds (follows bytes_eq row_id is_row before)
    (id >>= (λ i. new_id before i >>= (λ new. version
    >>= (λ v. api >>= (λ a. Ok (record { key = record { id = i; version = v }; api = a }))))))
row_holds before (Err fault) version api h k = tt
row_holds before (Ok i) version api h k = by (is_listed before i) refl
  where
    rest : is_listed before i ≡ false → (version api : Result (List ℕ) DocFault) → Holds is_bp_version version
        → Holds (follows bytes_eq row_id is_row before)
        (version >>= (λ v. api >>= (λ a. Ok (record { key = record { id = i; version = v }; api = a }))))
    rest new (Err fault) api k = tt
    rest new (Ok v) (Err fault) k = tt
    rest new (Ok v) (Ok a) k = and_from (is_bp_id i && is_bp_version v) (not (is_listed before i))
        (and_from (is_bp_id i) (is_bp_version v) h k) (ap not new)

    by : (listed : Bool) → is_listed before i ≡ listed
        → Holds (follows bytes_eq row_id is_row before)
        ((if listed then Err (Wrong (codes "id")) else Ok i) >>=
        (λ new. version >>= (λ v. api >>= (λ a. Ok (record
        { key = record { id = i; version = v }; api = a })))))
    by true is = tt
    by false is = rest is version api k

rows_hold : (bytes : List ℕ) → Holds (all_distinct bytes_eq row_id is_row) (group_in bytes)
rows_hold bytes =
    in_document rows_in (all_distinct bytes_eq row_id is_row)
    (λ table. at_or (rows_of row_in) (all_distinct bytes_eq row_id is_row)
    (in_rows bytes_eq row_id bytes_eq-symmetric row_in is_row
    (λ before row. row_holds before (required_at (name_of is_bp_id) (codes "id") row)
    (required_at (name_of is_bp_version) (codes "version") row) (required_at text_of (codes "api") row)
    (at_required (name_of is_bp_id) is_bp_id (in_name is_bp_id) (codes "id") row)
    (at_required (name_of is_bp_version) is_bp_version (in_name is_bp_version) (codes "version") row)))
    [] (codes "group") table refl)
    bytes

failed : {A : Type 0} (path : List ℕ) (fault : DocFault) (value : A) → value_at path (Err fault) ≡ Ok value → ⊥
failed path doc.Memory value h = cc
failed path doc.Absent value h = cc
failed path doc.NotUtf8 value h = cc
failed path doc.NotToml value h = cc
failed path (doc.MetaKind text) value h = cc
failed path (doc.Missing text) value h = cc
failed path (doc.Wrong text) value h = cc
failed path (doc.Name text) value h = cc

keys_hold : (path : List ℕ) (found : Option (List ℕ)) (group : List GroupRow)
    → needed group_in path found ≡ Ok group → list_all is_row group ≡ true
keys_hold path None group h = absurd (cc)
keys_hold path (Some bytes) group h = by (group_in bytes) (rows_hold bytes) h
  where
    by : (r : Result (List GroupRow) DocFault) → Holds (all_distinct bytes_eq row_id is_row) r
        → value_at path r ≡ Ok group → list_all is_row group ≡ true
    by (Ok rows) k h = subst (λ g. list_all is_row g ≡ true) (ok_is rows group h)
        (and_parts (list_all is_row rows) (are_distinct bytes_eq row_id rows) k).0
    by (Err fault) k h = absurd (failed path fault group h)

-- ---- layers that are there while later buildpacks are built

all_more : {X : Type 0} (P : X → Type 0) (xs : List X) (x : X) → AllByRecursion P xs → P x
    → AllByRecursion P (xs ++ x ∷ [])
all_more P [] x all one = (one, tt)
all_more P (y ∷ ys) x all one = (all.0, all_more P ys x all.1 one)

all_pass : {X : Type 0} (test : X → Bool) (xs : List X) → AllByRecursion (λ x. IsTrue (test x)) (filter test xs)
all_pass test [] = tt
all_pass test (x ∷ xs) = by (test x) refl (all_pass test xs)
  where
    by : (v : Bool) → test x ≡ v → AllByRecursion (λ x. IsTrue (test x)) (filter test xs)
        → AllByRecursion (λ x. IsTrue (test x)) (cond v (x ∷ filter test xs) (filter test xs))
    by true is rest = (is, rest)
    by false is rest = rest

all_named : (names layers : List (List ℕ)) → ◌≡◌ {A = Result (List (List ℕ)) BuildFault} (Ok (layers_among names))
    (Ok layers) → AllByRecursion (λ layer. IsTrue (is_layer_name layer)) layers
all_named names layers is = subst (AllByRecursion (λ layer. IsTrue (is_layer_name layer)))
    (ok_is (layers_among names) layers is) (all_pass is_layer_name (ascending (filter_map stem_of names)))

-- a layer's folder, by its buildpack and its name
abbrev IsLayer : List ℕ → List ℕ → Type 0
IsLayer layers path = (key : Key) × IsTrue (is_key key) × (layer : List ℕ) × IsTrue (is_layer_name layer)
    × (path ≡ joined (layers_folder layers key.id) layer)

abbrev AreLayers : List ℕ → List (List ℕ) → Type 0
AreLayers layers paths = AllByRecursion (IsLayer layers) paths

abbrev AreSets : List ℕ → List (List (List ℕ)) → Type 0
AreSets layers sets = AllByRecursion (AreLayers layers) sets

-- the environment of each layer can be read
abbrev FitsLayers : List ℕ → Tree → Type 0
FitsLayers layers files = (key : Key) → IsTrue (is_key key) → (layer : List ℕ) → IsTrue (is_layer_name layer)
    → IsTrue (is_fit_layer phase.Build files (joined (layers_folder layers key.id) layer))

fit_set : (layers : List ℕ) (t : Tree) → FitsLayers layers t → (paths : List (List ℕ)) → AreLayers layers paths
    → is_fit_set phase.Build t paths ≡ true
fit_set layers t fit [] all = refl
fit_set layers t fit (path ∷ paths) ((key, valid, layer, named, is), all) =
    and_from (is_fit_layer phase.Build t path) (is_fit_set phase.Build t paths)
    (subst (λ p. is_fit_layer phase.Build t p ≡ true) (sym is) (fit key valid layer named))
    (fit_set layers t fit paths all)

fit_sets : (layers : List ℕ) (t : Tree) → FitsLayers layers t → (sets : List (List (List ℕ)))
    → AreSets layers sets → are_fit_sets phase.Build t sets ≡ true
fit_sets layers t fit [] all = refl
fit_sets layers t fit (set ∷ sets) all = and_from (is_fit_set phase.Build t set) (are_fit_sets phase.Build t sets)
    (fit_set layers t fit set all.0) (fit_sets layers t fit sets all.1)

with_layer_so : (layers folder layer : List ℕ) (found more : List (List ℕ)) (document : Option (List ℕ))
    → AreLayers layers found → IsLayer layers (joined folder layer)
    → found_with folder layer found document ≡ Ok more → AreLayers layers more
with_layer_so layers folder layer found more None all one h = subst (AreLayers layers) (ok_is found more h) all
with_layer_so layers folder layer found more (Some bytes) all one h = by
    (value_at (layer_document folder layer) (layer_in bytes)) h
  where
    kept : (build : Bool) → AreLayers layers (if build then found ++ joined folder layer ∷ [] else found)
    kept true = all_more (IsLayer layers) found (joined folder layer) all one
    kept false = all

    by : (r : Result LayerDoc BuildFault) → results.and_then r (λ doc. Ok (with_layer folder layer found doc))
        ≡ Ok more → AreLayers layers more
    by (Ok doc) h = subst (AreLayers layers) (ok_is (with_layer folder layer found doc) more h) (kept doc.build)
    by (Err fault) h = absurd (cc)

-- ---- the build of one buildpack

abbrev any : {A : Type 0} → A → Type 0
any a = Unit {0}

module _ (frame : BuildFrame) (apart : is_within (plans_folder frame.work) frame.layers ≡ false)
    (Fit : Tree → Type 0) (built_so : (t : Tree) → Fit t → FitsBuildpacks frame.buildpacks frame.work frame.layers
    t) where
  abbrev Plain : {A : Type 0} → (Tree → Type 0) → (Tree → Type 0) → (Seen → Result A BuildFault → Seen → Type 0)
      → Type 0
  Plain {A} P R step = Serves {E = BuildFault} {A = A} Fit P any (λ a. R) step

  plain_bind : {A B : Type 0} (P P1 R : Tree → Type 0) (first : Seen → Result A BuildFault → Seen → Type 0)
      (next : A → Seen → Result B BuildFault → Seen → Type 0) → Plain P P1 first → ((a : A) → Plain P1 R (next a))
      → Plain P R (steps.◌>>=◌ first next)
  plain_bind P P1 R first next p q = serves_bind Fit P any (λ a. P1) any (λ b. R) first next p (λ a good. q a)

  plain_gives : {A : Type 0} (P : Tree → Type 0) (want : Result A BuildFault) → Plain P P (gives cause_of want)
  plain_gives P want = serves_less Fit P P (λ a. want ≡ Ok a) any (λ a. P) (λ a. P) (gives cause_of want)
      (λ t fit. fit) (λ a good. tt) (λ a t fit. fit) (serves_gives Fit P cause_of want)

  plain_reads : {A : Type 0} (P : Tree → Type 0) (Among : List ℕ → Type 0) (fits : Tree → Bool)
      (want : Tree → Result A ReadFault)
      → ((t : Tree) → P t → IsTrue (fits t)) → Plain P P (reads_files Among fits want)
  plain_reads P Among fits want so = serves_reads Fit P cause_of Among fits
      (λ files. with_fault of_read_fault (want files)) so

  plain_as : {A : Type 0} (form : List ℕ → Result A DocFault) (path : List ℕ)
      → ((t : Tree) → Fit t → IsTrue (is_file_or_absent (item_at t path))) → Plain Fit Fit (reads_as form path)
  unfolding reads_as
  plain_as form path so = plain_bind Fit Fit Fit _ _ (plain_reads Fit _ _ _ so) (λ found. plain_gives Fit _)

  module _ (row : GroupRow) (valid : IsTrue (is_key row.key)) where
    abbrev folder : List ℕ
    folder = layers_folder frame.layers row.key.id

    -- the plan can be written, and the environments read
    abbrev Made : Tree → Type 0
    Made t = IsTrue (can_write (joined (plans_folder frame.work) (plan_name_of row.key)) t) × FitsLayers frame.layers t

    prepare_serves : (pending : List PlanEntry) → Plain Fit (FitsLayers frame.layers)
        (prepares row (places_of frame row.key) pending)
    unfolding prepares reads_descriptor
    prepare_serves pending =
        plain_bind Fit Fit (FitsLayers frame.layers) _ _
        (plain_bind Fit Fit Fit _ _ (plain_reads Fit _ _ _ (λ t fit. (built_so t fit row.key valid).descriptor))
        (λ found. plain_gives Fit _))
        (λ clear_env. plain_bind Fit Made (FitsLayers frame.layers) _ _
        (serves_folder Fit Fit Made cause_of folder (λ t fit. (built_so t fit row.key valid).folder)
        (λ t fit. (
          plan_behind_folder frame.work frame.layers row.key row.key t apart
              (built_so t fit row.key valid).plan,
          λ key is layer named. layer_behind_folder folder
              (joined (layers_folder frame.layers key.id) layer) t
              ((built_so t fit key is).environments layer named),
        )))
        (λ made. plain_bind Made (FitsLayers frame.layers) (FitsLayers frame.layers) _ _
        (serves_writes Fit Made (FitsLayers frame.layers) cause_of
        (joined (plans_folder frame.work) (plan_name_of row.key)) _ (λ t made. made.0)
        (λ bytes t made. λ key is layer named. layer_behind_plan frame.work row.key
        (joined (layers_folder frame.layers key.id) layer) bytes t (made.1 key is layer named)))
        (λ written. serves_less Fit (FitsLayers frame.layers) (FitsLayers frame.layers) (λ a. a ≡ clear_env) any
        (λ a. FitsLayers frame.layers) (λ a. FitsLayers frame.layers) (yields clear_env)
        (λ t fit. fit) (λ a good. tt) (λ a t fit. fit) (serves_yields Fit (FitsLayers frame.layers) clear_env))))

    run_serves : (base : List Variable) (clear_env : Bool) (done : List (List (List ℕ)))
        → AreSets frame.layers done → Plain (FitsLayers frame.layers) Fit
        (runs_build frame base row (places_of frame row.key) clear_env done)
    unfolding runs_build
    run_serves base clear_env done sets =
        plain_bind (FitsLayers frame.layers) (FitsLayers frame.layers) Fit _ _
        (plain_reads (FitsLayers frame.layers) _ _ _ (λ t fit. fit_sets frame.layers t fit done sets))
        (λ env. plain_bind (FitsLayers frame.layers) Fit Fit _ _
        (serves_child Fit (FitsLayers frame.layers) cause_of _) (λ end. plain_gives Fit _))

    close_serves : (pending : List PlanEntry) → Plain Fit Fit (closes row (places_of frame row.key) pending)
    unfolding closes
    close_serves pending = plain_bind Fit Fit Fit _ _
        (plain_as build_in _ (λ t fit. (built_so t fit row.key valid).unmet)) (λ unmet. plain_gives Fit _)

    abbrev Known : Kind → Tree → Type 0
    Known kind t = Fit t × (◌≡◌ {A = Result Kind BuildFault} (Ok (kind_of (item_at t folder))) (Ok kind))

    listed : (kind : Kind) (t : Tree) → Known kind t → is_absent kind ≡ false → can_list t folder ≡ true
    listed kind t known there = stands_folder folder t (built_so t known.0 row.key valid).folder
        (some (item_at t folder) (ap is_absent (ok_is (kind_of (item_at t folder)) kind known.1) ∙ there))
      where
        some : (found : Option Item) → is_absent (kind_of found) ≡ false → is_some found ≡ true
        some None absent = absurd (cc)
        some (Some found) absent = refl

    names_serve : Plain Fit Fit (reads_names folder)
    unfolding reads_names
    names_serve =
        serves_bind Fit Fit any Known any (λ names. Fit) _ _
        (serves_known Fit Fit cause_of _ (λ files. true) _ (λ t fit. refl))
        (λ kind good. by kind (is_absent kind) refl)
      where
        by : (kind : Kind) (absent : Bool) → is_absent kind ≡ absent → Plain (Known kind) Fit (names_if folder absent)
        by kind true is = serves_less Fit (Known kind) (Known kind) (λ a. a ≡ []) any (λ a. Known kind) (λ a. Fit)
            (yields []) (λ t fit. fit) (λ a good. tt) (λ a t known. known.0) (serves_yields Fit (Known kind) [])
        by kind false is =
            serves_less Fit (Known kind) (Known kind) any any (λ a. Known kind) (λ a. Fit) (names_if folder false)
            (λ t fit. fit) (λ a good. tt) (λ a t known. known.0)
            (plain_reads (Known kind) _ (λ files. can_list files folder) (λ files. names_at files folder)
            (λ t known. listed kind t known is))

    layer_serves : (layer : List ℕ) → IsTrue (is_layer_name layer) → (found : List (List ℕ))
        → AreLayers frame.layers found → Serves {E = BuildFault} Fit Fit (AreLayers frame.layers) (λ more. Fit)
        (reads_layer folder layer found)
    unfolding reads_layer
    layer_serves layer named found all =
        serves_bind Fit Fit any (λ a. Fit) (AreLayers frame.layers) (λ more. Fit) _ _
        (plain_reads Fit _ (λ files. true) _ (λ t fit. refl))
        (λ document good. serves_less Fit Fit Fit (λ more. found_with folder layer found document ≡ Ok more)
        (AreLayers frame.layers) (λ a. Fit) (λ a. Fit)
        (gives cause_of (found_with folder layer found document))
        (λ t fit. fit) (λ more is. with_layer_so frame.layers folder layer found more document all
        (row.key, valid, layer, named, refl) is) (λ a t fit. fit) (serves_gives Fit Fit cause_of _))

    layers_serve : Serves {E = BuildFault} Fit Fit (AreLayers frame.layers) (λ more. Fit) (reads_layers folder)
    unfolding reads_layers
    layers_serve =
        serves_bind Fit Fit any (λ a. Fit) (AreLayers frame.layers) (λ more. Fit) _ _ names_serve
        (λ names good. serves_bind Fit Fit (λ layers. Ok (layers_among names) ≡ Ok layers) (λ a. Fit)
        (AreLayers frame.layers) (λ more. Fit) _ _ (serves_gives Fit Fit cause_of (Ok (layers_among names)))
        (λ layers is. serves_each Fit Fit (AreLayers frame.layers) (λ layer. IsTrue (is_layer_name layer))
        (reads_layer folder) layers []
        (all_named names layers is)
        layer_serves tt))

    left_serves : Serves {E = BuildFault} Fit Fit (AreLayers frame.layers) (λ more. Fit)
        (reads_left (places_of frame row.key))
    unfolding reads_left
    left_serves =
        serves_bind Fit Fit any (λ a. Fit) (AreLayers frame.layers) (λ more. Fit) _ _
        (plain_as launch_in _ (λ t fit. (built_so t fit row.key valid).launch))
        (λ launch good. serves_bind Fit Fit any (λ a. Fit) (AreLayers frame.layers) (λ more. Fit) _ _
        (plain_as store_in _ (λ t fit. (built_so t fit row.key valid).store)) (λ store good. layers_serve))

    abbrev AreDone : Built → Type 0
    AreDone built = AreSets frame.layers built.done

    one_serves : (base : List Variable) (built : Built) → AreDone built
        → Serves {E = BuildFault} Fit Fit AreDone (λ next. Fit)
        (builds_at frame base row built (places_of frame row.key))
    unfolding builds_at ends_build
    one_serves base built sets =
        serves_bind Fit Fit any (λ a. FitsLayers frame.layers) AreDone (λ next. Fit) _ _ (prepare_serves built.pending)
        (λ clear_env good. serves_bind Fit (FitsLayers frame.layers) any (λ a. Fit) AreDone (λ next. Fit) _ _
        (run_serves base clear_env built.done sets)
        (λ passed good. serves_bind Fit Fit any (λ a. Fit) AreDone (λ next. Fit) _ _ (close_serves built.pending)
        (λ pending good. serves_bind Fit Fit (AreLayers frame.layers) (λ a. Fit) AreDone (λ next. Fit) _ _ left_serves
        (λ layers all. serves_less Fit Fit Fit (λ next. Ok (with_layers built.done layers pending) ≡ Ok next)
        AreDone (λ a. Fit) (λ a. Fit) (gives cause_of (Ok (with_layers built.done layers pending)))
        (λ t fit. fit) (λ next is. subst AreDone (ok_is (with_layers built.done layers pending) next is)
        (all_more (AreLayers frame.layers) built.done layers sets all)) (λ a t fit. fit)
        (serves_gives Fit Fit cause_of _)))))

    row_serves : (base : List Variable) (built : Built) → AreDone built
        → Serves {E = BuildFault} Fit Fit AreDone (λ next. Fit) (builds_one frame base row built)
    unfolding builds_one
    row_serves base built sets =
        serves_bind Fit Fit (λ places. Ok (places_of frame row.key) ≡ Ok places) (λ a. Fit) AreDone
        (λ next. Fit) _ _ (serves_gives Fit Fit cause_of (Ok (places_of frame row.key)))
        (λ places is. subst (λ places. Serves {E = BuildFault} Fit Fit AreDone (λ next. Fit)
        (builds_at frame base row built places)) (ok_is (places_of frame row.key) places is)
        (one_serves base built sets))

    -- ---- before the first child, whatever layers are there

    abbrev First : Tree → Type 0
    First = FitsFirst frame.buildpacks frame.work frame.layers row.key

    abbrev Writable : Tree → Type 0
    Writable t = IsTrue (can_write (joined (plans_folder frame.work) (plan_name_of row.key)) t)

    abbrev Whatever : Tree → Type 0
    Whatever t = Unit {0}

    first_prepares : (pending : List PlanEntry) → Plain First Whatever (prepares row (places_of frame row.key) pending)
    unfolding prepares reads_descriptor
    first_prepares pending =
        plain_bind First First Whatever _ _ (plain_bind First First First _ _
        (plain_reads First _ _ _ (λ t (fit : First t). fit.descriptor)) (λ found. plain_gives First _))
        (λ clear_env. plain_bind First Writable Whatever _ _
        (serves_folder Fit First Writable cause_of folder (λ t (fit : First t). fit.folder)
        (λ t (fit : First t). plan_behind_folder frame.work frame.layers row.key row.key t apart fit.plan))
        (λ made. plain_bind Writable Whatever Whatever _ _
        (serves_writes Fit Writable Whatever cause_of (joined (plans_folder frame.work) (plan_name_of row.key)) _
        (λ t fit. fit) (λ bytes t fit. tt))
        (λ written. serves_less Fit Whatever Whatever (λ a. a ≡ clear_env) any (λ a. Whatever) (λ a. Whatever)
        (yields clear_env) (λ t fit. fit) (λ a good. tt) (λ a t fit. fit)
        (serves_yields Fit Whatever clear_env))))

    first_runs : (base : List Variable) (clear_env : Bool) → Plain Whatever Fit
        (runs_build frame base row (places_of frame row.key) clear_env [])
    unfolding runs_build
    first_runs base clear_env =
        plain_bind Whatever Whatever Fit _ _ (plain_reads Whatever _ _ _ (λ t fit. refl))
        (λ env. plain_bind Whatever Fit Fit _ _ (serves_child Fit Whatever cause_of _)
        (λ end. plain_gives Fit _))

    first_at : (base : List Variable) (plan : List PlanEntry)
        → Serves {E = BuildFault} Fit First AreDone (λ next. Fit)
        (builds_at frame base row (nothing_built plan) (places_of frame row.key))
    unfolding builds_at ends_build
    first_at base plan =
        serves_bind Fit First any (λ a. Whatever) AreDone (λ next. Fit) _ _ (first_prepares plan)
        (λ clear_env good. serves_bind Fit Whatever any (λ a. Fit) AreDone (λ next. Fit) _ _ (first_runs base clear_env)
        (λ passed good. serves_bind Fit Fit any (λ a. Fit) AreDone (λ next. Fit) _ _ (close_serves plan)
        (λ pending good. serves_bind Fit Fit (AreLayers frame.layers) (λ a. Fit) AreDone (λ next. Fit) _ _ left_serves
        (λ layers all. serves_less Fit Fit Fit (λ next. Ok (with_layers [] layers pending) ≡ Ok next) AreDone
        (λ a. Fit) (λ a. Fit) (gives cause_of (Ok (with_layers [] layers pending)))
        (λ t fit. fit) (λ next is. subst AreDone (ok_is (with_layers [] layers pending) next is)
        (all_more (AreLayers frame.layers) [] layers tt all)) (λ a t fit. fit)
        (serves_gives Fit Fit cause_of _)))))

    first_serves : (base : List Variable) (plan : List PlanEntry)
        → Serves {E = BuildFault} Fit First AreDone (λ next. Fit) (builds_one frame base row (nothing_built plan))
    unfolding builds_one
    first_serves base plan =
        serves_bind Fit First (λ places. Ok (places_of frame row.key) ≡ Ok places) (λ a. First) AreDone
        (λ next. Fit) _ _ (serves_gives Fit First cause_of (Ok (places_of frame row.key)))
        (λ places is. subst (λ places. Serves {E = BuildFault} Fit First AreDone (λ next. Fit)
        (builds_at frame base row (nothing_built plan) places)) (ok_is (places_of frame row.key) places is)
        (first_at base plan))

  each_key : (group : List GroupRow) → list_all is_row group ≡ true
      → AllByRecursion (λ row. IsTrue (is_key row.key)) group
  each_key [] h = tt
  each_key (row ∷ rows) h = let parts = and_parts (is_row row) (list_all is_row rows) h
      in (parts.0, each_key rows parts.1)

  -- builds of a group whose rows have keys
  pub builds_serve : (plan : List PlanEntry) (group : List GroupRow) → list_all is_row group ≡ true
      → Plain Fit Fit (builds frame plan group)
  unfolding builds
  builds_serve plan group keys =
      plain_bind Fit Fit Fit _ _ (plain_gives Fit (Ok (base_env frame.env)))
      (λ base. plain_bind Fit Fit Fit _ _
      (serves_less Fit Fit Fit (λ built. AreSets frame.layers built.done) any (λ a. Fit) (λ a. Fit) _
      (λ t fit. fit) (λ a good. tt) (λ a t fit. fit)
      (serves_each Fit Fit (λ built. AreSets frame.layers built.done) (λ row. IsTrue (is_key row.key))
      (builds_one frame base) group (nothing_built plan) (each_key group keys)
      (λ row valid built sets. row_serves row valid base built sets) tt))
      (λ built. serves_less Fit Fit Fit (λ a. a ≡ tt) any (λ a. Fit) (λ a. Fit) (yields tt) (λ t fit. fit)
      (λ a good. tt) (λ a t fit. fit) (serves_yields Fit Fit tt)))

  -- the same of files that fit the first build
  pub builds_first : (plan : List PlanEntry) (row : GroupRow) (rows : List GroupRow)
      → list_all is_row (row ∷ rows) ≡ true → Plain (FitsFirst frame.buildpacks frame.work frame.layers row.key)
      Fit (builds frame plan (row ∷ rows))
  unfolding builds for_each
  builds_first plan row rows keys =
      let parts = and_parts (is_row row) (list_all is_row rows) keys in
      let Before : Tree → Type 0 = FitsFirst frame.buildpacks frame.work frame.layers row.key in
      let Done : Built → Type 0 = λ built. AreSets frame.layers built.done in
      plain_bind Before Before Fit _ _ (plain_gives Before (Ok (base_env frame.env)))
      (λ base. plain_bind Before Fit Fit _ _
      (serves_less Fit Before Before Done any (λ a. Fit) (λ a. Fit) _ (λ t fit. fit) (λ a good. tt) (λ a t fit. fit)
      (serves_bind Fit Before Done (λ a. Fit) Done (λ a. Fit) _ _ (first_serves row parts.0 base plan)
      (λ built sets. serves_each Fit Fit Done (λ row. IsTrue (is_key row.key)) (builds_one frame base) rows built
      (each_key rows parts.1) (λ row valid built sets. row_serves row valid base built sets) sets)))
      (λ built. serves_less Fit Fit Fit (λ a. a ≡ tt) any (λ a. Fit) (λ a. Fit) (yields tt) (λ t fit. fit)
      (λ a good. tt) (λ a t fit. fit) (serves_yields Fit Fit tt)))

-- ---- the command

-- what steps come to
abbrev ValueOf : {A : Type 0} → (Seen → Result A BuildFault → Seen → Type 0) → Type 0
ValueOf {A} step = A

same_after : {X : Type 0} (xs ys zs : List X) → xs ++ ys ≡ xs ++ zs → ys ≡ zs
same_after [] ys zs h = h
same_after (x ∷ xs) ys zs h = same_after xs ys zs (cc)

module _ (words : BuildWords) (env : List Variable)
    (apart : is_within (plans_folder words.work) words.layers ≡ false) where
  abbrev Start : Tree → Type 0
  Start = FitsBuild words

  abbrev Left : Tree → Type 0
  Left = FitsBuilt words

  -- the group's rows have keys, and the folders are those of the words
  abbrev IsGiven : ValueOf (reads_given words env) → Type 0
  IsGiven given = (list_all is_row given.group ≡ true) × (target : Option Target) × (files : List EnvFile)
      × (given.frame ≡ frame_of words env target files)

  needed_serves : {A : Type 0} (Good : A → Type 0) (form : List ℕ → Result A DocFault) (path : List ℕ)
      → ((t : Tree) → Start t → IsTrue (is_file_or_absent (item_at t path)))
      → ((found : Option (List ℕ)) (a : A) → needed form path found ≡ Ok a → Good a)
      → Serves {E = BuildFault} Left Start Good (λ a. Start) (reads_needed form path)
  unfolding reads_needed
  needed_serves Good form path so value =
      serves_bind Left Start any (λ a. Start) Good (λ a. Start) _ _ (serves_reads Left Start cause_of _ _ _ so)
      (λ found good. serves_less Left Start Start (λ a. needed form path found ≡ Ok a) Good (λ a. Start)
      (λ a. Start) (gives cause_of (needed form path found)) (λ t fit. fit) (λ a is. value found a is)
      (λ a t fit. fit) (serves_gives Left Start cause_of _))

  given_serves : Serves {E = BuildFault} Left Start IsGiven (λ given. Start) (reads_given words env)
  unfolding reads_given
  given_serves =
      serves_bind Left Start (λ documents. Ok (documents_of words.work) ≡ Ok documents) (λ a. Start) IsGiven
      (λ a. Start) _ _ (serves_gives Left Start cause_of (Ok (documents_of words.work)))
      (λ documents at. let same : documents_of words.work ≡ documents = ok_is (documents_of words.work) documents at in
      serves_bind Left Start (λ group. list_all is_row group ≡ true) (λ a. Start) IsGiven (λ a. Start) _ _
      (needed_serves (λ group. list_all is_row group ≡ true) group_in documents.group
      (λ t fit. subst (λ d. IsTrue (is_file_or_absent (item_at t d.group))) same fit.group)
      (λ found group is. keys_hold documents.group found group is))
      (λ group keys. serves_bind Left Start (λ known. known_apis group ≡ Ok known) (λ a. Start) IsGiven
      (λ a. Start) _ _ (serves_gives Left Start cause_of (known_apis group))
      (λ known is. serves_bind Left Start any (λ a. Start) IsGiven (λ a. Start) _ _
      (needed_serves any plan_in documents.plan (λ t fit. subst
      (λ d. IsTrue (is_file_or_absent (item_at t d.plan))) same fit.plan) (λ found plan is. tt))
      (λ plan good. serves_bind Left Start any (λ a. Start) IsGiven (λ a. Start) _ _
      (serves_reads Left Start cause_of _ _ _ (λ t fit. fit.target))
      (λ target good. serves_bind Left Start any (λ a. Start) IsGiven (λ a. Start) _ _
      (serves_reads Left Start cause_of _ _ _ (λ t fit. fit.platform))
      (λ files good. serves_less Left Start Start (λ given. Ok
      (record { group = group; plan = plan; frame = frame_of words env target files }) ≡ Ok given) IsGiven
      (λ a. Start) (λ a. Start) _ (λ t fit. fit)
      (λ given is. subst IsGiven (ok_is (record {
        group = group;
        plan = plan;
        frame = frame_of words env target
            files;
      }) given is) (keys, target, files, refl)) (λ a t fit. fit)
      (serves_gives Left Start cause_of _)))))))

  command_serves : Serves {E = BuildFault} Left Start any (λ text. Left) (commands_build words env)
  unfolding commands_build
  command_serves =
      serves_bind Left Start IsGiven (λ given. Start) any (λ text. Left) _ _ given_serves
      (λ given is. serves_bind Left Start (λ text. Ok (built_text given.group) ≡ Ok text) (λ text. Start) any
      (λ text. Left) _ _ (serves_gives Left Start cause_of (Ok (built_text given.group)))
      (λ text made. serves_bind Left Start any (λ built. Left) any (λ text. Left) _ _
      (serves_less Left Left Start any any (λ built. Left) (λ built. Left)
      (builds given.frame given.plan given.group) (λ t (fit : FitsBuild words t). fit.built)
      (λ built good. tt) (λ built t fit. fit)
      (subst (λ frame. Serves {E = BuildFault} Left Left any (λ built. Left)
      (builds frame given.plan given.group)) (sym is.3)
      (builds_serve (frame_of words env is.1 is.2) apart (FitsBuilt words)
      (λ t fit. fit) given.plan given.group is.0)))
      (λ built good. serves_less Left Left Left (λ a. a ≡ text) any (λ a. Left) (λ a. Left) (yields text)
      (λ t fit. fit) (λ a is. tt) (λ a t fit. fit) (serves_yields Left Left text))))

pub build_minds : (words : BuildWords) (env : List Variable) (old new : Seen)
    (result : Result (List ℕ) BuildFault) → commands_build words env old result new
    → NoMisuseWhere (FitsBuild words) (FitsBuilt words) old new
build_minds words env old new result did = by old.files refl
  where
    by : (o : Option Tree) → old.files ≡ o → IfSome o (λ files. FitsBuild words files → (ran : List Run)
        → new.runs ≡ old.runs ++ ran → LeaveFit (FitsBuilt words) ran → new.misused ≡ old.misused)
    by None is = tt
    by (Some t) is = λ fit ran all left.
        let served = command_serves words env fit.plans_apart old new result did in
        (served.minds (subst (λ o. IfSome o (FitsBuild words)) (sym is) fit)
        (subst (LeaveFit (FitsBuilt words)) (same_after old.runs ran served.rows (sym all ∙ served.runs))
        left)).0

-- nothing was done
pub build_idle : (words : BuildWords) (old : Seen) → NoMisuseWhere (FitsBuild words) (FitsBuilt words) old old
build_idle words old = by old.files
  where
    by : (o : Option Tree) → IfSome o (λ files. FitsBuild words files → (ran : List Run)
        → old.runs ≡ old.runs ++ ran → LeaveFit (FitsBuilt words) ran → old.misused ≡ old.misused)
    by None = tt
    by (Some t) = λ fit ran all left. refl
