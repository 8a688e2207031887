-- The store has the trees of the layers that are gathered of a group.
use Rattle.std.proofs.Common.{◌≡◌, ◌∙◌, refl, sym, ap, subst, ℕ, Bool, true, false, cond, List, [], ◌∷◌, ◌++◌, Option}
use Rattle.std.proofs.Common.{Some, None, Result, Ok, inl, inr, ◌⊎◌, is_some}
use Rattle.std.specs.Prelude.{IfSome, find}
use Rattle.std.specs.List.{AllByRecursion}
use Rattle.std.specs.Str.{IsUtf8}
use Rattle.cnb_env.specs.Files.{is_absent}
use Rattle.cnb_layers.specs.Buildpack.{exports_buildpack, exports_documents, exports_group, exports_layers}
use Rattle.cnb_layers.specs.Buildpack.{exports_store_document, one_default, reads_launch, reads_store_document}
use Rattle.cnb_layers.specs.Buildpack.{with_documents}
use Rattle.cnb_layers.specs.Gathering.{exports_layer, is_cached, keeps_documented, keeps_found, keeps_layer, kept_of}
use Rattle.cnb_layers.specs.Gathering.{nothing_gathered, with_image, with_kept, with_layer}
use Rattle.cnb_layers.specs.Layer.{digests_contents, finds_contents, flags_of, looks_for_contents, puts_contents}
use Rattle.cnb_layers.specs.Layer.{reads_layer, takes_contents, takes_there, there_by}
use Rattle.cnb_layers.specs.Names.{lists_unless, reads_layer_names, reads_names}
use Rattle.cnb_layers.specs.Patterns.{adds_pattern, adds_slice, reads_pattern, reads_slices}
use Rattle.cnb_layers.specs.Reading.{reads_as, reads_some}
use Rattle.cnb_layers.specs.Refusals.{cause_of}
use Rattle.cnb_layers.specs.Settling.{checks_reused, decision_of, digest_or, if_stored, is_equal, looks_for_stored}
use Rattle.cnb_layers.specs.Settling.{reuses, row_of, settled_as, settles_by}
use Rattle.cnb_layers.specs.declared.fault.ExportFault.{ExportFault}
use Rattle.cnb_layers.specs.declared.frame.ExportFrame.{ExportFrame}
use Rattle.cnb_layers.specs.declared.gathered.Gathered.{Gathered}
use Rattle.cnb_layers.specs.declared.gathered.ImageLayer.{ImageLayer}
use Rattle.cnb_toml.specs.Names.{folder_of}
use Rattle.cnb_toml.specs.declared.fault.DocFault.{DocFault}
use Rattle.cnb_toml.specs.declared.meta.Meta.{Meta}
use Rattle.cnb_world.specs.Path.{joined}
use Rattle.cnb_world.specs.Tree.{Tree, is_file, is_within, item_at}
use Rattle.image_docs.specs.DigestText.{is_digest}
use Rattle.image_docs.specs.declared.layer_row.LayerRow.{LayerRow}
use Rattle.layer_flags.specs.Export.{IsImageLayer, export_lines}
use Rattle.layer_flags.specs.declared.export.ExportRow.{ExportRow}
use Rattle.layer_flags.specs.declared.export.ExportRow.TheVariants as table
use Rattle.layer_flags.specs.declared.flags.Flags.{Flags}
use Rattle.layer_paths.specs.Names.{layers_among}
use Rattle.layer_paths.specs.Paths.{layers_folder}
use Rattle.run_docs.specs.Launch.{launch_in}
use Rattle.run_docs.specs.Store.{store_in}
use Rattle.run_docs.specs.declared.group.GroupRow.{GroupRow}
use Rattle.run_docs.specs.declared.layer.LayerDoc.{LayerDoc}
use Rattle.steps.specs.Each.{for_each}
use Rattle.steps.specs.Outside.{Seen}
use Rattle.steps.specs.Steps.{◌>>=◌, gives, map_err, reads, yields}
use Rattle.store_prune.specs.Verifying.{HasTreeFile}
use Rattle.tree_store.specs.Caching.{digests_folder}
use Rattle.tree_store.specs.Steps.{looks_for_tree}
use Rattle.tree_store.specs.Store.{tree_path}
use Rattle.tree_store.specs.declared.fault.StoreFault.{StoreFault}
use Rattle.tree_store.proofs.Blames.{within_itself}
use Rattle.unpack_laws.proofs.VerifiedLaws.{on_told}
use Rattle.store_laws.specs.Sound.{Grows, HasFile}
use Rattle.store_laws.specs.Texts.{AreTexts}
use Rattle.store_laws.proofs.PutSteps.{Reading, Went, folder_went, read_each, read_files, read_given, read_then}
use Rattle.store_laws.proofs.PutSteps.{read_value, tree_reading, went_read}
use Rattle.store_laws.proofs.Putting.{grows_none, grows_on, tree_kept}
use Rattle.store_laws.proofs.Texts.{within_deeper}

-- ---- what a layer's contents are, what becomes of a layer, and what is kept of it

abbrev ArgumentOf : {X Y : Type 0} → (X → Y) → Type 0
ArgumentOf {X} f = X

abbrev ValueOf : {X : Type 0} → Option X → Type 0
ValueOf {X} option = X

abbrev Contents : Type 0
Contents = ArgumentOf (is_cached (record { launch = true; build = true; cache = true }))

abbrev Settled : Type 0
Settled = ValueOf (settled_as None None)

abbrev Kept : Type 0
Kept = ArgumentOf (with_layer nothing_gathered)

-- ---- lists

pub all_more : {X : Type 0} (P : X → Type 0) (xs : List X) (x : X) → AllByRecursion P xs → P x
    → AllByRecursion P (xs ++ x ∷ [])
all_more P [] x all h = (h, tt)
all_more P (y ∷ xs) x all h = (all.0, all_more P xs x all.1 h)

pub all_weaker : {X : Type 0} (P Q : X → Type 0) (xs : List X) → ((x : X) → P x → Q x) → AllByRecursion P xs
    → AllByRecursion Q xs
all_weaker P Q [] f all = tt
all_weaker P Q (x ∷ xs) f all = (f x all.0, all_weaker P Q xs f all.1)

find_holds : {X : Type 0} (P : X → Type 0) (p : X → Bool) (xs : List X) → AllByRecursion P xs → IfSome (find p xs) P
find_holds P p [] all = tt
find_holds P p (x ∷ xs) all = by (p x) (find_holds P p xs all.1)
  where
    by : (v : Bool) → IfSome (find p xs) P → IfSome (cond v (Some x) (find p xs)) P
    by true later = all.0
    by false later = later

-- ---- what only reads

reads_document_as : {A : Type 0} (form : List ℕ → Result A DocFault) (at : List ℕ) → Reading (reads_as form at)
unfolding reads_as
reads_document_as form at = read_then _ _ (read_files cause_of _ _ _) (λ found. read_given cause_of _)

reads_document_some : {A : Type 0} (form : List ℕ → Result A DocFault) (at : List ℕ) → Reading (reads_some form at)
unfolding reads_some
reads_document_some form at = read_then _ _ (read_files cause_of _ _ _) (λ found. read_given cause_of _)

launch_reading : (folder id : List ℕ) → Reading (reads_launch folder id)
unfolding reads_launch
launch_reading folder id = read_then _ _ (read_given cause_of _)
    (λ at. read_then _ _ (reads_document_as launch_in at) (λ launch. read_given cause_of (one_default id launch)))

store_reading : (folder : List ℕ) → Reading (reads_store_document folder)
unfolding reads_store_document
store_reading folder = read_then _ _ (read_given cause_of _) (λ at. reads_document_some store_in at)

listing : (absent : Bool) (folder : List ℕ) → Reading (lists_unless absent folder)
listing true folder = read_value ExportFault _
listing false folder = read_files cause_of _ _ _

names_reading : (folder : List ℕ) → Reading (reads_layer_names folder)
unfolding reads_layer_names reads_names
names_reading folder = read_then _ _ (read_then _ _ (read_files cause_of _ _ _)
    (λ kind. listing (is_absent kind) folder)) (λ names. read_given cause_of (Ok (layers_among names)))

layer_reading : (at : List ℕ) → Reading (reads_layer at)
unfolding reads_layer
layer_reading at = read_then _ _ (read_files cause_of _ _ _) (λ found. read_given cause_of _)

looking : (at : List ℕ) → Reading (looks_for_contents at)
unfolding looks_for_contents
looking at = read_then _ _ (read_files cause_of _ _ _) (λ kind. read_given cause_of (there_by at kind))

pattern_reading : (id text : List ℕ) → Reading (reads_pattern id text)
unfolding reads_pattern
pattern_reading id text old new a h = ap (λ (s : Seen). s.files) h.0

slices_reading : (id : List ℕ) (slices : List (List (List ℕ))) → Reading (reads_slices id slices)
unfolding adds_pattern adds_slice
slices_reading id slices = read_each (adds_slice id) (λ texts so_far. read_then _ _
    (read_each (adds_pattern id) (λ text patterns. read_then _ _ (pattern_reading id text)
    (λ pattern. read_given cause_of _)) texts []) (λ patterns. read_given cause_of _)) slices []

-- ---- layers

module _ (store top : List ℕ) (text : IsUtf8 store) (a : Tree) (texts : AreTexts top a) where
  -- Under a digest stands a tree of it, or a file that stood there at first; for a layer that isn't reused the former.
  pub record IsThere (files : Tree) (reused : Bool) (digest : List ℕ) : Type 0 where
    pub is : is_digest digest ≡ true
    pub there : HasTreeFile store files digest ⊎ HasFile store a digest
    pub added : reused ≡ false → HasTreeFile store files digest

  tree_there : (files : Tree) (reused : Bool) (digest : List ℕ) → is_digest digest ≡ true
      → HasTreeFile store files digest → IsThere files reused digest
  tree_there files reused digest is h = record { is = is; there = inl h; added = λ no. h }

  still_there : (b c : Tree) (reused : Bool) (digest : List ℕ) → Grows store b c → IsThere b reused digest
      → IsThere c reused digest
  still_there b c reused digest grows h = record {
    is = h.is;
    there = by h.there;
    added = λ no. tree_kept store b c grows digest h.is (h.added no);
  }
    where
      by : HasTreeFile store b digest ⊎ HasFile store a digest → HasTreeFile store c digest ⊎ HasFile store a digest
      by (inl tree) = inl (tree_kept store b c grows digest h.is tree)
      by (inr file) = inr file

  abbrev pub LayersThere : Tree → List ImageLayer → Type 0
  LayersThere files layers = AllByRecursion (λ layer. IsThere files layer.reused layer.row.digest) layers

  pub layers_still : (b c : Tree) (layers : List ImageLayer) → Grows store b c → LayersThere b layers
      → LayersThere c layers
  layers_still b c layers grows = all_weaker (λ layer. IsThere b layer.reused layer.row.digest)
      (λ layer. IsThere c layer.reused layer.row.digest) layers
      (λ layer. still_there b c layer.reused layer.row.digest grows)

  -- a step went on from there, and came to a value of which this holds
  pub record Comes (old : Seen) (before : Went store a old) (Is : Tree → Type 0) (new : Seen) : Type 0 where
    pub went : Went store a new
    pub on : Grows store before.files went.files
    pub is : Is went.files

  pub read_comes : (old new : Seen) (before : Went store a old) (Is : Tree → Type 0) → new.files ≡ old.files
      → Is before.files → Comes old before Is new
  read_comes old new before Is same is = record {
    went = went_read store a old new same before;
    on = grows_none store before.files;
    is = is;
  }

  -- contents that go into the image are there
  abbrev ContentsThere : Flags → Contents → Tree → Type 0
  ContentsThere flags contents files = flags.launch ≡ true
      → IfSome contents.digest (λ digest. (is_digest digest ≡ true) × HasTreeFile store files digest)

  no_digest : (flags : Flags) (contents : Contents) (files : Tree) → contents.digest ≡ None
      → ContentsThere flags contents files
  no_digest flags contents files none launch = subst (λ (o : Option (List ℕ)). IfSome o
      (λ digest. (is_digest digest ≡ true) × HasTreeFile store files digest)) (sym none) tt

  there_taken : (flags : Flags) (cache launch : Bool) (path : List ℕ) (contents : Contents) (old new : Seen)
      (before : Went store a old) → is_within top path ≡ true → flags.launch ≡ launch
      → takes_there store cache launch path old (Ok contents) new
      → Comes old before (ContentsThere flags contents) new
  unfolding puts_contents digests_contents digests_folder ◌>>=◌ map_err yields
  there_taken flags cache true path contents old new before within is (digest, mid, put, (made, same)) =
      let one = folder_went store text a old mid before top texts path digest within put in
      record {
        went = went_read store a mid new (ap (λ (s : Seen). s.files) same) one.went;
        on = one.on;
        is = λ launch. subst (λ (c : Contents). IfSome c.digest
            (λ digest. (is_digest digest ≡ true) × HasTreeFile store one.went.files digest)) (sym made)
            (one.is, one.has);
      }
  there_taken flags true false path contents old new before within is
      (digest, mid, (tree, next, read, (named, end)), (made, same)) =
      read_comes old new before (ContentsThere flags contents)
      (ap (λ (s : Seen). s.files) same ∙ ap (λ (s : Seen). s.files) end ∙ tree_reading path old next tree read)
      (λ launch. absurd (let no : true ≡ false = sym launch ∙ is in cc))
  there_taken flags false false path contents old new before within is (made, same) =
      read_comes old new before (ContentsThere flags contents) (ap (λ (s : Seen). s.files) same)
      (λ launch. absurd (let no : true ≡ false = sym launch ∙ is in cc))

  contents_taken : (flags : Flags) (path : List ℕ) (there : Bool) (contents : Contents) (old new : Seen)
      (before : Went store a old) → is_within top path ≡ true
      → takes_contents store flags path there old (Ok contents) new
      → Comes old before (ContentsThere flags contents) new
  unfolding yields
  contents_taken flags path true contents old new before within h =
      there_taken flags flags.cache flags.launch path contents old new before within refl h
  contents_taken flags path false contents old new before within (made, same) =
      read_comes old new before (ContentsThere flags contents) (ap (λ (s : Seen). s.files) same)
      (no_digest flags contents before.files (ap (λ (c : Contents). c.digest) made))

  contents_found : (folder layer : List ℕ) (flags : Flags) (contents : Contents) (old new : Seen)
      (before : Went store a old) → is_within top folder ≡ true
      → finds_contents store folder layer flags old (Ok contents) new
      → Comes old before (ContentsThere flags contents) new
  unfolding finds_contents gives ◌>>=◌
  contents_found folder layer flags contents old new before within (path, m1, (s1, is, c1), (there, m2, look, take)) =
      let same : m2.files ≡ old.files = looking path m1 m2 there look ∙ ap (λ (s : Seen). s.files) s1 in
      let at : joined folder layer ≡ path = cc in
      let rest = contents_taken flags path there contents m2 new (went_read store a old m2 same before)
      (subst (λ p. is_within top p ≡ true) at (within_deeper top folder layer within)) take in
      record { went = rest.went; on = rest.on; is = rest.is }

  -- ---- what becomes of a layer

  abbrev SettledThere : Option Settled → Tree → Type 0
  SettledThere settled files = IfSome settled (λ s. IfSome s.reused (λ how. IsThere files how s.digest))

  -- a line by which a layer goes into the image
  launched : (launch cache contents previous equal : Bool) (line : ExportRow)
      → export_lines launch cache contents previous equal ≡ line → IsImageLayer line → launch ≡ true
  launched true cache contents previous equal line e h = refl
  launched false true false previous equal line e h = absurd (subst IsImageLayer (sym e) h)
  launched false true true previous equal line e h = absurd (subst IsImageLayer (sym e) h)
  launched false false false previous equal line e h = absurd (subst IsImageLayer (sym e) h)
  launched false false true previous equal line e h = absurd (subst IsImageLayer (sym e) h)

  module _ (flags : Flags) (contents : Contents) where
    added : (reused : Option Bool) (digest : Option (List ℕ)) (files : Tree)
        → IfSome digest (λ d. (is_digest d ≡ true) × HasTreeFile store files d)
        → SettledThere (settled_as reused digest) files
    added reused None files h = tt
    added None (Some digest) files h = tt
    added (Some how) (Some digest) files h = tree_there files how digest h.0 h.1

    skipped : (digest : Option (List ℕ)) (files : Tree) → SettledThere (settled_as None digest) files
    skipped None files = tt
    skipped (Some digest) files = tt

    -- a tree of the previous image is there where it is taken over without its contents
    stored_there : (digest : List ℕ) (done : Unit {0}) (old new : Seen) (before : Went store a old)
        → is_digest digest ≡ true → looks_for_stored store digest old (Ok done) new
        → IsThere before.files true digest × (new.files ≡ old.files)
    unfolding looks_for_stored looks_for_tree reads gives map_err ◌>>=◌
    stored_there digest done old new before is (stored, mid, look, (same, answer, cause)) =
        let found : Ok (is_file (item_at before.files (tree_path store digest))) ≡ Ok stored = on_told old.files
        before.files (λ files. ◌≡◌ {A = Result Bool StoreFault} (Ok (is_file (item_at files (tree_path store digest))))
        (Ok stored)) before.told look.answer in (
          record { is = is; there = by stored answer found; added = λ no. absurd (cc) },
          ap (λ (s : Seen). s.files) same ∙ look.same.files,
        )
      where
        first : HasFile store before.files digest
            → (item_at before.files (tree_path store digest) ≡ item_at a (tree_path store digest))
            ⊎ HasTreeFile store before.files digest → HasTreeFile store before.files digest ⊎ HasFile store a digest
        first there (inl kept) = inr (ap is_file (sym kept) ∙ there)
        first there (inr tree) = inl tree

        by : (stored : Bool) → if_stored digest stored ≡ Ok done
            → ◌≡◌ {A = Result Bool StoreFault} (Ok (is_file (item_at before.files (tree_path store digest))))
            (Ok stored)
            → HasTreeFile store before.files digest ⊎ HasFile store a digest
        by true e found =
            let there : is_file (item_at before.files (tree_path store digest)) ≡ true = cc in
            first there (before.grows.adds digest is there)
        by false e found = absurd (cc)

    module _ (row : Option LayerRow) (valid : IfSome row (λ r. is_digest r.digest ≡ true)) where
      reused_there : (digest : Option (List ℕ)) (settled : Option Settled) (old new : Seen) (before : Went store a old)
          → IfSome digest (λ d. (is_digest d ≡ true) × HasTreeFile store before.files d)
          → reuses store digest row old (Ok settled) new → Comes old before (SettledThere settled) new
      unfolding reuses ◌>>=◌ yields
      reused_there (Some digest) settled old new before h (done, mid, (made, same), (is, end)) =
          read_comes old new before (SettledThere settled) (ap (λ (s : Seen). s.files) end
          ∙ ap (λ (s : Seen). s.files) same) (subst (λ o. SettledThere o before.files) (sym is)
          (tree_there before.files true digest h.0 h.1))
      reused_there None settled old new before h (done, mid, checked, (is, end)) =
          by row valid checked is
        where
          by : (row : Option LayerRow) → IfSome row (λ r. is_digest r.digest ≡ true)
              → checks_reused store None row old (Ok done) mid
              → settled ≡ settled_as (Some true) (digest_or None row) → Comes old before (SettledThere settled) new
          by None v (made, same) is = read_comes old new before (SettledThere settled) (ap (λ (s : Seen). s.files) end
              ∙ ap (λ (s : Seen). s.files) same) (subst (λ o. SettledThere o before.files) (sym is) tt)
          by (Some r) v c is =
              let (there, same) = stored_there r.digest done old mid before v c in
              read_comes old new before (SettledThere settled) (ap (λ (s : Seen). s.files) end ∙ same)
              (subst (λ o. SettledThere o before.files) (sym is) there)

      settled_there : (line : ExportRow) (id layer : List ℕ) (settled : Option Settled) (old new : Seen)
          (before : Went store a old) → (IsImageLayer line → flags.launch ≡ true)
          → ContentsThere flags contents before.files
          → settles_by line store id layer contents.digest row old (Ok settled) new
          → Comes old before (SettledThere settled) new
      unfolding yields gives
      settled_there table.Skip id layer settled old new before launch h (is, same) =
          read_comes old new before (SettledThere settled) (ap (λ (s : Seen). s.files) same)
          (subst (λ o. SettledThere o before.files) (sym is) (skipped contents.digest before.files))
      settled_there table.Add id layer settled old new before launch h (is, same) =
          read_comes old new before (SettledThere settled) (ap (λ (s : Seen). s.files) same)
          (subst (λ o. SettledThere o before.files) (sym is) (added (Some false) contents.digest before.files
          (h (launch tt))))
      settled_there table.Reuse id layer settled old new before launch h reuse =
          reused_there contents.digest settled old new before (h (launch tt)) reuse
      settled_there table.NoContents id layer settled old new before launch h (same, is, cause) = absurd (cc)
      settled_there table.NoPrevious id layer settled old new before launch h (same, is, cause) = absurd (cc)

  -- ---- what is kept of a layer

  abbrev KeptThere : Option Kept → Tree → Type 0
  KeptThere kept files = IfSome kept (λ k. IfSome k.reused (λ how. IsThere files how k.row.digest))

  kept_there : (id layer : List ℕ) (flags : Flags) (meta : Meta) (cached : Bool) (settled : Option Settled)
      (files : Tree) → SettledThere settled files → KeptThere (kept_of id layer flags meta cached settled) files
  kept_there id layer flags meta cached None files h = tt
  kept_there id layer flags meta cached (Some settled) files h = h

  with_there : (gathered : Gathered) (kept : Option Kept) (files : Tree) → LayersThere files gathered.layers
      → KeptThere kept files → LayersThere files (with_kept gathered kept).layers
  with_there gathered None files all h = all
  with_there gathered (Some kept) files all h = by gathered.layers kept.row kept.reused all h
    where
      by : (layers : List ImageLayer) (row : LayerRow) (reused : Option Bool) → LayersThere files layers
          → IfSome reused (λ how. IsThere files how row.digest) → LayersThere files (with_image layers row reused)
      by layers row None all h = all
      by layers row (Some reused) all h = all_more (λ layer. IsThere files layer.reused layer.row.digest) layers
          (record { row = row; reused = reused }) all h

  module _ (previous : List LayerRow) (valid : AllByRecursion (λ row. is_digest row.digest ≡ true) previous) where
    documented_there : (id folder layer : List ℕ) (doc : LayerDoc) (kept : Option Kept) (old new : Seen)
        (before : Went store a old) → is_within top folder ≡ true
        → keeps_documented store previous id folder layer doc old (Ok kept) new
        → Comes old before (KeptThere kept) new
    unfolding keeps_documented ◌>>=◌ gives
    documented_there id folder layer doc kept old new before within
        (contents, m1, find, (settled, m2, settle, (same, is, cause))) =
        let found = contents_found folder layer (flags_of doc) contents old m1 before within find in
        let row = row_of previous id layer in
        let flags = flags_of doc in
        let comes = settled_there flags contents row (find_holds (λ row. is_digest row.digest ≡ true) _ previous valid)
        (decision_of flags contents row) id layer settled m1 m2 found.went
        (launched flags.launch flags.cache contents.there (is_some row) (is_equal contents.digest row)
        (decision_of flags contents row) refl) found.is settle in
        let e : kept_of id layer flags doc.meta (is_cached flags contents) settled ≡ kept = cc in
        record {
          went = went_read store a m2 new (ap (λ (s : Seen). s.files) same) comes.went;
          on = grows_on store before.files found.went.files comes.went.files found.on comes.on;
          is = subst (λ k. KeptThere k comes.went.files) e
              (kept_there id layer flags doc.meta (is_cached flags contents) settled comes.went.files comes.is);
        }

    found_there : (id folder layer : List ℕ) (doc : Option LayerDoc) (kept : Option Kept) (old new : Seen)
        (before : Went store a old) → is_within top folder ≡ true
        → keeps_found store previous id folder layer doc old (Ok kept) new
        → Comes old before (KeptThere kept) new
    unfolding yields
    found_there id folder layer None kept old new before within (is, same) =
        read_comes old new before (KeptThere kept) (ap (λ (s : Seen). s.files) same)
        (subst (λ k. KeptThere k before.files) (sym is) tt)
    found_there id folder layer (Some doc) kept old new before within h =
        documented_there id folder layer doc kept old new before within h

    layer_there : (id folder layer : List ℕ) (gathered all : Gathered) (old new : Seen) (before : Went store a old)
        → is_within top folder ≡ true → LayersThere before.files gathered.layers
        → exports_layer store previous id folder layer gathered old (Ok all) new
        → Comes old before (λ files. LayersThere files all.layers) new
    unfolding exports_layer keeps_layer ◌>>=◌ gives
    layer_there id folder layer gathered all old new before within there
        (kept, m1, (path, m2, (s1, at, c1), (doc, m3, read, found)), (same, is, cause)) =
        let quiet : m3.files ≡ old.files = layer_reading path m2 m3 doc read ∙ ap (λ (s : Seen). s.files) s1 in
        let comes = found_there id folder layer doc kept m3 m1 (went_read store a old m3 quiet before) within found in
        let e : with_kept gathered kept ≡ all = cc in
        record {
          went = went_read store a m1 new (ap (λ (s : Seen). s.files) same) comes.went;
          on = comes.on;
          is = subst (λ (g : Gathered). LayersThere comes.went.files g.layers) e
              (with_there gathered kept comes.went.files
              (layers_still before.files comes.went.files gathered.layers comes.on there) comes.is);
        }

    layers_there : (id folder : List ℕ) (names : List (List ℕ)) (gathered all : Gathered) (old new : Seen)
        (before : Went store a old) → is_within top folder ≡ true → LayersThere before.files gathered.layers
        → for_each (exports_layer store previous id folder) names gathered old (Ok all) new
        → Comes old before (λ files. LayersThere files all.layers) new
    unfolding for_each ◌>>=◌ yields
    layers_there id folder [] gathered all old new before within there (is, same) =
        read_comes old new before (λ files. LayersThere files all.layers) (ap (λ (s : Seen). s.files) same)
        (subst (λ (g : Gathered). LayersThere before.files g.layers) (sym is) there)
    layers_there id folder (name ∷ names) gathered all old new before within there (more, mid, one, later) =
        let first = layer_there id folder name gathered more old mid before within there one in
        let rest = layers_there id folder names more all mid new first.went within first.is later in
        record {
          went = rest.went;
          on = grows_on store before.files first.went.files rest.went.files first.on rest.on;
          is = rest.is;
        }

    -- ---- a buildpack, and a group

    buildpack_there : (frame : ExportFrame) (row : GroupRow) (gathered all : Gathered) (old new : Seen)
        (before : Went store a old) → frame.store ≡ store → frame.layers ≡ top
        → LayersThere before.files gathered.layers
        → exports_buildpack frame previous row gathered old (Ok all) new
        → Comes old before (λ files. LayersThere files all.layers) new
    unfolding exports_buildpack exports_documents exports_store_document exports_layers ◌>>=◌ gives
    buildpack_there frame row gathered all old new before at under there (
      folder,
      m1,
      (s1, is1, c1),
      (
        documents,
        m2,
        (launch, m3, rl, (slices, m4, rp, (store_document, m5, rs, (s2, is2, c2)))),
        (names, m6, listed, layers),
      ),
    ) =
        let quiet : m6.files ≡ old.files = names_reading folder m2 m6 names listed
        ∙ ap (λ (s : Seen). s.files) s2 ∙ store_reading folder m4 m5 store_document rs
        ∙ slices_reading row.key.id launch.slices m3 m4 slices rp ∙ launch_reading folder row.key.id m1 m3 launch rl
        ∙ ap (λ (s : Seen). s.files) s1 in
        let e : with_documents gathered row.key.id launch slices store_document ≡ documents = cc in
        let folder_is : layers_folder frame.layers row.key.id ≡ folder = cc in
        let same : documents.layers ≡ gathered.layers = ap (λ (g : Gathered). g.layers) (sym e) in
        let comes = layers_there row.key.id folder names documents all m6 new (went_read store a old m6 quiet before)
        (subst (λ p. is_within top p ≡ true) (ap (λ l. layers_folder l row.key.id) (sym under) ∙ folder_is)
        (within_deeper top top (folder_of row.key.id) (within_itself top)))
        (subst (LayersThere before.files) (sym same) there)
        (subst (λ s. for_each (exports_layer s previous row.key.id folder) names documents m6 (Ok all) new) at layers)
        in
        record { went = comes.went; on = comes.on; is = comes.is }

    each_there : (frame : ExportFrame) (group : List GroupRow) (gathered all : Gathered) (old new : Seen)
        (before : Went store a old) → frame.store ≡ store → frame.layers ≡ top
        → LayersThere before.files gathered.layers
        → for_each (exports_buildpack frame previous) group gathered old (Ok all) new
        → Comes old before (λ files. LayersThere files all.layers) new
    unfolding for_each ◌>>=◌ yields
    each_there frame [] gathered all old new before at under there (is, same) =
        read_comes old new before (λ files. LayersThere files all.layers) (ap (λ (s : Seen). s.files) same)
        (subst (λ (g : Gathered). LayersThere before.files g.layers) (sym is) there)
    each_there frame (row ∷ group) gathered all old new before at under there (more, mid, one, later) =
        let first = buildpack_there frame row gathered more old mid before at under there one in
        let rest = each_there frame group more all mid new first.went at under first.is later in
        record {
          went = rest.went;
          on = grows_on store before.files first.went.files rest.went.files first.on rest.on;
          is = rest.is;
        }

    pub group_there : (frame : ExportFrame) (group : List GroupRow) (all : Gathered) (old new : Seen)
        (before : Went store a old) → frame.store ≡ store → frame.layers ≡ top
        → exports_group frame previous group old (Ok all) new
        → Comes old before (λ files. LayersThere files all.layers) new
    group_there frame group all old new before at under h =
        each_there frame group nothing_gathered all old new before at under tt h
