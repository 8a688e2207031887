-- What a restoration leaves, by its steps.
use Rattle.std.proofs.Common.{◌≡◌, ◌∙◌, refl, sym, ap, subst, ℕ, Bool, true, false, cond, List, [], ◌∷◌, ◌++◌, codes}
use Rattle.std.proofs.Common.{◌⊎◌, flat_map, fold, map, Option, Some, None, Result, Ok, Err, inl, inr}
use Rattle.std.proofs.lemmas.List.Sums.{fold-append}
use Rattle.std.specs.List.{AllByRecursion, cons_option, filter_map}
use Rattle.std.specs.Option.{option_map}
use Rattle.std.specs.Prelude.{IfOk, IsTrue}
use Rattle.std.specs.Str.{bytes_eq}
use Rattle.cnb_world.proofs.Folders.{folder_stands}
use Rattle.cnb_world.specs.Path.{is_part, joined}
use Rattle.cnb_toml.specs.Names.{folder_of}
use Rattle.cnb_world.specs.Tree.{Tree, folder_made, is_folder, is_within, item_at, without}
use Rattle.cnb_world.specs.Whole.{written}
use Rattle.cnb_world.specs.declared.world.Item.{Item}
use Rattle.image_docs.specs.declared.image.ImageDoc.{ImageDoc}
use Rattle.image_docs.specs.declared.layer_row.LayerRow.{LayerRow}
use Rattle.image_docs.specs.declared.store_row.StoreRow.{StoreRow}
use Rattle.image_files.specs.Paths.{document_name}
use Rattle.layer_flags.specs.declared.restore.RestoreRow.{RestoreRow}
use Rattle.layer_flags.specs.declared.restore.RestoreRow.TheVariants as line
use Rattle.layer_paths.specs.Paths.{layers_folder}
use Rattle.run_docs.specs.declared.group.GroupRow.{GroupRow}
use Rattle.shelf_set.specs.CacheSteps.{gathers}
use Rattle.shelf_set.specs.Caches.{Caches, WorldAndCaches, in_caches, in_world}
use Rattle.shelf_set.specs.Finding.{Finds, InCaches, Whole, Missing, Broken}
use Rattle.shelf_set.specs.Gathering.{Gathers}
use Rattle.shelf_set.specs.Restoring.{HasFolder, IsChanged, LaysFiles, answer_of, restores_tree}
use Rattle.shelf_set.specs.declared.restoring.Found.{Found}
use Rattle.shelf_set.specs.declared.restoring.Found.TheVariants as found
use Rattle.shelf_set.specs.declared.restoring.Search.{Search}
use Rattle.steps.specs.Each.{for_each}
use Rattle.steps.specs.Outside.{Seen}
use Rattle.steps.specs.Steps.{◌>>=◌, gives, makes_folder, map_err, reads, removes, writes, yields}
use Rattle.tree_store.specs.Overlay.{tree_laid}
use Rattle.cnb_restore.specs.declared.fault.RestoreFault.{RestoreFault}
use Rattle.cnb_restore.specs.declared.restored.Restored.{Restored}
use Rattle.cnb_restore.specs.declared.sources.Sources.{Sources}
use Rattle.cnb_restore.specs.Analyzes.{OnlyImage, is_fit_image, previous_in}
use Rattle.cnb_restore.specs.Faults.{cause_of}
use Rattle.cnb_restore.specs.Images.{kept_for, layers_of, store_of}
use Rattle.cnb_restore.specs.Layers.{ReadsAsLayer, writes_layer, writes_store}
use Rattle.cnb_restore.specs.Restored.{after_search, with_layer}
use Rattle.cnb_restore.specs.RestoredFiles.{AreLeft, CacheSearch, HasStore, IsSound, Layer, LeavesRestored, Part}
use Rattle.cnb_restore.specs.RestoredFiles.{Restoration}
use Rattle.cnb_restore.specs.RestoredFiles.{RestoresEach, RestoresOne, Searched, Wanted, Contents, Metadata, digests_of}
use Rattle.cnb_restore.specs.RestoredFiles.{layer, layers_found, told_layer, told_search, wanted_by}
use Rattle.cnb_restore.specs.RestoredFiles.{wanted_layer, wanted_of, with_buildpack, with_buildpacks, with_contents}
use Rattle.cnb_restore.specs.RestoredFiles.{with_document, with_folder, with_part, with_parts, with_store}
use Rattle.cnb_restore.specs.Restores.{prepares_folder, restores_buildpack, restores_contents}
use Rattle.cnb_restore.specs.Restores.{restores_document, restores_each, restores_found, restores_group, restores_held}
use Rattle.cnb_restore.specs.Restores.{restores_layer, restores_layers, restores_part, restores_rows}
use Rattle.cnb_restore.specs.RestoresFrom.{HavePartNames, gathers_named, restores_from, restores_named}
use Rattle.cnb_restore.specs.Rows.{restored_part, row_of, rows_of, source_of}
use Rattle.cnb_restore.proofs.FilesLemmas.{get-anew, get-laid, get-written, left_by, left_same, left_so, left_then}
use Rattle.cnb_restore.proofs.FilesLemmas.{parts_outside, store_outside}
use Rattle.cnb_restore.proofs.FolderLemmas.{IsThere, KeepsFolder, document_keeps, parent_below, some_folder}
use Rattle.cnb_restore.proofs.FolderLemmas.{there_around, there_left, untold_around}

ok_is : {A E : Type 0} (a b : A) → (let r : Result A E = Ok a in r) ≡ Ok b → b ≡ a
ok_is a b h = cc

-- ---- what is told

search_later : (layer : Layer) (searches : List CacheSearch) (restored : Restored)
    → fold told_search (told_layer restored layer) searches ≡ told_layer (fold told_search restored searches) layer
search_later layer [] restored = refl
search_later layer (search ∷ searches) restored = search_later layer searches (told_search restored search)

searches_later : (layers : List Layer) (searches : List CacheSearch) (restored : Restored)
    → fold told_search (fold told_layer restored layers) searches
    ≡ fold told_layer (fold told_search restored searches) layers
searches_later [] searches restored = refl
searches_later (layer ∷ layers) searches restored = searches_later layers searches (told_layer restored layer)
    ∙ ap (λ told. fold told_layer told layers) (search_later layer searches restored)

-- ---- what is written

document_left : (path : List ℕ) (Says : List ℕ → Type 0) (old new : Seen)
    → writes cause_of path Says old (Ok tt) new
    → (bytes : List ℕ) × Says bytes × AreLeft (with_document path bytes) old.files new.files
unfolding writes
document_left path Says old new h = (
  h.bytes,
  h.says,
  left_by (with_document path h.bytes) (written path h.bytes) old.files new.files
      (λ files q. get-written path h.bytes q files) h.files,
)

layer_left : (folder : List ℕ) (row : LayerRow) (old new : Seen) → writes_layer folder row old (Ok tt) new
    → (bytes : List ℕ) × ReadsAsLayer row.meta bytes
    × AreLeft (with_document (joined folder (document_name row.layer)) bytes) old.files new.files
unfolding writes_layer
layer_left folder row old new h = document_left _ _ old new h

store_left : (folder : List ℕ) (row : Option StoreRow) (old new : Seen) → writes_store folder row old (Ok tt) new
    → (store : Option (List ℕ)) × HasStore row store × AreLeft (with_store folder store) old.files new.files
unfolding writes_store yields
store_left folder None old new h = (None, tt, left_same old.files new.files (ap (λ (s : Seen). s.files) h.1))
store_left folder (Some row) old new h = let (bytes, says, left) = document_left _ _ old new h
    in (Some bytes, says, left)

store_keeps : (folder : List ℕ) (store : Option (List ℕ)) → KeepsFolder folder (with_store folder store)
store_keeps folder None old plain was = was
store_keeps folder (Some bytes) old plain was = document_keeps folder (codes "store.toml") bytes old plain was

-- a buildpack's folder, where nothing stands, and the same with what the previous image keeps
abbrev emptied : List ℕ → List ℕ → Option Item → Option Item
emptied folder q old = with_folder folder q (cond (is_within folder q) None old)

abbrev anew : List ℕ → Option (List ℕ) → List ℕ → Option Item → Option Item
anew folder store q old = with_store folder store q (emptied folder q old)

-- it is made, and is there
record Prepared (folder id : List ℕ) (kept : List StoreRow) (old new : Seen) : Type 0 where
  store : Option (List ℕ)
  has : HasStore (kept_for id kept) store
  files : AreLeft (anew folder store) old.files new.files
  there : IsThere folder new.files

folder_left : (folder id : List ℕ) (kept : List StoreRow) (old new : Seen)
    → prepares_folder folder id kept old (Ok tt) new → Prepared folder id kept old new
unfolding prepares_folder ◌>>=◌ removes makes_folder
folder_left folder id kept old new (removed, a, first, (made, b, second, last)) =
    let (store, has, left) = store_left folder (kept_for id kept) b new last in record {
      store = store;
      has = has;
      files = left_then (emptied folder) (with_store folder store) old.files b.files new.files
          (left_by (emptied folder) (λ files. folder_made folder (without folder files)) old.files b.files
          (get-anew folder)
          (second.0.files ∙ ap (option_map (folder_made folder)) first.0.files ∙ both old.files)) left;
      there = there_left folder (with_store folder store) b.files new.files (store_keeps folder store) left
          (subst (IsThere folder) (sym second.0.files) (stands a.files));
    }
  where
    both : (o : Option Tree) → option_map (folder_made folder) (option_map (without folder) o)
        ≡ option_map (λ files. folder_made folder (without folder files)) o
    both None = refl
    both (Some files) = refl

    stands : (o : Option Tree) → IsThere folder (option_map (folder_made folder) o)
    stands None = tt
    stands (Some files) = folder_stands folder files

-- ---- layers

-- layers that are wanted were restored, in order
record Layers (folder : List ℕ) (wanted : List Wanted) (restored : Restored) (old : WorldAndCaches)
    (told : Restored) (new : WorldAndCaches) : Type 0 where
  searches : List CacheSearch
  parts : List Part
  searched : Searched (digests_of wanted) old.caches searches new.caches
  sound : AllByRecursion (λ search. IsSound search.found) searches
  layers : map (λ part. part.layer) parts ≡ layers_found wanted searches
  documents : AllByRecursion (λ part. ReadsAsLayer part.layer.row.meta part.document) parts
  told_is : told ≡ fold told_layer (fold told_search restored searches) (map (λ part. part.layer) parts)
  files : IsThere folder old.world.files → AreLeft (with_parts folder parts) old.world.files new.world.files

no_layers : (folder : List ℕ) (restored : Restored) (old : WorldAndCaches) (told : Restored) (new : WorldAndCaches)
    → yields {E = RestoreFault} restored old (Ok told) new → Layers folder [] restored old told new
unfolding yields
no_layers folder restored old told new h = record {
  searches = [];
  parts = [];
  searched = ap (λ (s : WorldAndCaches). s.caches) h.1;
  sound = tt;
  layers = refl;
  documents = tt;
  told_is = h.0;
  files = λ there. left_same old.world.files new.world.files (ap (λ (s : WorldAndCaches). s.world.files) h.1);
}

-- nothing of a layer, before other layers
passed : (folder : List ℕ) (wanted : List Wanted) (restored : Restored) (old mid new : WorldAndCaches)
    (more told : Restored) → yields {E = RestoreFault} restored old (Ok more) mid
    → Layers folder wanted more mid told new → Layers folder wanted restored old told new
unfolding yields
passed folder wanted restored old mid new more told h rest =
    subst (λ r. Layers folder wanted r old told new) h.0 (subst (λ s. Layers folder wanted more s told new) h.1 rest)

-- a document was written
record Documented (folder : List ℕ) (row : LayerRow) (contents : Bool) (restored : Restored) (old : WorldAndCaches)
    (told : Restored) (new : WorldAndCaches) : Type 0 where
  bytes : List ℕ
  says : ReadsAsLayer row.meta bytes
  caches : new.caches ≡ old.caches
  told_is : told ≡ with_layer row contents restored
  there : IsThere folder old.world.files → IsThere folder new.world.files
  files : AreLeft (with_document (joined folder (document_name row.layer)) bytes) old.world.files new.world.files

documented : (folder : List ℕ) (row : LayerRow) (contents : Bool) (restored : Restored) (old : WorldAndCaches)
    (told : Restored) (new : WorldAndCaches) → restores_document folder row contents restored old (Ok told) new
    → Documented folder row contents restored old told new
unfolding restores_document ◌>>=◌ in_world gives
documented folder row contents restored old told new (done, mid, wrote, given) =
    let (bytes, says, left) = layer_left folder row old.world mid.world wrote.0 in
    let found : List ℕ → Option Item → Option Item = with_document (joined folder (document_name row.layer)) bytes in
    let files : AreLeft found old.world.files new.world.files = subst (λ (s : WorldAndCaches). AreLeft found
    old.world.files s.world.files) (sym given.0) left in
    record {
      bytes = bytes;
      says = says;
      caches = ap (λ (s : WorldAndCaches). s.caches) given.0 ∙ wrote.1;
      told_is = ok_is _ told given.1;
      there = there_left folder found old.world.files new.world.files
          (document_keeps folder (document_name row.layer) bytes) files;
      files = files;
    }

-- a layer's metadata, before other layers
metadata_first : (folder : List ℕ) (row : LayerRow) (wanted : List Wanted) (restored : Restored)
    (old mid new : WorldAndCaches) (more told : Restored)
    → restores_document folder row false restored old (Ok more) mid → Layers folder wanted more mid told new
    → Layers folder (Metadata row ∷ wanted) restored old told new
metadata_first folder row wanted restored old mid new more told h rest =
    let first = documented folder row false restored old more mid h in
    let part : Part = record { layer = layer row None; document = first.bytes } in
    record {
      searches = rest.searches;
      parts = part ∷ rest.parts;
      searched = subst (λ caches. Searched (digests_of wanted) caches rest.searches new.caches) first.caches
          rest.searched;
      sound = rest.sound;
      layers = ap (λ layers. layer row None ∷ layers) rest.layers;
      documents = (first.says, rest.documents);
      told_is = rest.told_is ∙ ap (λ r. fold told_layer (fold told_search r rest.searches)
          (map (λ p. p.layer) rest.parts)) first.told_is
          ∙ ap (λ r. fold told_layer r (map (λ p. p.layer) rest.parts))
          (search_later (layer row None) rest.searches restored);
      files = λ there. left_then (with_part folder part) (with_parts folder rest.parts) old.world.files
          mid.world.files new.world.files first.files (rest.files (first.there there));
    }

-- what caches hold, laid over what stood there
abbrev with_held : List ℕ → InCaches → List ℕ → Option Item → Option Item
with_held root Missing q old = old
with_held root (Broken asked is bad) q old = old
with_held root (Whole tree) q old = with_contents root (Some tree) q old

laid_left : (root : List ℕ) (held : InCaches) (old new : Option Tree) → LaysFiles root held old new
    → AreLeft (with_held root held) old new
laid_left root (Whole tree) old new h = left_by (with_contents root (Some tree)) (tree_laid root (codes "/") tree)
    old new (get-laid root tree) h
laid_left root Missing old new h = left_same old new h
laid_left root (Broken asked is bad) old new h = left_same old new h

-- a row's layer has a name that is a part of a path
abbrev HasPartName : LayerRow → Type 0
HasPartName row = IsTrue (is_part row.layer)

abbrev HasNameWhere : Option LayerRow → Type 0
HasNameWhere None = Unit {0}
HasNameWhere (Some row) = HasPartName row

-- caches were searched for a layer's contents, and what they have was laid, where that is answered
record Looked (folder : List ℕ) (row : LayerRow) (search : Search) (held : InCaches) (old new : WorldAndCaches)
    : Type 0 where
  finds : Finds old.caches.shelves old.caches.standing row.digest held new.caches.shelves new.caches.standing
      search.gone
  there : IsThere folder old.world.files → IsThere folder new.world.files
  files : search.found ≡ answer_of held → IsThere folder old.world.files
      → AreLeft (with_held (joined folder row.layer) held) old.world.files new.world.files

looked : (folder : List ℕ) (row : LayerRow) (search : Search) (old new : WorldAndCaches)
    → bytes_eq folder [] ≡ false → HasPartName row → restores_held folder row old (Ok search) new
    → (held : InCaches) × ((search.found ≡ answer_of held) ⊎ IsChanged search.found)
    × Looked folder row search held old new
unfolding map_err restores_tree
looked folder row search old new some part h = (
  h.by.0,
  h.by.2,
  record {
    finds = h.by.1;
    there = there_around folder row.layer old.world.files new.world.files part h.around.files;
    files = λ answer there. at answer old.world.files refl there;
  },
)
  where
    root : List ℕ
    root = joined folder row.layer

    at : search.found ≡ answer_of h.by.0 → (o : Option Tree) → old.world.files ≡ o → IsThere folder o
        → AreLeft (with_held root h.by.0) o new.world.files
    at answer None is there = untold_around root old.world.files new.world.files h.around.files is
    at answer (Some files) is there = subst (λ (o : Option Tree). AreLeft (with_held root h.by.0) o new.world.files) is
        (laid_left root h.by.0 old.world.files new.world.files (h.by.3
        (subst (HasFolder root) (sym is) (subst (λ p. is_folder (item_at files p) ≡ true)
        (sym (parent_below folder row.layer some part)) there)) answer))

-- a layer that caches were searched for, before other layers
found_first : (folder : List ℕ) (row : LayerRow) (wanted : List Wanted) (restored : Restored) (search : Search)
    (held : InCaches) (old a mid new : WorldAndCaches) (more told : Restored)
    → Looked folder row search held old a → search.found ≡ answer_of held
    → restores_found folder row (after_search search.gone restored) (answer_of held) a (Ok more) mid
    → Layers folder wanted more mid told new → Layers folder (Contents row ∷ wanted) restored old told new
unfolding restores_found gives yields
found_first folder row wanted restored search Missing old a mid new more told was is h rest = record {
  searches = record { found = Missing; gone = search.gone } ∷ rest.searches;
  parts = rest.parts;
  searched = (
    a.caches,
    was.finds,
    subst (λ (s : WorldAndCaches). Searched (digests_of wanted) s.caches rest.searches new.caches) h.1 rest.searched,
  );
  sound = (tt, rest.sound);
  layers = rest.layers;
  documents = rest.documents;
  told_is = rest.told_is ∙ ap (λ r. fold told_layer (fold told_search r rest.searches)
      (map (λ part. part.layer) rest.parts)) h.0;
  files = λ there. left_then (λ q found. found) (with_parts folder rest.parts) old.world.files a.world.files
      new.world.files (was.files is there)
      (subst (λ (o : Option Tree). AreLeft (with_parts folder rest.parts) o new.world.files)
      (ap (λ (s : WorldAndCaches). s.world.files) h.1)
      (rest.files (subst (λ (s : WorldAndCaches). IsThere folder s.world.files) (sym h.1) (was.there there))));
}
found_first folder row wanted restored search (Broken asked digest bad) old a mid new more told was is h rest = absurd
    (let no : _ ≡ _ = h.1 in cc)
found_first folder row wanted restored search (Whole tree) old a mid new more told was is wrote rest =
    let counted : Restored = after_search search.gone restored in
    let first = documented folder row true counted a more mid wrote in
    let part : Part = record { layer = layer row (Some tree); document = first.bytes } in
    record {
      searches = record { found = Whole tree; gone = search.gone } ∷ rest.searches;
      parts = part ∷ rest.parts;
      searched = (
        a.caches,
        was.finds,
        subst (λ caches. Searched (digests_of wanted) caches rest.searches new.caches) first.caches rest.searched,
      );
      sound = (tt, rest.sound);
      layers = ap (λ layers. layer row (Some tree) ∷ layers) rest.layers;
      documents = (first.says, rest.documents);
      told_is = rest.told_is ∙ ap (λ r. fold told_layer (fold told_search r rest.searches)
          (map (λ p. p.layer) rest.parts)) first.told_is
          ∙ ap (λ r. fold told_layer r (map (λ p. p.layer) rest.parts))
          (search_later (layer row (Some tree)) rest.searches counted);
      files = λ there. left_then (with_part folder part) (with_parts folder rest.parts) old.world.files
          mid.world.files new.world.files
          (left_then (with_contents (joined folder row.layer) (Some tree))
          (with_document (joined folder (document_name row.layer)) first.bytes) old.world.files a.world.files
          mid.world.files (was.files is there) first.files)
          (rest.files (first.there (was.there there)));
    }

-- bytes that changed are damaged, and end a restoration
unchanged : (folder : List ℕ) (row : LayerRow) (restored : Restored) (found : Found) (old new : WorldAndCaches)
    (more : Restored) → restores_found folder row restored found old (Ok more) new → IsChanged found → ⊥
unfolding restores_found gives
unchanged folder row restored found.Laid old new more h changed = changed
unchanged folder row restored found.None old new more h changed = changed
unchanged folder row restored (found.Damaged asked is bad) old new more h changed = let no : _ ≡ _ = h.1 in cc

contents_first : (folder : List ℕ) (row : LayerRow) (wanted : List Wanted) (restored : Restored)
    (old mid new : WorldAndCaches) (more told : Restored) → bytes_eq folder [] ≡ false → HasPartName row
    → restores_contents folder row restored old (Ok more) mid
    → Layers folder wanted more mid told new → Layers folder (Contents row ∷ wanted) restored old told new
unfolding restores_contents ◌>>=◌ gives
contents_first folder row wanted restored old mid new more told some part
    (search, a, searched, (counted, b, given, last)) rest =
    let (held, is, was) = looked folder row search old a some part searched in
    let restores : restores_found folder row (after_search search.gone restored) search.found a (Ok more) mid = subst
    (λ r. restores_found folder row r search.found a (Ok more) mid) (ok_is _ counted given.1)
    (subst (λ s. restores_found folder row counted search.found s (Ok more) mid) given.0 last) in
    by held was restores is
  where
    by : (held : InCaches) → Looked folder row search held old a
        → restores_found folder row (after_search search.gone restored) search.found a (Ok more) mid
        → (search.found ≡ answer_of held) ⊎ IsChanged search.found
        → Layers folder (Contents row ∷ wanted) restored old told new
    by held was h (inl is) = found_first folder row wanted restored search held old a mid new more told was is
        (subst (λ found. restores_found folder row (after_search search.gone restored) found a (Ok more) mid) is h)
        rest
    by held was h (inr changed) = absurd (unchanged folder row (after_search search.gone restored) search.found a mid
        more h changed)

-- a layer by its line of the table, before other layers
part_first : (folder : List ℕ) (source : Option LayerRow) (part : RestoreRow) (wanted : List Wanted)
    (restored : Restored) (old mid new : WorldAndCaches) (more told : Restored)
    → bytes_eq folder [] ≡ false → HasNameWhere source
    → restores_part folder source part restored old (Ok more) mid → Layers folder wanted more mid told new
    → Layers folder (cons_option (wanted_by source part) wanted) restored old told new
unfolding restores_part yields
part_first folder None part wanted restored old mid new more told some named h rest = passed folder wanted restored old
    mid new more told h rest
part_first folder (Some row) line.Nothing wanted restored old mid new more told some named h rest = passed folder wanted
    restored old mid new more told h rest
part_first folder (Some row) line.Meta wanted restored old mid new more told some named h rest = metadata_first folder
    row wanted restored old mid new more told h rest
part_first folder (Some row) line.Both wanted restored old mid new more told some named h rest = contents_first folder
    row wanted restored old mid new more told some named h rest

named_among : (name : List ℕ) (rows : List LayerRow) → HavePartNames rows → HasNameWhere (row_of name rows)
named_among name [] named = tt
named_among name (row ∷ rows) named = by (bytes_eq row.layer name) (named_among name rows named.1)
  where
    by : (v : Bool) → HasNameWhere (row_of name rows) → HasNameWhere (cond v (Some row) (row_of name rows))
    by true later = named.0
    by false later = later

named_source : (app cache : Option LayerRow) → HasNameWhere app → HasNameWhere cache
    → HasNameWhere (source_of app cache)
named_source None cache a c = c
named_source (Some row) cache a c = by row.flags.launch
  where
    by : (v : Bool) → HasNameWhere (cond v (Some row) cache)
    by true = a
    by false = c

named_of : (id : List ℕ) (rows : List LayerRow) → HavePartNames rows → HavePartNames (rows_of id rows)
named_of id [] named = tt
named_of id (row ∷ rows) named = by (bytes_eq row.id id) (named_of id rows named.1)
  where
    by : (v : Bool) → HavePartNames (rows_of id rows) → HavePartNames (cond v (row ∷ rows_of id rows) (rows_of id rows))
    by true later = (named.0, later)
    by false later = later

each_layer : (folder : List ℕ) (app cache : List LayerRow) (names : List (List ℕ)) (restored : Restored)
    (old : WorldAndCaches) (told : Restored) (new : WorldAndCaches)
    → bytes_eq folder [] ≡ false → HavePartNames app → HavePartNames cache
    → for_each (restores_layer folder app cache) names restored old (Ok told) new
    → Layers folder (filter_map (wanted_layer app cache) names) restored old told new
unfolding for_each restores_layer ◌>>=◌
each_layer folder app cache [] restored old told new some a c h = no_layers folder restored old told new h
each_layer folder app cache (name ∷ names) restored old told new some a c (more, mid, h, rest) =
    part_first folder (source_of (row_of name app) (row_of name cache))
    (restored_part (row_of name app) (row_of name cache)) (filter_map (wanted_layer app cache) names)
    restored old mid new more told some
    (named_source (row_of name app) (row_of name cache) (named_among name app a) (named_among name cache c)) h
    (each_layer folder app cache names more mid told new some a c rest)

-- the rows of the previous image and of the caches
abbrev AreNamed : Sources → Type 0
AreNamed sources = HavePartNames (layers_of sources.previous) × HavePartNames sources.rows

rows_left : (folder : List ℕ) (sources : Sources) (id : List ℕ) (restored : Restored) (old : WorldAndCaches)
    (told : Restored) (new : WorldAndCaches) → bytes_eq folder [] ≡ false → AreNamed sources
    → restores_rows folder sources id restored old (Ok told) new
    → Layers folder (wanted_of sources id) restored old told new
unfolding restores_rows restores_layers restores_each ◌>>=◌ gives
rows_left folder sources id restored old told new some named (made, a, first, (again, b, second, rest)) =
    subst (λ (s : WorldAndCaches). Layers folder (wanted_of sources id) restored s told new) (second.0 ∙ first.0)
    (each_layer folder _ _ _ restored b told new some (named_of id (layers_of sources.previous) named.0)
    (named_of id sources.rows named.1) rest)

-- ---- buildpacks

-- the parts of a folder that is made anew are those of the buildpack, and change nothing elsewhere
buildpack_is : (one : Restoration) (q : List ℕ) (old : Option Item)
    → with_parts one.folder one.parts q (anew one.folder one.store q old) ≡ with_buildpack one q old
buildpack_is one q old = by (is_within one.folder q) refl
  where
    inside : Option Item
    inside = with_parts one.folder one.parts q (with_store one.folder one.store q (with_folder one.folder q None))

    by : (v : Bool) → is_within one.folder q ≡ v
        → with_parts one.folder one.parts q (anew one.folder one.store q old) ≡ with_buildpack one q old
    by true e = ap (λ v. with_parts one.folder one.parts q (with_store one.folder one.store q
        (with_folder one.folder q (cond v None old)))) e
        ∙ sym (ap (λ v. cond v inside (with_folder one.folder q old)) e)
    by false e = ap (λ v. with_parts one.folder one.parts q (with_store one.folder one.store q
        (with_folder one.folder q (cond v None old)))) e
        ∙ ap (with_parts one.folder one.parts q) (store_outside one.folder q e one.store old)
        ∙ parts_outside one.folder q e one.parts old
        ∙ sym (ap (λ v. cond v inside (with_folder one.folder q old)) e)

abbrev told_from : Restored → List CacheSearch → List Layer → Restored
told_from restored searches layers = fold told_layer (fold told_search restored searches) layers

abbrev layers_of_parts : Restoration → List Layer
layers_of_parts one = map (λ part. part.layer) one.parts

-- a buildpack was restored
record Left (layers : List ℕ) (sources : Sources) (id : List ℕ) (restored : Restored) (old : WorldAndCaches)
    (told : Restored) (new : WorldAndCaches) : Type 0 where
  one : Restoration
  is : RestoresOne layers sources id old.caches one new.caches
  told_is : told ≡ told_from restored one.searches (layers_of_parts one)
  files : AreLeft (with_buildpack one) old.world.files new.world.files

buildpack_left : (layers : List ℕ) (sources : Sources) (id : List ℕ) (restored : Restored) (old : WorldAndCaches)
    (told : Restored) (new : WorldAndCaches) → AreNamed sources
    → restores_buildpack layers sources id restored old (Ok told) new
    → Left layers sources id restored old told new
unfolding restores_buildpack ◌>>=◌ in_world
buildpack_left layers sources id restored old told new named (prepared, mid, first, last) =
    let folder : List ℕ = layers_folder layers id in
    let made = folder_left folder id (store_of sources.previous) old.world mid.world first.0 in
    let rows = rows_left folder sources id restored mid told new (some_folder layers (folder_of id)) named last in
    let one : Restoration = record {
      folder = folder;
      store = made.store;
      searches = rows.searches;
      parts = rows.parts;
    } in
    record {
      one = one;
      is = record {
        folder = refl;
        store = made.has;
        searched = subst (λ caches. Searched (digests_of (wanted_of sources id)) caches rows.searches new.caches)
            first.1 rows.searched;
        sound = rows.sound;
        parts = rows.layers;
        documents = rows.documents;
      };
      told_is = rows.told_is;
      files = left_so (λ q found. with_parts folder rows.parts q (anew folder made.store q found))
          (with_buildpack one) old.world.files new.world.files (buildpack_is one)
          (left_then (anew folder made.store) (with_parts folder rows.parts) old.world.files mid.world.files
          new.world.files made.files (rows.files made.there));
    }

told_on : (restored : Restored) (s more : List CacheSearch) (l others : List Layer)
    → told_from (told_from restored s l) more others ≡ told_from restored (s ++ more) (l ++ others)
told_on restored s more l others =
    ap (λ told. fold told_layer told others) (searches_later l more (fold told_search restored s)
    ∙ ap (λ told. fold told_layer told l) (sym (fold-append told_search restored s more)))
    ∙ sym (fold-append told_layer (fold told_search restored (s ++ more)) l others)

-- buildpacks were restored
record AllLeft (layers : List ℕ) (sources : Sources) (group : List GroupRow) (restored : Restored)
    (old : WorldAndCaches) (told : Restored) (new : WorldAndCaches) : Type 0 where
  all : List Restoration
  are : RestoresEach layers sources group old.caches all new.caches
  told_is : told ≡ told_from restored (flat_map (λ one. one.searches) all) (flat_map layers_of_parts all)
  files : AreLeft (with_buildpacks all) old.world.files new.world.files

group_left : (layers : List ℕ) (sources : Sources) (group : List GroupRow) (restored : Restored)
    (old : WorldAndCaches) (told : Restored) (new : WorldAndCaches) → AreNamed sources
    → for_each (λ row. restores_buildpack layers sources row.key.id) group restored old (Ok told) new
    → AllLeft layers sources group restored old told new
unfolding for_each ◌>>=◌ yields
group_left layers sources [] restored old told new named h = record {
  all = [];
  are = ap (λ (s : WorldAndCaches). s.caches) h.1;
  told_is = h.0;
  files = left_same old.world.files new.world.files (ap (λ (s : WorldAndCaches). s.world.files) h.1);
}
group_left layers sources (row ∷ group) restored old told new named (more, mid, h, rest) =
    let first = buildpack_left layers sources row.key.id restored old more mid named h in
    let later = group_left layers sources group more mid told new named rest in
    record {
      all = first.one ∷ later.all;
      are = (mid.caches, first.is, later.are);
      told_is = later.told_is
          ∙ ap (λ r. told_from r (flat_map (λ one. one.searches) later.all) (flat_map layers_of_parts later.all))
          first.told_is
          ∙ told_on restored first.one.searches (flat_map (λ one. one.searches) later.all)
          (layers_of_parts first.one) (flat_map layers_of_parts later.all);
      files = left_then (with_buildpack first.one) (with_buildpacks later.all) old.world.files mid.world.files
          new.world.files first.files later.files;
    }

-- ---- the whole

-- rows with such names are rows
pub unnamed : (layers : List ℕ) (group : List GroupRow) (previous : Option ImageDoc) (old : WorldAndCaches)
    (result : Result Restored RestoreFault) (new : WorldAndCaches)
    → restores_named layers group previous old result new → restores_from layers group previous old result new
unfolding restores_named restores_from ◌>>=◌ in_caches gathers_named
unnamed layers group previous old (Ok restored) new (gathered, mid, h, rest) = (gathered, mid, (h.0.0, h.1), rest)
unnamed layers group previous old (Err fault) new (inl h) = inl h
unnamed layers group previous old (Err fault) new (inr (gathered, mid, h, rest)) = inr
    (gathered, mid, (h.0.0, h.1), rest)

restored_left : (store : List ℕ) (name : Option (List ℕ)) (group : List GroupRow) (layers : List ℕ)
    (previous : Option ImageDoc) (old a : WorldAndCaches) (restored : Restored) (new : WorldAndCaches)
    → in_world (reads cause_of (OnlyImage store name) (is_fit_image store name) (previous_in store name)) old
    (Ok previous) a
    → HavePartNames (layers_of previous) → restores_named layers group previous a (Ok restored) new
    → LeavesRestored store name group layers old restored new
unfolding restores_named restores_group ◌>>=◌ in_world in_caches reads gathers_named gathers gives
restored_left store name group layers previous old a restored new read named
    (gathered, b, rows, (first, c, given, last)) =
    let sources : Sources = record { previous = previous; rows = gathered.rows } in
    let left = group_left layers sources group first c restored new (named, rows.0.1) last in
    let gave : Gathers a.caches.shelves a.caches.standing gathered b.caches.shelves b.caches.standing = rows.0.0 in
    record {
      previous = previous;
      read = read.0.answer;
      gathered = gathered;
      between = b.caches;
      gathers = subst (λ (caches : Caches). Gathers caches.shelves caches.standing gathered b.caches.shelves
          b.caches.standing) read.1 gave;
      all = left.all;
      each = subst (λ (s : WorldAndCaches). RestoresEach layers sources group s.caches left.all new.caches) given.0
          left.are;
      told = left.told_is
          ∙ ap (λ r. told_from r (flat_map (λ one. one.searches) left.all) (flat_map layers_of_parts left.all))
          (ok_is _ first given.1);
      files = subst (λ (o : Option Tree). AreLeft (with_buildpacks left.all) o new.world.files)
          (ap (λ (s : WorldAndCaches). s.world.files) given.0 ∙ ap (λ (w : Seen). w.files) rows.1
          ∙ read.0.same.files) left.files;
    }

pub leaves_restored : (store : List ℕ) (name : Option (List ℕ)) (group : List GroupRow) (layers : List ℕ)
    (previous : Option ImageDoc) (old a : WorldAndCaches) (result : Result Restored RestoreFault) (new : WorldAndCaches)
    → in_world (reads cause_of (OnlyImage store name) (is_fit_image store name) (previous_in store name)) old
    (Ok previous) a
    → HavePartNames (layers_of previous) → restores_named layers group previous a result new
    → IfOk result (λ restored. LeavesRestored store name group layers old restored new)
leaves_restored store name group layers previous old a (Ok restored) new read named h = restored_left store name group
    layers previous old a restored new read named h
leaves_restored store name group layers previous old a (Err fault) new read named h = tt
