-- What a restoration in `create` leaves of the folders beside those that it makes anew.
use Rattle.std.proofs.Common.{◌≡◌, ◌∙◌, refl, sym, ap, subst, arith, length-append, ℕ, Bool, true, false, cond}
use Rattle.std.proofs.Common.{not, ◌||◌, List, [], ◌∷◌, ◌++◌, codes, Option}
use Rattle.std.proofs.Common.{Some, None, Ok, inl, inr, ◌⊎◌, is_some}
use Rattle.std.proofs.lemmas.Bool.{and_from, and_parts}
use Rattle.std.specs.Prelude.{IsTrue}
use Rattle.std.specs.FinMap.{get}
use Rattle.std.specs.List.{list_any}
use Rattle.std.specs.Str.{bytes_eq}
use Rattle.cnb_create.proofs.ApartLemmas.{Below, Inside, below_below, folder_not_root, inside_below, inside_deeper}
use Rattle.cnb_create.proofs.ApartLemmas.{inside_joined, never, one_in_other, path_not_root, under, unless_within}
use Rattle.cnb_create.proofs.ApartLemmas.{within_so}
use Rattle.cnb_create.specs.Apart.{are_apart}
use Rattle.cnb_env.specs.Buildpack.{buildpack_folder, plan_name_of}
use Rattle.cnb_restore.specs.Faults.{cause_of, of_laying_fault}
use Rattle.cnb_restore.specs.Images.{kept_for, store_of}
use Rattle.cnb_restore.specs.Layers.{writes_layer, writes_store}
use Rattle.cnb_restore.specs.Restored.{after_search, gathered_first, with_layer}
use Rattle.cnb_restore.specs.Restores.{listed, prepares_folder, restores, restores_buildpack, restores_contents}
use Rattle.cnb_restore.specs.Restores.{restores_document, restores_each, restores_found, restores_group, restores_held}
use Rattle.cnb_restore.specs.Restores.{restores_layer, restores_layers, restores_part, restores_rows}
use Rattle.cnb_restore.specs.Rows.{layer_names}
use Rattle.cnb_restore.specs.declared.restored.Restored.{Restored}
use Rattle.cnb_restore.specs.declared.sources.Sources.{Sources}
use Rattle.cnb_toml.specs.Keys.{is_key}
use Rattle.cnb_toml.specs.Names.{folder_of}
use Rattle.cnb_toml.specs.declared.names.Key.{Key}
use Rattle.cnb_words.specs.declared.create.CreateWords.{CreateWords}
use Rattle.cnb_world.proofs.EffectLemmas.{same_path}
use Rattle.cnb_world.proofs.Folders.{get-without}
use Rattle.cnb_world.proofs.Joins.{beside-joined}
use Rattle.cnb_world.specs.Path.{beside, joined, parent_of}
use Rattle.cnb_world.specs.Tree.{Tree, can_make_folder, folder_made, is_folder, is_root, is_within}
use Rattle.cnb_world.specs.Tree.{item_at, without}
use Rattle.cnb_world.specs.Whole.{written}
use Rattle.cnb_world.specs.declared.world.Item.{Item}
use Rattle.cnb_world.specs.declared.world.Item.TheVariants.{Folder}
use Rattle.image_docs.specs.declared.layer_row.LayerRow.{LayerRow}
use Rattle.image_docs.specs.declared.store_row.StoreRow.{StoreRow}
use Rattle.layer_flags.specs.declared.restore.RestoreRow.{RestoreRow}
use Rattle.layer_flags.specs.declared.restore.RestoreRow.TheVariants as part
use Rattle.layer_paths.specs.Paths.{layers_folder}
use Rattle.run_docs.specs.declared.group.GroupRow.{GroupRow}
use Rattle.shelf_set.specs.declared.restoring.Found.{Found}
use Rattle.shelf_set.specs.declared.restoring.Found.TheVariants as found
use Rattle.steps.specs.Each.{for_each}
use Rattle.tree_store.proofs.Around.{at_one}
use Rattle.tree_store.proofs.Blames.{within_itself}
use Rattle.tree_store.proofs.Places.{child_not_root}
use Rattle.tree_store.specs.Around.{IsMadeAbove, KeepsAround}
use Rattle.cnb_lifecycle.specs.Fitting.{ArePlacesApart}
use Rattle.cnb_lifecycle.specs.Fitting.{plans_folder}
use Rattle.cnb_lifecycle.proofs.DetectFits.{made_within, folder_stays as stays_behind}
use Rattle.cnb_lifecycle.proofs.KeptFolders.{all_by}
use Rattle.cnb_lifecycle.proofs.LeadingSteps.{beside_caches}
use Rattle.cnb_lifecycle.proofs.KeptFolders.{can_be_folder, folder_stays, kept_folder}
use Rattle.cnb_lifecycle.proofs.LeadingSteps.{itself}
use Rattle.cnb_lifecycle.proofs.KeptFolders.{reach, root_is_folder}
use Rattle.cnb_lifecycle.proofs.IdleSteps.{Bears, bears_bind, bears_each, bears_gives, bears_in_caches, bears_in_world}
use Rattle.cnb_lifecycle.proofs.IdleSteps.{bears_makes, bears_reads, bears_removes, bears_restored, bears_told}
use Rattle.cnb_lifecycle.proofs.IdleSteps.{bears_writes, bears_yields}

-- ---- a restoration

-- this stays where a folder of layers is removed and made, and where documents are written and layers laid in it
pub record Stays (layers : List ℕ) (K : Tree → Type 0) : Type 0 where
  pub gone : (id : List ℕ) (t : Tree) → K t → K (without (layers_folder layers id) t)
  pub made : (id : List ℕ) (t : Tree) → K t → K (folder_made (layers_folder layers id) t)
  pub wrote : (id name bytes : List ℕ) (t : Tree) → K t → K (written (joined (layers_folder layers id) name) bytes t)
  pub laid : (id name : List ℕ) (t after : Tree) → K t → KeepsAround (joined (layers_folder layers id) name) t after
      → K after

module _ (layers : List ℕ) (K : Tree → Type 0) (stays : Stays layers K) (id : List ℕ) where
  abbrev pub folder : List ℕ
  folder = layers_folder layers id

  borne_layer : (row : LayerRow) → Bears itself K (writes_layer folder row)
  unfolding writes_layer
  borne_layer row = bears_writes K cause_of _ _ (stays.wrote id _)

  borne_store : (row : Option StoreRow) → Bears itself K (writes_store folder row)
  unfolding writes_store
  borne_store None = bears_yields itself K tt
  borne_store (Some row) = bears_writes K cause_of _ _ (stays.wrote id _)

  borne_folder : (rows : List StoreRow) → Bears itself K (prepares_folder folder id rows)
  unfolding prepares_folder
  borne_folder rows =
      bears_bind itself K _ _ (bears_removes K cause_of folder (stays.gone id))
      (λ removed. bears_bind itself K _ _ (bears_makes K cause_of folder (stays.made id))
      (λ made. borne_store (kept_for id rows)))

  borne_document : (row : LayerRow) (contents : Bool) (restored : Restored)
      → Bears beside_caches K (restores_document folder row contents restored)
  unfolding restores_document
  borne_document row contents restored = bears_bind beside_caches K _ _ (bears_in_world K _ (borne_layer row))
      (λ written. bears_gives beside_caches K cause_of (Ok (with_layer row contents restored)))

  borne_held : (row : LayerRow) → Bears beside_caches K (restores_held folder row)
  borne_held row = bears_told beside_caches K of_laying_fault _
      (bears_restored K row.digest (joined folder row.layer) (stays.laid id row.layer))

  borne_found : (row : LayerRow) (restored : Restored) (answer : Found)
      → Bears beside_caches K (restores_found folder row restored answer)
  unfolding restores_found
  borne_found row restored found.None = bears_yields beside_caches K restored
  borne_found row restored (found.Damaged asked is bad) = bears_gives beside_caches K cause_of _
  borne_found row restored found.Laid = borne_document row true restored

  borne_contents : (row : LayerRow) (restored : Restored)
      → Bears beside_caches K (restores_contents folder row restored)
  unfolding restores_contents
  borne_contents row restored =
      bears_bind beside_caches K _ _ (borne_held row)
      (λ search. bears_bind beside_caches K _ _ (bears_gives beside_caches K cause_of
      (Ok (after_search search.gone restored))) (λ counted. borne_found row counted search.found))

  borne_part : (source : Option LayerRow) (line : RestoreRow) (restored : Restored)
      → Bears beside_caches K (restores_part folder source line restored)
  unfolding restores_part
  borne_part None line restored = bears_yields beside_caches K restored
  borne_part (Some source) part.Nothing restored = bears_yields beside_caches K restored
  borne_part (Some source) part.Meta restored = borne_document source false restored
  borne_part (Some source) part.Both restored = borne_contents source restored

  borne_one : (app cache : List LayerRow) (name : List ℕ) (restored : Restored)
      → Bears beside_caches K (restores_layer folder app cache name restored)
  unfolding restores_layer
  borne_one app cache name restored = borne_part _ _ restored

  borne_layers : (app cache : List LayerRow) (restored : Restored)
      → Bears beside_caches K (restores_layers folder app cache restored)
  unfolding restores_layers restores_each
  borne_layers app cache restored =
      bears_bind beside_caches K _ _ (bears_gives beside_caches K cause_of listed)
      (λ made. bears_each beside_caches K (restores_layer folder app cache) (layer_names app cache) restored
      (λ name so_far. borne_one app cache name so_far))

  borne_buildpack : (sources : Sources) (restored : Restored)
      → Bears beside_caches K (restores_buildpack layers sources id restored)
  unfolding restores_buildpack restores_rows
  borne_buildpack sources restored =
      bears_bind beside_caches K _ _ (bears_in_world K _ (borne_folder (store_of sources.previous)))
      (λ prepared. bears_bind beside_caches K _ _ (bears_gives beside_caches K cause_of listed)
      (λ made. borne_layers _ _ restored))

module _ (layers : List ℕ) (K : Tree → Type 0) (store : List ℕ) (name : Option (List ℕ)) (group : List GroupRow)
    (each : (sources : Sources) (restored : Restored) → Bears beside_caches K
    (restores_group layers sources group restored)) where
  pub borne_restores : Bears beside_caches K (restores store name group layers)
  unfolding restores
  borne_restores =
      bears_bind beside_caches K _ _ (bears_in_world K _ (bears_reads K cause_of _ _ _))
      (λ previous. bears_bind beside_caches K _ _ (bears_in_caches K _)
      (λ gathered. bears_bind beside_caches K _ _ (bears_gives beside_caches K cause_of
      (Ok (gathered_first gathered.unread gathered.gone)))
      (λ restored. each (record { previous = previous; rows = gathered.rows }) restored)))

pub borne_group : (layers : List ℕ) (K : Tree → Type 0) → Stays layers K
    → (group : List GroupRow) (sources : Sources) (restored : Restored)
    → Bears beside_caches K (restores_group layers sources group restored)
unfolding restores_group
borne_group layers K stays group sources restored = bears_each beside_caches K _ group restored
    (λ row so_far. borne_buildpack layers K stays row.key.id sources so_far)

pub borne_none : (layers : List ℕ) (K : Tree → Type 0) (sources : Sources) (restored : Restored)
    → Bears beside_caches K (restores_group layers sources [] restored)
unfolding restores_group for_each
borne_none layers K sources restored = bears_yields beside_caches K restored

-- ---- folders that stay so

over_without : (root keep : Bool) (old : Option Item) →
    (is_folder (cond root (Some Folder) old) || not (is_some (cond root (Some Folder) old))) ≡ true
    → (is_folder (cond root (Some Folder) (cond keep old None))
    || not (is_some (cond root (Some Folder) (cond keep old None)))) ≡ true
over_without true keep old h = refl
over_without false true old h = h
over_without false false old h = refl

can_of : (t : Tree) (q : List ℕ) → (is_root q ≡ false → can_be_folder t q ≡ true) → can_be_folder t q ≡ true
can_of t q h = by (is_root q) refl
  where
    by : (r : Bool) → is_root q ≡ r → can_be_folder t q ≡ true
    by true is = root_is_folder (is_root q) (get t q) is
    by false is = h is

or_first : (a b : Bool) → a ≡ true → (a || b) ≡ true
or_first true b h = refl
or_first false b h = absurd (cc)

within_on : (a q p : List ℕ) → is_root q ≡ false → is_within a q ≡ true → is_within q p ≡ true → is_within a p ≡ true
within_on a q p plain first second = by (within_so a q first) (within_so q p second)
  where
    by : (is_root a ≡ true) ⊎ Below a q → (is_root q ≡ true) ⊎ Below q p → is_within a p ≡ true
    by (inl root) later = or_first (is_root a) _ root
    by (inr one) (inl root) = absurd (let no : true ≡ false = sym root ∙ plain in cc)
    by (inr one) (inr two) = under a p (below_below a q p one two)

folder_around : (root q : List ℕ) (t after : Tree) → can_be_folder t q ≡ true → (item_at after q ≡ item_at t q)
    ⊎ IsMadeAbove root q t after → can_be_folder after q ≡ true
folder_around root q t after fit (inl same) = kept_folder (item_at t q) (item_at after q) fit (inl same)
folder_around root q t after fit (inr made) = kept_folder (item_at t q) (item_at after q) fit (inr made.after)

-- what lies in a folder that is apart from another is apart from it
inside_apart : (layers folder path : List ℕ) → are_apart layers folder ≡ true → is_root path ≡ false
    → Inside folder path → are_apart layers path ≡ true
inside_apart layers folder path apart plain inside =
    let parts = and_parts (not (is_within layers folder)) (not (is_within folder layers)) apart in
    let below : Below folder path = inside_below folder path inside in
    let either : Below layers folder ⊎ Below folder layers → ⊥ = λ h. one_of layers folder parts.0 parts.1 h in
    and_from (not (is_within layers path)) (not (is_within path layers))
    (unless_within layers path (folder_not_root layers folder apart)
    (λ h. either (one_in_other layers folder path h below)))
    (unless_within path layers plain (λ h. either (inr (below_below folder path layers below h))))
  where
    one_of : (a b : List ℕ) → not (is_within a b) ≡ true → not (is_within b a) ≡ true → Below a b ⊎ Below b a → ⊥
    one_of a b first second (inl h) = never (is_within a b) first (under a b h)
    one_of a b first second (inr h) = never (is_within b a) second (under b a h)

module _ (words : CreateWords) (places : ArePlacesApart words) where
  pub descriptor_apart : (key : Key) → are_apart words.layers
      (joined (buildpack_folder words.detect.buildpacks key) (codes "buildpack.toml")) ≡ true
  descriptor_apart key =
      let inside : Inside words.detect.buildpacks (joined (buildpack_folder words.detect.buildpacks key)
      (codes "buildpack.toml")) =
      inside_deeper words.detect.buildpacks (buildpack_folder words.detect.buildpacks key)
      (codes "buildpack.toml") (inside_deeper words.detect.buildpacks _ key.version
      (inside_joined words.detect.buildpacks _ (path_not_root words.layers words.detect.buildpacks
      places.buildpacks))) in
      inside_apart words.layers words.detect.buildpacks _ places.buildpacks
      (child_not_root (buildpack_folder words.detect.buildpacks key) (codes "buildpack.toml") (omega arith))
      inside

  pub plans_outside : is_within (plans_folder words.detect.work) words.layers ≡ false
  plans_outside = by (is_within (plans_folder words.detect.work) words.layers)
      (and_parts (not (is_within words.layers (plans_folder words.detect.work)))
      (not (is_within (plans_folder words.detect.work) words.layers)) places.plans).1
    where
      by : (v : Bool) → not v ≡ true → v ≡ false
      by true h = absurd (cc)
      by false h = refl

  pub plan_apart : (key : Key) → are_apart words.layers
      (joined (plans_folder words.detect.work) (plan_name_of key)) ≡ true
  plan_apart key =
      inside_apart words.layers (plans_folder words.detect.work) _ places.plans
      (child_not_root (plans_folder words.detect.work) (plan_name_of key)
      (omega (arith, length-append (folder_of key.id ++ codes "@" ++ key.version) (codes ".toml"))))
      (inside_joined (plans_folder words.detect.work) (plan_name_of key)
      (path_not_root words.layers (plans_folder words.detect.work) places.plans))

  pub beside_plan_apart : (key : Key) → are_apart words.layers
      (beside (joined (plans_folder words.detect.work) (plan_name_of key))) ≡ true
  beside_plan_apart key =
      subst (λ p. are_apart words.layers p ≡ true) (sym (beside-joined (plans_folder words.detect.work)
      (plan_name_of key)))
      (inside_apart words.layers (plans_folder words.detect.work)
      (joined (plans_folder words.detect.work) (beside (plan_name_of key))) places.plans
      (child_not_root (plans_folder words.detect.work) (beside (plan_name_of key))
      (omega (arith, length-append (plan_name_of key) (46 ∷ 110 ∷ 101 ∷ 119 ∷ []))))
      (inside_joined (plans_folder words.detect.work) (beside (plan_name_of key))
      (path_not_root words.layers (plans_folder words.detect.work) places.plans)))

  abbrev pub plan_of : Key → List ℕ
  plan_of key = joined (plans_folder words.detect.work) (plan_name_of key)

  -- a folder that must be there
  abbrev IsMade : List ℕ → Type 0
  IsMade p = ((key : Key) × IsTrue (is_key key) × (p ≡ parent_of (plan_of key)))
      ⊎ ((key : Key) × IsTrue (is_key key) × (p ≡ layers_folder words.layers key.id))

  abbrev IsWanted : List ℕ → Type 0
  IsWanted q = (p : List ℕ) × IsMade p × (list_any (bytes_eq q) (reach p) ≡ true)

  abbrev pub Folders : Tree → Type 0
  Folders t = (q : List ℕ) → IsWanted q → can_be_folder t q ≡ true

  above : (p : List ℕ) → IsMade p → (id name : List ℕ) → is_within (joined (layers_folder words.layers id) name) p
      ≡ false
  above p (inl (key, valid, is)) id name = subst
      (λ p. is_within (joined (layers_folder words.layers id) name) p ≡ false) (sym is)
      (places.above_plan key valid id name)
  above p (inr (other, valid, is)) id name = subst
      (λ p. is_within (joined (layers_folder words.layers id) name) p ≡ false) (sym is)
      (places.above_layers id other.id name)

  away : (q : List ℕ) → IsWanted q → is_root q ≡ false → (id name : List ℕ)
      → is_within (joined (layers_folder words.layers id) name) q ≡ false
  away q (p, made, is) plain id name = by (is_within (joined (layers_folder words.layers id) name) q) refl
    where
      by : (v : Bool) → is_within (joined (layers_folder words.layers id) name) q ≡ v → v ≡ false
      by false e = refl
      by true e = sym (within_on (joined (layers_folder words.layers id) name) q p plain e (made_within p q is))
          ∙ above p made id name

  other_path : (a q : List ℕ) → is_within a q ≡ false → bytes_eq a q ≡ false
  other_path a q out = by (bytes_eq a q) refl
    where
      by : (v : Bool) → bytes_eq a q ≡ v → v ≡ false
      by false e = refl
      by true e = absurd (let no : true ≡ false = sym (within_itself a) ∙ ap (is_within a) (same_path a q e) ∙ out
          in cc)

  pub folders_stay : Stays words.layers Folders
  folders_stay = record {
    gone = λ id t fit q wanted. ap (λ v. is_folder (cond (is_root q) (Some Folder) v)
        || not (is_some (cond (is_root q) (Some Folder) v))) (get-without (layers_folder words.layers id) t q)
        ∙ over_without (is_root q) (not (is_within (layers_folder words.layers id) q)) (get t q) (fit q wanted);
    made = λ id t fit q wanted. folder_stays (layers_folder words.layers id) q t (fit q wanted);
    wrote = λ id name bytes t fit q wanted. can_of (written (joined (layers_folder words.layers id) name) bytes t) q
        (λ plain. stays_behind (joined (layers_folder words.layers id) name) bytes t q
        (other_path (joined (layers_folder words.layers id) name) q (away q wanted plain id name))
        (fit q wanted));
    laid = λ id name t after fit around q wanted. can_of after q
        (λ plain. folder_around (joined (layers_folder words.layers id) name) q t after (fit q wanted)
        (around q (away q wanted plain id name)));
  }

  -- what is wanted of the first build's folders
  pub folders_of : (t : Tree) → ((key : Key) → IsTrue (is_key key)
      → can_make_folder t (parent_of (plan_of key)) ≡ true) →
      ((key : Key) → IsTrue (is_key key) → can_make_folder t (layers_folder words.layers key.id) ≡ true)
      → Folders t
  folders_of t plans layers q (p, inl (key, valid, same), is) = at_one (can_be_folder t) (reach p) q
      (subst (λ p. can_make_folder t p ≡ true) (sym same) (plans key valid)) is
  folders_of t plans layers q (p, inr (key, valid, same), is) = at_one (can_be_folder t) (reach p) q
      (subst (λ p. can_make_folder t p ≡ true) (sym same) (layers key valid)) is

  pub made_of : (t : Tree) (p : List ℕ) → IsMade p → Folders t → can_make_folder t p ≡ true
  made_of t p made fit = all_by (can_be_folder t) (reach p) (λ q is. fit q (p, made, is))
