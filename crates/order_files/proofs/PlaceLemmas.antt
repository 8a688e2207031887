-- The folders that a catalog has descriptors of.
use Rattle.std.proofs.Common.{◌≡◌, ◌∙◌, refl, sym, ap, ℕ, Bool, true, false, ◌&&◌, ◌||◌, List, [], ◌∷◌, ◌++◌}
use Rattle.std.specs.Ordering.{is_eq, nat_cmp}
use Rattle.std.specs.Cmp.Lexicographic.{slice_cmp}
use Rattle.std.specs.List.{AllByRecursion, list_any}
use Rattle.std.specs.Str.{bytes_eq}
use Rattle.std.specs.declared.cmp.Ordering.TheVariants.{Less}
use Rattle.std.proofs.lemmas.Bool.{and_parts}
use Rattle.std.proofs.lemmas.Map.Text.{is_eq-slice_cmp}
use Rattle.std.proofs.lemmas.Slice.Eq.{bytes_eq-Decides}
use Rattle.cnb_world.proofs.Trees.{bytes_eq-same}
use Rattle.cnb_toml.specs.Keys.{same_key}
use Rattle.cnb_toml.specs.Names.{folder_of}
use Rattle.bp_docs.specs.declared.descriptor.Descriptor.{Descriptor}
use Rattle.order_expand.specs.Catalog.{has_key}
use Rattle.order_files.specs.Places.{BelongsTo, KeepsOtherIds, KeepsOthers, belongs_to, has_place}

module _ (id_folder version : List ℕ) (descriptor : Descriptor) (placed : BelongsTo id_folder version descriptor) where
  -- a descriptor of the same key belongs to the same folder
  same_place : (other : Descriptor) → same_key descriptor.key other.key ≡ true
      → belongs_to id_folder version other ≡ true
  same_place other same =
      let (ids, versions) = and_parts (bytes_eq descriptor.key.id other.key.id)
      (bytes_eq descriptor.key.version other.key.version) same in
      let id : descriptor.key.id ≡ other.key.id = (bytes_eq-Decides descriptor.key.id other.key.id).0 ids in
      let number : descriptor.key.version ≡ other.key.version =
      (bytes_eq-Decides descriptor.key.version other.key.version).0 versions in
      ap (λ f. bytes_eq f id_folder && bytes_eq other.key.version version) (ap folder_of (sym id) ∙ placed.0)
      ∙ ap (λ v. bytes_eq id_folder id_folder && bytes_eq v version) (sym number ∙ placed.1)
      ∙ ap (λ v. v && bytes_eq version version) (bytes_eq-same id_folder)
      ∙ bytes_eq-same version

  -- where its folder has no descriptor yet, its key is new
  pub new_key : (catalog : List Descriptor) → has_place catalog id_folder version ≡ false
      → has_key catalog descriptor.key ≡ false
  unfolding has_place
  new_key [] h = refl
  new_key (other ∷ others) h = by (λ k. new_key others k) (same_key descriptor.key other.key) refl
      (belongs_to id_folder version other) refl h
    where
      by : (list_any (belongs_to id_folder version) others ≡ false → has_key others descriptor.key ≡ false)
          → (same : Bool) → same_key descriptor.key other.key ≡ same → (there : Bool)
          → belongs_to id_folder version other ≡ there
          → (there || list_any (belongs_to id_folder version) others) ≡ false
          → (same || has_key others descriptor.key) ≡ false
      by later true e there is k = let both : there ≡ true = sym is ∙ same_place other e in absurd (cc)
      by later false e true is k = absurd (cc)
      by later false e false is k = later k

  elsewhere : (folder other : List ℕ) → (bytes_eq id_folder folder && bytes_eq version other) ≡ false
      → belongs_to folder other descriptor ≡ false
  elsewhere folder other apart =
      ap (λ f. bytes_eq f folder && bytes_eq descriptor.key.version other) placed.0
      ∙ ap (λ v. bytes_eq id_folder folder && bytes_eq v other) placed.1 ∙ apart

  any_more : (test : Descriptor → Bool) (catalog : List Descriptor) → test descriptor ≡ false
      → list_any test (catalog ++ descriptor ∷ []) ≡ list_any test catalog
  any_more test [] h = ap (λ v. v || false) h
  any_more test (first ∷ others) h = ap (λ v. test first || v) (any_more test others h)

  pub keeps_others : (catalog new : List Descriptor) → new ≡ catalog ++ descriptor ∷ []
      → KeepsOthers id_folder version catalog new
  unfolding has_place
  keeps_others catalog new e folder other apart = ap (λ c. has_place c folder other) e
      ∙ any_more (belongs_to folder other) catalog (elsewhere folder other apart)

apart_names : (a b : List ℕ) → slice_cmp nat_cmp a b ≡ Less → bytes_eq a b ≡ false
apart_names a b h = sym (is_eq-slice_cmp a b) ∙ ap is_eq h

-- the folders of these versions have no descriptor yet
abbrev pub AreVacant : List Descriptor → List ℕ → List (List ℕ) → Type 0
AreVacant catalog id_folder versions = AllByRecursion (λ version. has_place catalog id_folder version ≡ false) versions

pub all_vacant : (catalog : List Descriptor) (id_folder : List ℕ)
    → ((version : List ℕ) → has_place catalog id_folder version ≡ false) → (versions : List (List ℕ))
    → AreVacant catalog id_folder versions
all_vacant catalog id_folder h [] = tt
all_vacant catalog id_folder h (version ∷ versions) = (h version, all_vacant catalog id_folder h versions)

pub later_vacant : (id_folder version : List ℕ) (old new : List Descriptor)
    → KeepsOthers id_folder version old new → (versions : List (List ℕ))
    → AllByRecursion (λ later. slice_cmp nat_cmp version later ≡ Less) versions → AreVacant old id_folder versions
    → AreVacant new id_folder versions
later_vacant id_folder version old new keeps [] less vacant = tt
later_vacant id_folder version old new keeps (later ∷ versions) less vacant = (
  keeps id_folder later (ap (λ v. v && bytes_eq version later) (bytes_eq-same id_folder)
      ∙ apart_names version later less.0) ∙ vacant.0,
  later_vacant id_folder version old new keeps versions
      less.1 vacant.1,
)

pub keeps_ids : (id_folder version : List ℕ) (first old new : List Descriptor)
    → KeepsOthers id_folder version old new → KeepsOtherIds id_folder first old
    → KeepsOtherIds id_folder first new
keeps_ids id_folder version first old new keeps before folder other apart = keeps folder other
    (ap (λ v. v && bytes_eq version other) apart) ∙ before folder other apart

-- the folders of these ids have no descriptor yet
abbrev pub AreVacantIds : List Descriptor → List (List ℕ) → Type 0
AreVacantIds catalog id_folders = AllByRecursion
    (λ id_folder. (version : List ℕ) → has_place catalog id_folder version ≡ false) id_folders

pub none_yet : (catalog : List Descriptor) → catalog ≡ [] → (id_folders : List (List ℕ))
    → AreVacantIds catalog id_folders
unfolding has_place
none_yet catalog e [] = tt
none_yet catalog e (id_folder ∷ id_folders) =
    (λ version. ap (λ c. has_place c id_folder version) e, none_yet catalog e id_folders)

pub later_vacant_ids : (id_folder : List ℕ) (old new : List Descriptor) → KeepsOtherIds id_folder old new
    → (id_folders : List (List ℕ))
    → AllByRecursion (λ later. slice_cmp nat_cmp id_folder later ≡ Less) id_folders → AreVacantIds old id_folders
    → AreVacantIds new id_folders
later_vacant_ids id_folder old new keeps [] less vacant = tt
later_vacant_ids id_folder old new keeps (later ∷ id_folders) less vacant = (
  λ version. keeps later version (apart_names id_folder later less.0)
      ∙ vacant.0 version,
  later_vacant_ids id_folder old new keeps id_folders less.1 vacant.1,
)
