-- Sound buildpacks are read.
use Rattle.std.proofs.Common.{◌≡◌, ◌∙◌, refl, ap, subst, ℕ, Bool, true, false, cond, not, ◌&&◌, ◌||◌, List, [], ◌∷◌}
use Rattle.std.proofs.Common.{◌++◌, Option, Some, None, Result, Ok, Err, inl, inr}
use Rattle.std.specs.Prelude.{IsTrue}
use Rattle.std.specs.List.{AllByRecursion, list_all}
use Rattle.std.specs.Str.{bytes_eq}
use Rattle.bp_docs.specs.Descriptor.{descriptor_in}
use Rattle.bp_docs.specs.declared.descriptor.Descriptor.{Descriptor}
use Rattle.cnb_toml.specs.Names.{folder_of}
use Rattle.cnb_world.proofs.Trees.{bytes_eq-same}
use Rattle.cnb_world.specs.Listing.{names_in}
use Rattle.cnb_world.specs.Path.{joined}
use Rattle.cnb_world.specs.Tree.{Tree, is_folder, item_at}
use Rattle.doc_files.specs.Reading.{names_at, read_at}
use Rattle.doc_files.specs.declared.fault.ReadFault.{ReadFault}
use Rattle.doc_files.specs.declared.fault.ReadFault.TheVariants.{File}
use Rattle.order_files.specs.Catalog.{are_fit_versions, buildpack_in, buildpacks_in, catalog_in, followed_by}
use Rattle.order_files.specs.Catalog.{is_fit_buildpack, is_fit_catalog, is_fit_version, listed, version_in, versions_in}
use Rattle.order_files.specs.Descriptor.{described, descriptor_at, descriptor_path, with_folder_names}
use Rattle.order_files.specs.Places.{BelongsTo}
use Rattle.steps.specs.Results.{and_then}
use Rattle.detect_laws.specs.Buildpacks.{AreSoundBuildpacks, IsSoundId, IsSoundVersion}
use Rattle.detect_laws.specs.Documents.{IsAbsentOr}
use Rattle.detect_laws.proofs.DocumentLemmas.{optional_fits, then_bytes, then_nothing}

-- something is read
abbrev pub Reads : {A : Type 0} → Result A ReadFault → Type 0
Reads {A} result = (value : A) × (result ≡ Ok value)

own_names : (path id_folder version : List ℕ) (descriptor : Descriptor) → BelongsTo id_folder version descriptor
    → with_folder_names path id_folder version descriptor ≡ Ok descriptor
own_names path id_folder version descriptor (id, own) =
    let first : bytes_eq (folder_of descriptor.key.id) id_folder ≡ true = subst
    (λ v. bytes_eq (folder_of descriptor.key.id) v ≡ true) id (bytes_eq-same (folder_of descriptor.key.id)) in
    let second : bytes_eq descriptor.key.version version ≡ true = subst
    (λ v. bytes_eq descriptor.key.version v ≡ true) own (bytes_eq-same descriptor.key.version) in
    rw (first, second)

module _ (files : Tree) where
  described_so : (folder id_folder version : List ℕ)
      → IsAbsentOr descriptor_in files (descriptor_path folder) (BelongsTo id_folder version)
      → Reads (descriptor_at files folder id_folder version)
  unfolding descriptor_at
  described_so folder id_folder version (inl absent) = (
    None,
    then_nothing files (descriptor_path folder)
        (described (descriptor_path folder) id_folder version) absent,
  )
  described_so folder id_folder version (inr (descriptor, h, own)) =
      let path = descriptor_path folder in (
        Some descriptor,
        then_bytes files path (described path id_folder version) descriptor_in descriptor h
            ∙ ap (λ r. and_then (read_at path r) (λ d. and_then (with_folder_names path id_folder version d)
            (λ e. Ok (Some e)))) h.valid
            ∙ ap (λ r. and_then r (λ e. Ok (Some e))) (own_names path id_folder version descriptor own),
      )

  listed_so : (result : Result (Option Descriptor) ReadFault) → Reads result → Reads (listed result)
  listed_so result (None, e) = ([], ap listed e)
  listed_so result (Some descriptor, e) = (descriptor ∷ [], ap listed e)

  -- what is read only of a folder
  where_folder : {A : Type 0} (b : Bool) (one other : Result A ReadFault) → (b ≡ true → Reads one) → Reads other
      → Reads (cond b one other)
  where_folder true one other h k = h refl
  where_folder false one other h k = k

  both_read : (front back : Result (List Descriptor) ReadFault) → Reads front → Reads back
      → Reads (followed_by front back)
  both_read front back (some, e) (more, k) = (
    some ++ more,
    ap (λ r. followed_by r back) e
        ∙ ap (followed_by (Ok some)) k,
  )

  version_read : (folder id_folder version : List ℕ) → IsSoundVersion files folder id_folder version
      → Reads (version_in files folder id_folder version)
  unfolding version_in
  version_read folder id_folder version h =
      where_folder (is_folder (item_at files (joined folder version))) _ _
      (λ is. listed_so _ (described_so (joined folder version) id_folder version (h is))) ([], refl)

  versions_read : (folder id_folder : List ℕ) (versions : List (List ℕ))
      → AllByRecursion (IsSoundVersion files folder id_folder) versions
      → Reads (versions_in files folder id_folder versions)
  versions_read folder id_folder [] h = ([], refl)
  versions_read folder id_folder (version ∷ versions) (first, rest) = both_read _ _
      (version_read folder id_folder version first) (versions_read folder id_folder versions rest)

  id_read : (buildpacks id_folder : List ℕ) → IsSoundId files buildpacks id_folder
      → Reads (buildpack_in files buildpacks id_folder)
  unfolding buildpack_in
  id_read buildpacks id_folder h = where_folder (is_folder (item_at files (joined buildpacks id_folder))) _ _
      (λ is. versions_read (joined buildpacks id_folder) id_folder
      (names_in files (joined buildpacks id_folder)) (h is)) ([], refl)

  ids_read : (buildpacks : List ℕ) (names : List (List ℕ)) → AllByRecursion (IsSoundId files buildpacks) names
      → Reads (buildpacks_in files buildpacks names)
  ids_read buildpacks [] h = ([], refl)
  ids_read buildpacks (name ∷ names) (first, rest) = both_read _ _ (id_read buildpacks name first)
      (ids_read buildpacks names rest)

  pub names_there : (folder : List ℕ) → IsTrue (is_folder (item_at files folder))
      → names_at files folder ≡ Ok (names_in files folder)
  names_there folder is = ap (λ b. cond b (Ok (names_in files folder)) (Err (File folder))) is

  -- all that is there is read
  pub catalog_read : (buildpacks : List ℕ) → AreSoundBuildpacks files buildpacks → Reads (catalog_in buildpacks files)
  unfolding catalog_in
  catalog_read buildpacks h =
      let rest = ids_read buildpacks (names_in files buildpacks) h.ids in
      (rest.0, ap (λ r. and_then r (buildpacks_in files buildpacks)) (names_there buildpacks h.folder) ∙ rest.1)

  -- ---- and is of the right kind

  where_folder_fits : (b c : Bool) → (b ≡ true → c ≡ true) → (not b || c) ≡ true
  where_folder_fits true c h = h refl
  where_folder_fits false c h = refl

  version_fits : (folder id_folder version : List ℕ) → IsSoundVersion files folder id_folder version
      → is_fit_version files folder version ≡ true
  unfolding is_fit_version
  version_fits folder id_folder version h = where_folder_fits (is_folder (item_at files (joined folder version))) _
      (λ is. optional_fits files (descriptor_path (joined folder version)) descriptor_in (BelongsTo id_folder version)
      (h is))

  versions_fit : (folder id_folder : List ℕ) (versions : List (List ℕ))
      → AllByRecursion (IsSoundVersion files folder id_folder) versions
      → are_fit_versions files folder versions ≡ true
  versions_fit folder id_folder [] h = refl
  versions_fit folder id_folder (version ∷ versions) (first, rest) =
      ap (λ b. b && are_fit_versions files folder versions) (version_fits folder id_folder version first)
      ∙ versions_fit folder id_folder versions rest

  id_fits : (buildpacks id_folder : List ℕ) → IsSoundId files buildpacks id_folder
      → is_fit_buildpack files buildpacks id_folder ≡ true
  unfolding is_fit_buildpack
  id_fits buildpacks id_folder h = where_folder_fits (is_folder (item_at files (joined buildpacks id_folder))) _
      (λ is. versions_fit (joined buildpacks id_folder) id_folder
      (names_in files (joined buildpacks id_folder)) (h is))

  ids_fit : (buildpacks : List ℕ) (names : List (List ℕ)) → AllByRecursion (IsSoundId files buildpacks) names
      → list_all (is_fit_buildpack files buildpacks) names ≡ true
  ids_fit buildpacks [] h = refl
  ids_fit buildpacks (name ∷ names) (first, rest) =
      ap (λ b. b && list_all (is_fit_buildpack files buildpacks) names) (id_fits buildpacks name first)
      ∙ ids_fit buildpacks names rest

  pub catalog_fits : (buildpacks : List ℕ) → AreSoundBuildpacks files buildpacks
      → is_fit_catalog buildpacks files ≡ true
  unfolding is_fit_catalog
  catalog_fits buildpacks h = ap
      (λ b. b && list_all (is_fit_buildpack files buildpacks) (names_in files buildpacks)) h.folder
      ∙ ids_fit buildpacks (names_in files buildpacks) h.ids
