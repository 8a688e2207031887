-- What the steps of a reader of folders give, at the path that they were made on.
use Rattle.std.proofs.Common.{◌≡◌, sym, subst, ℕ, Bool, true, not, List, Option, Some, None, Result, Ok, Err}
use Rattle.std.specs.Prelude.{IfSome, ◌||◌}
use Rattle.std.specs.Option.{option_map}
use Rattle.cnb_world.specs.Calls.{MayMisuse}
use Rattle.cnb_world.specs.Listing.{names_in}
use Rattle.cnb_world.specs.Path.{joined}
use Rattle.cnb_world.specs.Steps.{◌>>=◌}
use Rattle.cnb_world.specs.Tree.{Tree, can_list, is_file_or_absent, is_folder, item_at}
use Rattle.bp_docs.specs.declared.descriptor.Descriptor.{Descriptor}
use Rattle.order_files.specs.Catalog.{are_fit_versions, buildpack_in, followed_by, is_fit_buildpack, is_fit_version}
use Rattle.order_files.specs.Catalog.{listed, version_in, versions_in}
use Rattle.order_files.specs.Descriptor.{described, descriptor_at, descriptor_path, is_fit_descriptor}
use Rattle.steps.specs.Causes.{IsAnswer}
use Rattle.doc_files.specs.Faults.{read_cause}
use Rattle.doc_files.specs.Reading.{document_at}
use Rattle.doc_files.specs.declared.fault.ReadFault.{ReadFault}
use Rattle.doc_files.proofs.NamesRead.{told}
use Rattle.order_files.proofs.Behind.{Found, IsFolder, told_same, when_folder}

module _ (folder id_folder version path : List ℕ) (same : path ≡ descriptor_path folder) where
  pub descriptor_from : (o : Option Tree) (result : Result (Option Descriptor) ReadFault)
      → IfSome o (λ files. IsAnswer read_cause result
      (document_at files path >>= described path id_folder version))
      → IfSome o (λ files. IsAnswer read_cause result (descriptor_at files folder id_folder version))
  unfolding descriptor_at
  descriptor_from o result h = let P : List ℕ → Type 0 = λ p. IfSome o
      (λ files. IsAnswer read_cause result (document_at files p >>= described p id_folder version))
      in subst P same h

  pub descriptor_refused_from : (o : Option Tree) (fault : ReadFault)
      → IfSome o (λ files. IsAnswer {A = Option Descriptor} read_cause (Err fault)
      (document_at files path >>= described path id_folder version))
      → IfSome o (λ files. IsAnswer {A = Option Descriptor} read_cause (Err fault)
      (descriptor_at files folder id_folder version))
  descriptor_refused_from o fault h = descriptor_from o (Err fault) h

  pub descriptor_fits : (o : Option Tree) (x y : ℕ) → MayMisuse
      (option_map (λ files. is_file_or_absent (item_at files path)) o) x y
      → MayMisuse (option_map (λ files. is_fit_descriptor files folder) o) x y
  descriptor_fits o x y h = let P : List ℕ → Type 0 = λ p. MayMisuse
      (option_map (λ files. is_file_or_absent (item_at files p)) o) x y in subst P same h

module _ (folder id_folder version place : List ℕ) (same : place ≡ joined folder version) where
  pub version_from : (done : List Descriptor) (o : Option Tree) (result : Found)
      → IfSome o (λ files. IsAnswer read_cause result
      (followed_by (Ok done) (when_folder files place (listed (descriptor_at files place id_folder version)))))
      → IfSome o (λ files. IsAnswer read_cause result
      (followed_by (Ok done) (version_in files folder id_folder version)))
  unfolding version_in
  version_from done o result h =
      let P : List ℕ → Type 0 = λ p. IfSome o (λ files. IsAnswer read_cause result
      (followed_by (Ok done) (when_folder files p (listed (descriptor_at files p id_folder version)))))
      in subst P same h

  pub version_refused_from : (done : List Descriptor) (o : Option Tree) (fault : ReadFault)
      → IfSome o (λ files. IsAnswer {A = List Descriptor} read_cause (Err fault)
      (followed_by (Ok done) (when_folder files place (listed (descriptor_at files place id_folder version)))))
      → IfSome o (λ files. IsAnswer {A = List Descriptor} read_cause (Err fault)
      (followed_by (Ok done) (version_in files folder id_folder version)))
  version_refused_from done o fault h = version_from done o (Err fault) h

  pub version_fits : (o : Option Tree) (x y : ℕ) → MayMisuse
      (option_map (λ files. not (is_folder (item_at files place)) || is_fit_descriptor files place) o) x y
      → MayMisuse (option_map (λ files. is_fit_version files folder version) o) x y
  unfolding is_fit_version
  version_fits o x y h = let P : List ℕ → Type 0 = λ p. MayMisuse
      (option_map (λ files. not (is_folder (item_at files p)) || is_fit_descriptor files p) o) x y
      in subst P same h

module _ (buildpacks id_folder place : List ℕ) (same : place ≡ joined buildpacks id_folder) where
  pub buildpack_from : (done : List Descriptor) (o : Option Tree) (result : Found)
      → IfSome o (λ files. IsAnswer read_cause result
      (followed_by (Ok done) (when_folder files place
      (versions_in files place id_folder (names_in files place)))))
      → IfSome o (λ files. IsAnswer read_cause result (followed_by (Ok done) (buildpack_in files buildpacks id_folder)))
  unfolding buildpack_in
  buildpack_from done o result h =
      let P : List ℕ → Type 0 = λ p. IfSome o (λ files. IsAnswer read_cause result
      (followed_by (Ok done) (when_folder files p (versions_in files p id_folder (names_in files p)))))
      in subst P same h

  pub buildpack_refused_from : (done : List Descriptor) (o : Option Tree) (fault : ReadFault)
      → IfSome o (λ files. IsAnswer {A = List Descriptor} read_cause (Err fault)
      (followed_by (Ok done) (when_folder files place
      (versions_in files place id_folder (names_in files place)))))
      → IfSome o (λ files. IsAnswer {A = List Descriptor} read_cause (Err fault)
      (followed_by (Ok done) (buildpack_in files buildpacks id_folder)))
  buildpack_refused_from done o fault h = buildpack_from done o (Err fault) h

  pub buildpack_fits : (o : Option Tree) (x y : ℕ) → MayMisuse
      (option_map (λ files. not (is_folder (item_at files place))
      || are_fit_versions files place (names_in files place)) o) x y
      → MayMisuse (option_map (λ files. is_fit_buildpack files buildpacks id_folder) o) x y
  unfolding is_fit_buildpack
  buildpack_fits o x y h = let P : List ℕ → Type 0 = λ p. MayMisuse
      (option_map (λ files. not (is_folder (item_at files p)) || are_fit_versions files p (names_in files p)) o) x
      y in subst P same h

-- what the names of a folder need, by the names that were told
pub names_fit : (fit : Tree → List (List ℕ) → Bool) (folder : List ℕ) (names : List (List ℕ)) (o o1 : Option Tree)
    (x y : ℕ) → o1 ≡ o → IfSome o (λ files. told (names_in files folder) ≡ told names)
    → MayMisuse (option_map (λ files. fit files names) o1) x y
    → MayMisuse (option_map (λ files. fit files (names_in files folder)) o) x y
names_fit fit folder names None o1 x y e told h = let P : Option Tree
    → Type 0 = λ t. MayMisuse (option_map (λ files. fit files names) t) x y in subst P e h
names_fit fit folder names (Some files) o1 x y e told h =
    let P : Option Tree → Type 0 = λ t. MayMisuse (option_map (λ files. fit files names) t) x y in
    let Q : List (List ℕ) → Type 0 = λ ns. MayMisuse (Some (fit files ns)) x y in
    subst Q (sym (told_same (names_in files folder) names told)) (subst P e h)

-- a folder can be listed
pub listable : (folder : List ℕ) (o o1 : Option Tree) (x y : ℕ) → o1 ≡ o → IsFolder o folder true
    → MayMisuse (option_map (λ files. can_list files folder) o1) x y → y ≡ x
listable folder None o1 x y e is h = let P : Option Tree
    → Type 0 = λ t. MayMisuse (option_map (λ files. can_list files folder) t) x y in subst P e h
listable folder (Some files) o1 x y e is h =
    let P : Option Tree → Type 0 = λ t. MayMisuse (option_map (λ files. can_list files folder) t) x y in
    let Q : Bool → Type 0 = λ v. MayMisuse (Some v) x y in
    subst Q (told_same (is_folder (item_at files folder)) true is) (subst P e h)
