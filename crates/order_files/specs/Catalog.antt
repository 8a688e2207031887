-- The buildpacks of a folder (platform.md, "Buildpacks Directory Layout").
use Rattle.std.specs.Prelude.{ℕ, ◌≡◌, ◌⊎◌, IsTrue, Bool, not, ◌&&◌, ◌||◌, List, [], ◌∷◌, ◌++◌, if◌then◌else◌, Option}
use Rattle.std.specs.Prelude.{Some, None, Result, Ok, Err}
use Rattle.std.specs.List.{list_all}
use Rattle.cnb_world.specs.Listing.{names_in}
use Rattle.cnb_world.specs.Path.{is_part, joined}
use Rattle.cnb_world.specs.Steps.{◌>>=◌}
use Rattle.cnb_world.specs.Tree.{Tree, is_folder, item_at}
use Rattle.bp_docs.specs.declared.descriptor.Descriptor.{Descriptor}
use Rattle.order_files.specs.Descriptor.{descriptor_at, descriptor_path, is_fit_descriptor}
use Rattle.doc_files.specs.Reading.{names_at}
use Rattle.doc_files.specs.declared.fault.ReadFault.{ReadFault}

-- descriptors in front of others; the first fault decides
abbrev pub followed_by : Result (List Descriptor) ReadFault → Result (List Descriptor) ReadFault
    → Result (List Descriptor) ReadFault
followed_by (Ok front) (Ok back) = Ok (front ++ back)
followed_by (Ok front) (Err fault) = Err fault
followed_by (Err fault) back = Err fault

abbrev pub listed : Result (Option Descriptor) ReadFault → Result (List Descriptor) ReadFault
listed (Ok None) = Ok []
listed (Ok (Some descriptor)) = Ok (descriptor ∷ [])
listed (Err fault) = Err fault

-- what a name in the folder of an id gives: the descriptor of a version, where the name is a folder's
unfoldable pub version_in : Tree → List ℕ → List ℕ → List ℕ → Result (List Descriptor) ReadFault
version_in files folder id_folder version =
    if is_folder (item_at files (joined folder version)) then listed
    (descriptor_at files (joined folder version) id_folder version) else Ok []

abbrev pub versions_in : Tree → List ℕ → List ℕ → List (List ℕ) → Result (List Descriptor) ReadFault
versions_in files folder id_folder [] = Ok []
versions_in files folder id_folder (version ∷ versions) = followed_by (version_in files folder id_folder version)
    (versions_in files folder id_folder versions)

-- what a name in the folder of buildpacks gives: the versions of an id, ascending, where the name is a folder's
unfoldable pub buildpack_in : Tree → List ℕ → List ℕ → Result (List Descriptor) ReadFault
buildpack_in files buildpacks id_folder =
    if is_folder (item_at files (joined buildpacks id_folder))
    then versions_in files (joined buildpacks id_folder) id_folder (names_in files (joined buildpacks id_folder))
    else Ok []

abbrev pub buildpacks_in : Tree → List ℕ → List (List ℕ) → Result (List Descriptor) ReadFault
buildpacks_in files buildpacks [] = Ok []
buildpacks_in files buildpacks (id_folder ∷ id_folders) = followed_by (buildpack_in files buildpacks id_folder)
    (buildpacks_in files buildpacks id_folders)

-- all buildpacks of a folder: ids ascending by their folders, and of each its versions ascending
unfoldable pub catalog_in : List ℕ → Tree → Result (List Descriptor) ReadFault
catalog_in buildpacks files = names_at files buildpacks >>= buildpacks_in files buildpacks

-- what is read of a version: its folder, and the document of its descriptor
abbrev pub IsOfVersion : List ℕ → List ℕ → Type 0
IsOfVersion folder path = (path ≡ folder) ⊎ (path ≡ descriptor_path folder)

-- what is read of an id: its folder, and its versions
abbrev pub IsOfId : List ℕ → List ℕ → Type 0
IsOfId folder path = (path ≡ folder) ⊎ ((version : List ℕ) × IsTrue (is_part version)
    × IsOfVersion (joined folder version) path)

-- what is read of a folder of buildpacks: itself, and its ids
abbrev pub IsOfCatalog : List ℕ → List ℕ → Type 0
IsOfCatalog buildpacks path = (path ≡ buildpacks)
    ⊎ ((id_folder : List ℕ) × IsTrue (is_part id_folder) × IsOfId (joined buildpacks id_folder) path)

-- a name in the folder of an id is no folder, or one that can be read
unfoldable pub is_fit_version : Tree → List ℕ → List ℕ → Bool
is_fit_version files folder version = not (is_folder (item_at files (joined folder version)))
    || is_fit_descriptor files (joined folder version)

abbrev pub are_fit_versions : Tree → List ℕ → List (List ℕ) → Bool
are_fit_versions files folder versions = list_all (is_fit_version files folder) versions

unfoldable pub is_fit_buildpack : Tree → List ℕ → List ℕ → Bool
is_fit_buildpack files buildpacks id_folder =
    not (is_folder (item_at files (joined buildpacks id_folder)))
    || are_fit_versions files (joined buildpacks id_folder) (names_in files (joined buildpacks id_folder))

-- the folder of buildpacks is one, and each descriptor's document is a file or isn't there
unfoldable pub is_fit_catalog : List ℕ → Tree → Bool
is_fit_catalog buildpacks files = is_folder (item_at files buildpacks)
    && list_all (is_fit_buildpack files buildpacks) (names_in files buildpacks)
