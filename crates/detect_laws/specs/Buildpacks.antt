-- A folder of buildpacks each of whose descriptors is valid (platform.md, "Buildpacks Directory Layout").
use Rattle.std.specs.Prelude.{ℕ, List, IsTrue}
use Rattle.std.specs.List.{AllByRecursion}
use Rattle.bp_docs.specs.Descriptor.{descriptor_in}
use Rattle.cnb_world.specs.Listing.{names_in}
use Rattle.cnb_world.specs.Path.{joined}
use Rattle.cnb_world.specs.Tree.{Tree, is_folder, item_at}
use Rattle.order_files.specs.Descriptor.{descriptor_path}
use Rattle.order_files.specs.Places.{BelongsTo}
use Rattle.detect_laws.specs.Documents.{IsAbsentOr}

-- Where a name in the folder of an id is that of a folder, this has no `buildpack.toml`, or a valid one whose id and
-- version are those of the two folders.
abbrev pub IsSoundVersion : Tree → List ℕ → List ℕ → List ℕ → Type 0
IsSoundVersion files folder id_folder version = IsTrue (is_folder (item_at files (joined folder version)))
    → IsAbsentOr descriptor_in files (descriptor_path (joined folder version)) (BelongsTo id_folder version)

-- Where a name in the folder of buildpacks is that of a folder, all its versions are so.
abbrev pub IsSoundId : Tree → List ℕ → List ℕ → Type 0
IsSoundId files buildpacks id_folder = IsTrue (is_folder (item_at files (joined buildpacks id_folder)))
    → AllByRecursion (IsSoundVersion files (joined buildpacks id_folder) id_folder)
    (names_in files (joined buildpacks id_folder))

-- The folder of buildpacks is there, and all its ids are so.
pub record AreSoundBuildpacks (files : Tree) (buildpacks : List ℕ) : Type 0 where
  pub folder : IsTrue (is_folder (item_at files buildpacks))
  pub ids : AllByRecursion (IsSoundId files buildpacks) (names_in files buildpacks)
