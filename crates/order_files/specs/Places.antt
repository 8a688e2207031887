-- Which folders a descriptor belongs to.
use Rattle.std.specs.Prelude.{ℕ, ◌≡◌, ◌&&◌, Bool, false, List, Option, Some, None}
use Rattle.std.specs.List.{list_any}
use Rattle.std.specs.Str.{bytes_eq}
use Rattle.cnb_toml.specs.Names.{folder_of}
use Rattle.bp_docs.specs.declared.descriptor.Descriptor.{Descriptor}

-- a descriptor belongs to the folder of its version in that of its id
abbrev pub BelongsTo : List ℕ → List ℕ → Descriptor → Type 0
BelongsTo id_folder version descriptor = (folder_of descriptor.key.id ≡ id_folder) × (descriptor.key.version ≡ version)

abbrev pub IsPlaced : List ℕ → List ℕ → Option Descriptor → Type 0
IsPlaced id_folder version None = Unit {0}
IsPlaced id_folder version (Some descriptor) = BelongsTo id_folder version descriptor

abbrev pub belongs_to : List ℕ → List ℕ → Descriptor → Bool
belongs_to id_folder version descriptor = bytes_eq (folder_of descriptor.key.id) id_folder
    && bytes_eq descriptor.key.version version

-- whether a descriptor of a version's folder is there
unfoldable pub has_place : List Descriptor → List ℕ → List ℕ → Bool
has_place catalog id_folder version = list_any (belongs_to id_folder version) catalog

-- nothing came of another version's folder
abbrev pub KeepsOthers : List ℕ → List ℕ → List Descriptor → List Descriptor → Type 0
KeepsOthers id_folder version old new = (folder other : List ℕ)
    → (bytes_eq id_folder folder && bytes_eq version other) ≡ false
    → has_place new folder other ≡ has_place old folder other

-- nothing came of another id's folder
abbrev pub KeepsOtherIds : List ℕ → List Descriptor → List Descriptor → Type 0
KeepsOtherIds id_folder old new = (folder version : List ℕ) → bytes_eq id_folder folder ≡ false
    → has_place new folder version ≡ has_place old folder version
