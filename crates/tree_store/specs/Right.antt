-- Where laying makes calls of the right kind.
use Rattle.std.specs.Prelude.{ℕ, true, ◌≡◌, List, ◌∷◌, Option, Some, None}
use Rattle.std.specs.List.{list_any}
use Rattle.std.specs.Str.{bytes_eq}
use Rattle.cnb_world.specs.Path.{parent_of}
use Rattle.cnb_world.specs.Tree.{Tree, folders_above, is_folder, item_at}

-- folders stand at these paths
unfoldable pub AreFolders : List (List ℕ) → Option Tree → Type 0
AreFolders paths None = Unit {0}
AreFolders paths (Some files) = (path : List ℕ) → list_any (bytes_eq path) paths ≡ true
    → is_folder (item_at files path) ≡ true

-- the folder that a path stands in, and those above it
abbrev pub way_to : List ℕ → List (List ℕ)
way_to path = parent_of path ∷ folders_above path

-- a folder, and those above it
abbrev pub way_into : List ℕ → List (List ℕ)
way_into path = path ∷ folders_above path
