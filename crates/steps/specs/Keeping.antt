-- What stands where, before and after steps.
use Rattle.std.specs.Prelude.{ℕ, ◌≡◌, ◌⊎◌, ◌++◌, Bool, false, not, List, [], ◌∷◌, Option, Some}
use Rattle.std.specs.List.{AllByRecursion, list_any}
use Rattle.std.specs.Option.{option_map}
use Rattle.std.specs.Str.{bytes_eq}
use Rattle.cnb_world.specs.Path.{beside, parent_of}
use Rattle.cnb_world.specs.Runs.{Run}
use Rattle.cnb_world.specs.Tree.{Tree, item_at, folders_above}
use Rattle.cnb_world.specs.declared.world.Item.{Item}
use Rattle.cnb_world.specs.declared.world.Item.TheVariants.{File}
use Rattle.steps.specs.Outside.{Seen}

-- what stands at a path, where it is told
abbrev pub standing : Option Tree → List ℕ → Option (Option Item)
standing files path = option_map (λ t. item_at t path) files

-- what stands at a path is what stood there, or a whole file of bytes of which this holds
abbrev pub IsOldOrNew : Option Tree → Option Tree → List ℕ → (List ℕ → Type 0) → Type 0
IsOldOrNew old new path Says =
    (standing new path ≡ standing old path) ⊎ ((bytes : List ℕ) × Says bytes
    × (standing new path ≡ option_map (λ files. Some (File false bytes)) old))

-- the paths where a folder may come to stand, where this one is made
abbrev pub folder_paths : List ℕ → List (List ℕ)
folder_paths path = folders_above path ++ path ∷ []

-- the paths that a write of a document touches: its own, the one beside it that is written first, and the folders above
abbrev pub touched : List ℕ → List (List ℕ)
touched path = path ∷ beside path ∷ folder_paths (parent_of path)

-- the path is none of these
abbrev pub is_free : List (List ℕ) → List ℕ → Bool
is_free paths path = not (list_any (bytes_eq path) paths)

-- the child left what stood at the path
abbrev pub Spares : List ℕ → Run → Type 0
Spares path run = standing run.left path ≡ standing run.found path

-- where each new child left what stood at the path, it stands
pub record Keeps (path : List ℕ) (old new : Seen) : Type 0 where
  pub rows : List Run
  pub runs : new.runs ≡ old.runs ++ rows
  pub stands : AllByRecursion (Spares path) rows → standing new.files path ≡ standing old.files path
