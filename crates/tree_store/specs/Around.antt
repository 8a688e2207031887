-- What laying something at a path leaves of all that isn't there, whether it went well or not.
use Rattle.std.specs.Prelude.{ℕ, true, false, ◌≡◌, ◌≤◌, ◌⊎◌, List, Option, Some, None}
use Rattle.std.specs.List.{list_any}
use Rattle.std.specs.Str.{bytes_eq}
use Rattle.cnb_world.specs.Tree.{Tree, item_at, is_within, folders_above}
use Rattle.cnb_world.specs.declared.world.Item.TheVariants as item
use Rattle.steps.specs.Outside.{Seen}

-- a folder above a path was made, where nothing stood
pub record IsMadeAbove (path other : List ℕ) (old new : Tree) : Type 0 where
  pub above : list_any (bytes_eq other) (folders_above path) ≡ true
  pub before : item_at old other ≡ None
  pub after : item_at new other ≡ Some item.Folder

-- What is neither at a path nor below it stands as before, but that a folder above it may have been made.
abbrev pub KeepsAround : List ℕ → Tree → Tree → Type 0
KeepsAround path old new = (other : List ℕ) → is_within path other ≡ false
    → (item_at new other ≡ item_at old other) ⊎ IsMadeAbove path other old new

-- the same of files that may not be told
unfoldable pub KeptAround : List ℕ → Option Tree → Option Tree → Type 0
KeptAround path None None = Unit {0}
KeptAround path None (Some new) = ⊥
KeptAround path (Some old) None = ⊥
KeptAround path (Some old) (Some new) = KeepsAround path old new

-- and no child ran
pub record LeavesAround (path : List ℕ) (old new : Seen) : Type 0 where
  pub files : KeptAround path old.files new.files
  pub runs : new.runs ≡ old.runs
  pub misused : old.misused ≤ new.misused
