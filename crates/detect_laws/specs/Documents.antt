-- Documents that are valid and within their limit.
use Rattle.std.specs.Prelude.{ℕ, ◌≡◌, ◌≤◌, ◌⊎◌, Bool, List, length, Some, None, Result, Ok}
use Rattle.cnb_toml.specs.declared.fault.DocFault.{DocFault}
use Rattle.cnb_world.specs.Tree.{Tree, item_at}
use Rattle.cnb_world.specs.declared.world.Item.TheVariants.{File}

-- At a path stands a regular file of at most 1,048,576 bytes, and these bytes read as this value.
pub record IsDocument {T : Type 0} (reads : List ℕ → Result T DocFault) (files : Tree) (path : List ℕ) (value : T)
    : Type 0 where
  pub exec : Bool
  pub bytes : List ℕ
  pub stands : item_at files path ≡ Some (File exec bytes)
  pub small : length bytes ≤ 1048576
  pub valid : reads bytes ≡ Ok value

-- At a path stands nothing, or a document that reads as a value of which this holds.
abbrev pub IsAbsentOr : {T : Type 0} → (List ℕ → Result T DocFault) → Tree → List ℕ → (T → Type 0) → Type 0
IsAbsentOr {T} reads files path Says = (item_at files path ≡ None)
    ⊎ ((value : T) × IsDocument reads files path value × Says value)
