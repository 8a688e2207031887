-- A folder of the platform's environment files each of which can be a variable's value.
use Rattle.std.specs.Prelude.{ℕ, ◌≡◌, ◌≤◌, ◌⊎◌, ◌==◌, false, List, length, Option, Some, None, IsTrue}
use Rattle.std.specs.List.{AllByRecursion, list_any}
use Rattle.cnb_env.specs.Contents.{is_utf8}
use Rattle.cnb_env.specs.Names.{is_no_variable}
use Rattle.cnb_world.specs.Listing.{names_in}
use Rattle.cnb_world.specs.Path.{joined}
use Rattle.cnb_world.specs.Tree.{Tree, is_folder, item_at}
use Rattle.cnb_world.specs.declared.world.Item.{Item}
use Rattle.cnb_world.specs.declared.world.Item.TheVariants.{File, Folder, Link, Odd}

-- A regular file has at most 1,048,576 bytes, which are UTF-8 without a zero byte. What else stands there is passed
-- over.
abbrev pub IsSoundValue : Option Item → Type 0
IsSoundValue (Some (File exec bytes)) = (length bytes ≤ 1048576) × IsTrue (is_utf8 bytes)
    × (list_any (λ byte. byte == 0) bytes ≡ false)
IsSoundValue (Some Folder) = Unit {0}
IsSoundValue (Some (Link target)) = Unit {0}
IsSoundValue (Some Odd) = Unit {0}
IsSoundValue None = Unit {0}

-- A name that can't be a variable's is passed over; what stands at another can be its value.
abbrev pub IsSoundVariable : Tree → List ℕ → List ℕ → Type 0
IsSoundVariable files folder name = (is_no_variable name ≡ false) → IsSoundValue (item_at files (joined folder name))

-- There is no such folder, or all that stands in it is so.
abbrev pub AreSoundVariables : Tree → List ℕ → Type 0
AreSoundVariables files folder = (item_at files folder ≡ None) ⊎ (IsTrue (is_folder (item_at files folder))
    × AllByRecursion (IsSoundVariable files folder) (names_in files folder))
