-- Where the file of a tree is written whose digest isn't known yet, and what is left of all other files.
use Rattle.std.specs.Prelude.{ℕ, false, ◌⊎◌, ◌≡◌, ◌&&◌, Bool, List, codes, Option, Some, None, Result, IfErr, IsTrue}
use Rattle.std.specs.FinMap.{insert}
use Rattle.cnb_world.specs.Path.{joined}
use Rattle.cnb_world.specs.Tree.{Tree, can_make_folder, folder_made, is_file_or_absent, item_at}
use Rattle.cnb_world.specs.declared.world.Item.TheVariants as item
use Rattle.steps.specs.Causes.{CountsFiles, IsReadCause}
use Rattle.steps.specs.Outside.{Seen}
use Rattle.tree_store.specs.Answers.{cause_of}
use Rattle.tree_store.specs.Around.{LeavesAround}
use Rattle.tree_store.specs.declared.fault.StoreFault.{StoreFault}

-- the folder of the trees' files
abbrev pub trees_of : List ℕ → List ℕ
trees_of store = joined store (codes "trees")

-- where the file of a tree is written whose digest isn't known yet
abbrev pub new_path : List ℕ → List ℕ
new_path store = joined (trees_of store) (codes "new")

-- the files where one of these bytes stands there
abbrev pub begun_with : List ℕ → List ℕ → Tree → Tree
begun_with store bytes files = insert (folder_made (trees_of store) files) (new_path store) (item.File false bytes)

-- where it may be begun: where a file or nothing stands, and its folder can be made
abbrev pub can_begin : List ℕ → Tree → Bool
can_begin store files = is_file_or_absent (item_at files (new_path store)) && can_make_folder files (trees_of store)

-- what stands at a path stood there before, or it is a file or nothing
abbrev pub KeepsFile : List ℕ → Tree → Tree → Type 0
KeepsFile path old new = (item_at new path ≡ item_at old path) ⊎ IsTrue (is_file_or_absent (item_at new path))

-- the same of files that may not be told
unfoldable pub KeptFile : List ℕ → Option Tree → Option Tree → Type 0
KeptFile path None None = Unit {0}
KeptFile path None (Some new) = ⊥
KeptFile path (Some old) None = ⊥
KeptFile path (Some old) (Some new) = KeepsFile path old new

-- What a call leaves that writes at no path but this one, whatever stands there: all but what is at that path, or a
-- folder above it that was made; and at the path what was there, or a file or nothing. A refusal for a failed call
-- comes where the count rose, with the path whose call failed last.
pub record LeavesButFile {A : Type 0} (file : List ℕ) (old : Seen) (result : Result A StoreFault)
    (new : Seen) : Type 0 where
  pub around : LeavesAround file old new
  pub place : KeptFile file old.files new.files
  pub children : new.child_faults ≡ old.child_faults
  pub counts : CountsFiles cause_of result old.file_faults new.file_faults
  pub cause : IfErr result (λ fault. IsReadCause new.failed_at (cause_of fault))
