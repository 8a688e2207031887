-- What checking a tree's file answers, and what the bytes taken so far say of it.
use Rattle.std.specs.Prelude.{ℕ, List, Option, Result, Ok, Err}
use Rattle.sha2.specs.Hashers.{Holds256}
use Rattle.cnb_world.specs.declared.world.Item.{Item}
use Rattle.tree_canon.specs.Feeding.{Fed}
use Rattle.tree_canon.specs.Scans.{Scans}
use Rattle.tree_canon.specs.declared.node.Node.{Node}
use Rattle.tree_canon.specs.Judging.{IsFed}
use Rattle.tree_store.specs.Store.{Gets, GetsOf}
use Rattle.tree_store.specs.declared.checking.TreeCheck.{TreeCheck}
use Rattle.tree_store.specs.declared.fault.StoreFault.{StoreFault}

-- that getting the tree of these bytes answers one, or the same refusal
abbrev pub ChecksOf : List ℕ → List ℕ → Result Unit StoreFault → Type 0
ChecksOf digest bytes (Ok done) = (root : Node) × GetsOf digest bytes (Ok root)
ChecksOf digest bytes (Err fault) = GetsOf digest bytes (Err fault)

-- and of what stands at the path
abbrev pub Checks : List ℕ → Option Item → Result Unit StoreFault → Type 0
Checks digest found (Ok done) = (root : Node) × Gets digest found (Ok root)
Checks digest found (Err fault) = Gets digest found (Err fault)

-- the bytes were hashed and scanned
pub record HasChecked (checking : TreeCheck) (bytes : List ℕ) : Type 0 where
  pub hashed : Holds256 checking.hasher bytes
  pub fed : Fed
  pub scanned : Scans checking.scan fed
  pub is : IsFed bytes fed
