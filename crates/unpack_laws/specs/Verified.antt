-- What unpacking an image that `verify` found whole is never refused for.
use Rattle.std.specs.Prelude.{ℕ, ◌≡◌, Bool, true, false, List, Some, Result, IfErr, IsTrue}
use Rattle.cnb_launch.specs.Unpacking.{unpacks}
use Rattle.cnb_launch.specs.declared.fault.LaunchFault.{LaunchFault}
use Rattle.cnb_launch.specs.declared.fault.LaunchFault.TheVariants.{Store}
use Rattle.cnb_world.specs.Path.{is_path}
use Rattle.cnb_world.specs.Tree.{Tree}
use Rattle.steps.specs.Outside.{Seen}
use Rattle.store_prune.specs.Verifying.{IsWhole}
use Rattle.tree_store.specs.Writing.{AreApart, trees_of}
use Rattle.tree_store.specs.declared.fault.StoreFault.TheVariants.{NoTree, Damaged}

-- refused for a tree that is missing or damaged
abbrev pub lacks_tree : LaunchFault → Bool
lacks_tree (Store (NoTree digest)) = true
lacks_tree (Store (Damaged asked found bad)) = true
lacks_tree fault = false

-- Where the files are told, and an image is whole, which is what `verify` says yes to, unpacking it under a root apart
-- from the folder of the trees is refused for neither.
abbrev pub UnpacksVerified : Type 0
UnpacksVerified = (store name root : List ℕ) (files : Tree) (count : ℕ)
    → IsWhole store name files count → IsTrue (is_path root) → AreApart root (trees_of store)
    → (old new : Seen) (result : Result (Unit {0}) LaunchFault) → old.files ≡ Some files
    → unpacks store name root old result new → IfErr result (λ fault. lacks_tree fault ≡ false)
