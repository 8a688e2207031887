-- Images whose trees are all in the store, by the files at one moment.
use Rattle.std.specs.Prelude.{ℕ, ◌≡◌, List, length, Option, Result, Ok, Err, IfSome}
use Rattle.std.specs.List.{AllByRecursion}
use Rattle.cnb_world.specs.Tree.{Tree, item_at}
use Rattle.image_docs.specs.declared.image.ImageDoc.{ImageDoc}
use Rattle.image_files.specs.Images.{image_at}
use Rattle.steps.specs.Causes.{WhereDecided}
use Rattle.tree_canon.specs.declared.node.Node.{Node}
use Rattle.tree_store.specs.Store.{Gets, tree_path}
use Rattle.store_prune.specs.Faults.{verify_cause}
use Rattle.store_prune.specs.Report.{verified_text}
use Rattle.store_prune.specs.Verifies.{trees_of_rows}
use Rattle.store_prune.specs.declared.fault.VerifyFault.{VerifyFault}

-- the store has a file that spells a tree of this digest
pub record HasTreeFile (store : List ℕ) (files : Tree) (digest : List ℕ) : Type 0 where
  pub tree : Node
  pub gets : Gets digest (item_at files (tree_path store digest)) (Ok tree)

-- an image is there and valid, and the store has each tree of its rows; they are so many
pub record IsWhole (store name : List ℕ) (files : Tree) (count : ℕ) : Type 0 where
  pub image : ImageDoc
  pub read : image_at store name files ≡ Ok image
  pub trees : AllByRecursion (HasTreeFile store files) (trees_of_rows image)
  pub counted : count ≡ length (trees_of_rows image)

-- yes exactly where the image is whole, unless a call failed or memory ran out
abbrev pub VerifiesExactly : List ℕ → List ℕ → Option Tree → Result ℕ VerifyFault → Type 0
VerifiesExactly store name old (Ok count) = IfSome old (λ files. IsWhole store name files count)
VerifiesExactly store name old (Err fault) = IfSome old
    (λ files. WhereDecided (verify_cause fault) ((count : ℕ) → IsWhole store name files count → ⊥))

-- the same of the command, which prints how many trees the image has
abbrev pub VerifiesPrinted : List ℕ → List ℕ → Option Tree → Result (List ℕ) VerifyFault → Type 0
VerifiesPrinted store name old (Ok text) = (count : ℕ) × (text ≡ verified_text name count)
    × VerifiesExactly store name old (Ok count)
VerifiesPrinted store name old (Err fault) = VerifiesExactly store name old (Err fault)
