-- Trees by their digests.
use Rattle.std.specs.Prelude.{ℕ, ◌≡◌, List}
use Rattle.sha2.specs.Sha256.{sha256}
use Rattle.tree_canon.specs.Spelling.{spelling_of}
use Rattle.tree_canon.specs.declared.node.Node.{Node}

-- a tree whose spelling has a digest
pub record HasTree (digest : List ℕ) : Type 0 where
  pub tree : Node
  pub digest_is : sha256 (spelling_of tree) ≡ digest
