-- Hashing a tree's spelling piece after piece.
use Rattle.std.proofs.Common.{◌≡◌, ℕ, List, [], ◌++◌}
use Rattle.sha2.specs.Hashers.{Holds256}
use Rattle.sha2.specs.declared.Sha256.{Sha256}
use Rattle.tree_canon.specs.Spelling.{spelling_of}
use Rattle.tree_canon.specs.declared.node.Node.{Node}

-- What was hashed, the piece and what is left are a tree's spelling, and an empty piece is the last one.
pub record HasHashed (hasher : Sha256) (piece left : List ℕ) (tree : Node) : Type 0 where
  pub taken : List ℕ
  pub hashed : Holds256 hasher taken
  pub all : taken ++ (piece ++ left) ≡ spelling_of tree
  pub end : piece ≡ [] → left ≡ []
