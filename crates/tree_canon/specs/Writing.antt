-- What the measuring of nodes asks and gives, which private calls alone speak of.
use Rattle.std.specs.Prelude.{◌≡◌, ◌≤◌, if◌then◌else◌, ℕ, true, length, nat_le, Option, Some, None}
use Rattle.tree_canon.specs.declared.node.Node.{Node}
use Rattle.tree_canon.specs.Spelling.{limit, spelling_of}
use Rattle.tree_canon.specs.Fits.{fits}

-- a number of bytes, unless it is more than a spelling may have
abbrev pub room : ℕ → Option ℕ
room n = if nat_le n limit then Some n else None

-- a tree, and the length of its spelling
pub record IsMeasured (root : Node) (bytes : ℕ) : Type 0 where
  pub fit : fits root 0 ≡ true
  pub few : bytes ≤ limit
  pub is : bytes ≡ length (spelling_of root)
