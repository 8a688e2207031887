-- The spelling of a tree, a piece after another.
use Rattle.std.specs.Prelude.{ℕ, List}
use Rattle.tree_canon.specs.Parts.{bytes_of_parts}
use Rattle.tree_canon.specs.declared.spelling.TreePieces.{TreePieces}

-- the bytes that are still to come
unfoldable pub bytes_left : TreePieces → List ℕ
bytes_left pieces = bytes_of_parts pieces.parts.items.items
