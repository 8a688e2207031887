-- Parts of a tree's spelling that are still to be written.
use Rattle.std.specs.Prelude.{ℕ, ◌≡◌, ◌≤◌, ◌+◌, ◌++◌, List, [], ◌∷◌, length}
use Rattle.tree_canon.specs.Spelling.{entries_bytes, node_bytes}
use Rattle.tree_canon.specs.declared.parts.Part.{Part}
use Rattle.tree_canon.specs.declared.parts.Part.TheVariants.{Node, Entries, Bytes}

abbrev pub part_bytes : Part → List ℕ
part_bytes (Node node) = node_bytes node.now
part_bytes (Entries all) = entries_bytes all.now
part_bytes (Bytes bytes) = bytes.now

-- the bytes of parts, the last one first
abbrev pub bytes_of_parts : List Part → List ℕ
bytes_of_parts [] = []
bytes_of_parts (part ∷ parts) = bytes_of_parts parts ++ part_bytes part

-- Of these bytes and those of the parts, the first ones are written behind what was written, and the others are left as
-- parts.
pub record Writes (bytes : List ℕ) (written : List ℕ) (parts : List Part) (after : List ℕ)
    (left : List Part) : Type 0 where
  pub all : after ++ bytes_of_parts left ≡ written ++ (bytes ++ bytes_of_parts parts)
  pub fewer : length (bytes_of_parts left) + length left ≤ length bytes + (length (bytes_of_parts parts) + length parts)
