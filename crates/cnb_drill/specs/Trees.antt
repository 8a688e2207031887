-- The trees of the drill: folders of sixteen files that hold the same bytes.
use Rattle.std.specs.Prelude.{ℕ, ◌+◌, ◌*◌, ◌/◌, ◌%◌, false, List, [], ◌∷◌, map, replicate}
use Rattle.plan_resolve.specs.Trials.{numbers_below}
use Rattle.tree_canon.specs.declared.node.Node.{Node}
use Rattle.tree_canon.specs.declared.node.Node.TheVariants.{Folder, File}
use Rattle.tree_canon.specs.declared.node.Named.{Named}

-- `f00` to `f15`
abbrev pub file_name : ℕ → List ℕ
file_name place = 102 ∷ (48 + place / 10) ∷ (48 + place % 10) ∷ []

abbrev pub drill_file : List ℕ → List ℕ → Named
drill_file bytes name = record { name = name; node = File false bytes }

abbrev pub drill_tree : List ℕ → Node
drill_tree bytes = Folder (map (λ place. drill_file bytes (file_name place)) (numbers_below 16))

-- what the files of a tree hold
unfoldable pub contents : ℕ → List ℕ
contents tree = replicate (65536 * (tree + 1)) tree
