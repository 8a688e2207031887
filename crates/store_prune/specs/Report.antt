-- What `prune` and `verify` print.
use Rattle.std.specs.Prelude.{ℕ, List, [], ◌∷◌, ◌++◌, codes, flat_map}
use Rattle.std.specs.Fmt.{decimal}
use Rattle.hex.specs.Hex.{encode_lower}
use Rattle.store_prune.specs.declared.surveying.Pruned.{Pruned}

abbrev pub line_feed : List ℕ
line_feed = 10 ∷ []

-- a tree that is removed
abbrev pub removed_line : List ℕ → List ℕ
removed_line digest = codes "removed " ++ encode_lower digest ++ line_feed

-- how many are left
abbrev pub kept_line : ℕ → List ℕ
kept_line kept = codes "kept " ++ decimal kept ++ line_feed

-- a line for each tree that is removed, and how many are left
abbrev pub pruned_text : Pruned → List ℕ
pruned_text pruned = flat_map removed_line pruned.removed ++ kept_line pruned.kept

-- the image, and how many trees it has
abbrev pub verified_text : List ℕ → ℕ → List ℕ
verified_text name count = codes "verified " ++ name ++ codes " " ++ decimal count ++ codes " trees" ++ line_feed
