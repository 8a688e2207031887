-- Which nodes have a spelling.
use Rattle.std.specs.Prelude.{ℕ, suc, Bool, true, ◌&&◌, ◌^◌, List, [], ◌∷◌, length, nat_lt, nat_le, map, Option, Some}
use Rattle.std.specs.Prelude.{None}
use Rattle.tree_canon.specs.declared.node.Node.{Node}
use Rattle.tree_canon.specs.declared.node.Named.{Named}
use Rattle.tree_canon.specs.declared.node.Node.TheOpen.{Node-F, Named-F, Folder, File, Link}
use Rattle.tree_canon.specs.declared.node.Node.TheFolds.{fold-Node, fold-Named}
use Rattle.tree_canon.specs.Names.{is_name, is_target, follows}
use Rattle.tree_canon.specs.Spelling.{limit, spelling_of}

-- a name of the form, above the last one of its folder
abbrev pub name_fits : Option (List ℕ) → List ℕ → Bool
name_fits last name = is_name name && follows last name

-- an entry as its name, and whether its node fits at a depth
abbrev pub Fitting : Type 0
Fitting = List ℕ × (ℕ → Bool)

-- each entry fits behind the name before it
abbrev pub all_fit : Option (List ℕ) → List Fitting → ℕ → Bool
all_fit last [] depth = true
all_fit last (e ∷ es) depth = name_fits last e.0 && (e.1 depth && all_fit (Some e.0) es depth)

abbrev pub fit_step : Node-F (ℕ → Bool) Fitting → ℕ → Bool
fit_step (Folder all) depth = nat_le depth 64 && (nat_lt (length all) (2 ^ 32) && all_fit None all (suc depth))
fit_step (File exec bytes) depth = nat_le depth 64
fit_step (Link target) depth = nat_le depth 64 && is_target target

abbrev pub fit_entry_step : Named-F (ℕ → Bool) Fitting → Fitting
fit_entry_step e = (e.name, e.node)

-- whether a node fits at this depth: it isn't too deep, and names, targets and counts have their forms
abbrev pub fits : Node → ℕ → Bool
fits = fold-Node (ℕ → Bool) Fitting fit_step fit_entry_step

abbrev pub entry_fits : Named → Fitting
entry_fits = fold-Named (ℕ → Bool) Fitting fit_step fit_entry_step

-- whether these entries fit at this depth, behind a last name
abbrev pub entries_fit : Option (List ℕ) → List Named → ℕ → Bool
entries_fit last es depth = all_fit last (map entry_fits es) depth

-- whether the node is a tree: it fits at depth 0, and its spelling isn't too long
abbrev pub is_tree : Node → Bool
is_tree root = fits root 0 && nat_le (length (spelling_of root)) limit
