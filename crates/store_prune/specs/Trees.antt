-- The tree files of a store, as steps that look for them.
use Rattle.std.specs.Prelude.{ℕ, ◌++◌, Bool, List, [], ◌∷◌, Option, Some, None, Result, Ok, if◌then◌else◌}
use Rattle.steps.specs.Each.{for_each}
use Rattle.steps.specs.Outside.{Seen}
use Rattle.steps.specs.Steps.{◌>>=◌, gives, yields}
use Rattle.tree_store.specs.Store.{tree_path}
use Rattle.tree_store.specs.Writing.{trees_of}
use Rattle.store_prune.specs.Digests.{tree_digest}
use Rattle.store_prune.specs.Faults.{cause_of}
use Rattle.store_prune.specs.Listing.{lists, looks_for_file}
use Rattle.store_prune.specs.declared.fault.PruneFault.{PruneFault}

abbrev pub with_tree : List (List ℕ) → List ℕ → Bool → List (List ℕ)
with_tree trees digest there = if there then trees ++ digest ∷ [] else trees

-- a digest more, if its tree's file is a regular file
unfoldable pub adds_digest : List ℕ → Option (List ℕ) → List (List ℕ) → Seen → Result (List (List ℕ)) PruneFault
    → Seen → Type 0
adds_digest store None trees = yields trees
adds_digest store (Some digest) trees = looks_for_file (tree_path store digest)
    >>= (λ there. gives cause_of (Ok (with_tree trees digest there)))

-- what a name in the folder of the trees' files gives
unfoldable pub adds_tree : List ℕ → List ℕ → List (List ℕ) → Seen → Result (List (List ℕ)) PruneFault → Seen → Type 0
adds_tree store name trees = adds_digest store (tree_digest name) trees

-- the digests of the tree files, ascending
unfoldable pub reads_trees : List ℕ → Seen → Result (List (List ℕ)) PruneFault → Seen → Type 0
reads_trees store = lists (trees_of store) >>= (λ names. for_each (adds_tree store) names [])
