-- What a prune removes, as steps that read the store.
use Rattle.std.specs.Prelude.{ℕ, ◌-◌, List, length, Result, Ok}
use Rattle.steps.specs.Outside.{Seen}
use Rattle.steps.specs.Steps.{◌>>=◌, gives}
use Rattle.store_prune.specs.Digests.{unnamed}
use Rattle.store_prune.specs.Faults.{cause_of}
use Rattle.store_prune.specs.Named.{reads_named}
use Rattle.store_prune.specs.Trees.{reads_trees}
use Rattle.store_prune.specs.declared.fault.PruneFault.{PruneFault}
use Rattle.store_prune.specs.declared.surveying.Pruned.{Pruned}

-- of some tree files those that aren't named are removed, in their order
abbrev pub pruned_of : List (List ℕ) → List (List ℕ) → Pruned
pruned_of named trees = record { kept = length trees - length (unnamed named trees); removed = unnamed named trees }

-- all documents are read, then the tree files are listed
unfoldable pub surveys : List ℕ → Seen → Result Pruned PruneFault → Seen → Type 0
surveys store = do
  named ← reads_named store
  trees ← reads_trees store
  gives cause_of (Ok (pruned_of named trees))
