-- What `prune` does, in the order of its work.
use Rattle.std.specs.Prelude.{ℕ, List, map, Result, Ok}
use Rattle.cnb_words.specs.declared.prune.PruneWords.{PruneWords}
use Rattle.steps.specs.Each.{for_each}
use Rattle.steps.specs.Outside.{Seen}
use Rattle.steps.specs.Steps.{◌>>=◌, gives, removes, yields}
use Rattle.tree_store.specs.Store.{tree_path}
use Rattle.store_prune.specs.Faults.{cause_of}
use Rattle.store_prune.specs.Report.{pruned_text}
use Rattle.store_prune.specs.Surveys.{surveys}
use Rattle.store_prune.specs.declared.fault.PruneFault.{PruneFault}
use Rattle.store_prune.specs.declared.surveying.Pruned.{Pruned}

abbrev pub removes_next : List ℕ → Unit {0} → Seen → Result (Unit {0}) PruneFault → Seen → Type 0
removes_next path done = removes cause_of path

-- the files at these paths are removed, one after another
unfoldable pub removes_all : List (List ℕ) → Seen → Result (Unit {0}) PruneFault → Seen → Type 0
removes_all paths = for_each removes_next paths tt

-- the files of these trees are removed, in their order
unfoldable pub removes_trees : List ℕ → List (List ℕ) → Seen → Result (Unit {0}) PruneFault → Seen → Type 0
removes_trees store digests = do
  paths ← gives cause_of (Ok (map (tree_path store) digests))
  removes_all paths

unfoldable pub prunes : List ℕ → Seen → Result Pruned PruneFault → Seen → Type 0
prunes store = do
  pruned ← surveys store
  gone ← removes_trees store pruned.removed
  yields pruned

-- the command: the text is made before anything is removed
unfoldable pub prunes_command : PruneWords → Seen → Result (List ℕ) PruneFault → Seen → Type 0
prunes_command words = do
  pruned ← surveys words.store
  text ← gives cause_of (Ok (pruned_text pruned))
  gone ← removes_trees words.store pruned.removed
  yields text
