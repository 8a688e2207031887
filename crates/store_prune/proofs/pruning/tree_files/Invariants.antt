use Rattle.std.proofs.Common.{◌≡◌, map, take}
use Rattle.tree_store.specs.Store.{tree_path}
use Rattle.store_prune.proofs.pruning.tree_files.Given as goal

abbrev pub invariant-loop-digest : goal.invariant-loop-digest
invariant-loop-digest l = l.paths ≡ map (tree_path l.store) (take l.digest-index l.digests)
