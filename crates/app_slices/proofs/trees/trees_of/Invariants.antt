use Rattle.std.proofs.Common.{◌≡◌, ℕ, ◌≤◌}
use Rattle.std.specs.List.{filter_map, range_with_len}
use Rattle.std.specs.Option.{option_map}
use Rattle.tree_canon.specs.declared.node.Node.TheVariants as node
use Rattle.app_slices.specs.Cutting.{entries_at}
use Rattle.app_slices.proofs.trees.trees_of.Given as goal

abbrev pub invariant-loop-slot : goal.invariant-loop-slot
invariant-loop-slot l = record {
  trees : l.trees ≡ filter_map (λ k. option_map node.Folder (entries_at l.fn.parts k)) (range_with_len 0 l.slot);
  others : (k : ℕ) → l.slot ≤ k → entries_at l.parts k ≡ entries_at l.fn.parts k;
}
