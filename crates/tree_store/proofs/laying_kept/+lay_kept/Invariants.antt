use Rattle.std.proofs.Common.{◌≡◌, ◌+◌, ◌-◌, ◌*◌, ℕ, List, None, Ok, true, length}
use Rattle.steps.specs.Outside.{seen}
use Rattle.tree_canon.specs.Fits.{entries_fit}
use Rattle.tree_canon.specs.declared.node.Named.{Named}
use Rattle.tree_store.specs.Origin.{Leaves}
use Rattle.tree_store.specs.Source.{source_seen}
use Rattle.tree_store.proofs.KeptPartly.{EntriesBegun}
use Rattle.tree_store.proofs.Takes.{EntriesTaken}
use Rattle.tree_store.proofs.laying_kept.+lay_kept.Given as goal

abbrev pub decreases-lay_kept_node : goal.decreases-lay_kept_node
decreases-lay_kept_node g l = 4 * (66 - l.depth) + 1

abbrev pub decreases-lay_kept_folder : goal.decreases-lay_kept_folder
decreases-lay_kept_folder g l = 4 * (66 - l.depth)

abbrev pub decreases-lay_kept_entries : goal.decreases-lay_kept_entries
decreases-lay_kept_entries g l = 4 * (66 - l.depth) + 3

abbrev pub decreases-lay_kept_entry : goal.decreases-lay_kept_entry
decreases-lay_kept_entry g l = 4 * (66 - l.depth) + 2

abbrev pub invariant-lay_kept_entries-loop-left : goal.invariant-lay_kept_entries-loop-left
invariant-lay_kept_entries-loop-left g l = record {
  leaves : Leaves {A = Unit {0}} l.path (g.O.Origin.state l.fn.source.origin) (seen g.W.World l.fn.world) (Ok tt)
      (g.O.Origin.state l.source.origin)
      (seen g.W.World l.world);
  begun : (all : List Named) (rest : List ℕ) → length all ≡ l.count → entries_fit None all l.depth ≡ true
      → EntriesBegun l.path l.depth all rest l.left l.last (source_seen g.O.Origin.state l.fn.source)
      (seen g.W.World l.fn.world) (source_seen g.O.Origin.state l.source)
      (seen g.W.World l.world);
  taken : EntriesTaken l.path l.depth l.count l.left l.last (source_seen g.O.Origin.state l.fn.source)
      (seen g.W.World l.fn.world) (source_seen g.O.Origin.state l.source)
      (seen g.W.World l.world);
}

abbrev pub decreases-lay_kept_entries-loop-left : goal.decreases-lay_kept_entries-loop-left
decreases-lay_kept_entries-loop-left g l = l.left
