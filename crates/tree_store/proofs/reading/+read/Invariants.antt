use Rattle.std.proofs.Common.{◌≡◌, ◌≤◌, ◌+◌, ◌-◌, ◌*◌, drop, length, None, true}
use Rattle.cnb_world.specs.Calls.{AreNames}
use Rattle.tree_canon.specs.CutTree.{last_name}
use Rattle.tree_canon.specs.Fits.{entries_fit}
use Rattle.tree_canon.specs.Spelling.{limit, entries_bytes}
use Rattle.tree_store.proofs.Entries.{Leaves}
use Rattle.tree_store.proofs.Fitting.{FollowAll}
use Rattle.tree_store.proofs.reading.+read.Given as goal

abbrev pub decreases-read_entries : goal.decreases-read_entries
decreases-read_entries g l = 4 * l.levels + 2

abbrev pub decreases-read_entry : goal.decreases-read_entry
decreases-read_entry g l = 4 * l.levels + 1

abbrev pub decreases-read_folder : goal.decreases-read_folder
decreases-read_folder g l = 4 * l.levels + 3

abbrev pub decreases-read_node : goal.decreases-read_node
decreases-read_node g l = 4 * l.levels

abbrev pub invariant-read_entries-loop-name : goal.invariant-read_entries-loop-name
invariant-read_entries-loop-name g l = record {
  names : AreNames (drop l.name-index l.names);
  behind : FollowAll (last_name l.entries.items) (drop l.name-index l.names);
  fit : entries_fit None l.entries.items (65 - l.levels) ≡ true;
  bytes : l.so_far ≡ l.size + length (entries_bytes l.entries.items);
  few : l.so_far ≤ limit;
  tree : g.W.World.tree l.world ≡ g.W.World.tree l.initial.world;
  files : g.W.World.file_faults l.world ≡ g.W.World.file_faults l.initial.world;
  children : g.W.World.child_faults l.world ≡ g.W.World.child_faults l.initial.world;
  runs : g.W.World.runs l.world ≡ g.W.World.runs l.initial.world;
  misused : g.W.World.misused l.world ≡ g.W.World.misused l.initial.world;
  leaves : Leaves (g.W.World.tree l.initial.world) l.levels l.folder l.entries.items l.so_far
      (drop l.name-index l.names) l.names l.size;
}
