use Rattle.std.proofs.Common.{◌≤◌, ◌+◌, ◌*◌, drop, length, Ok}
use Rattle.cnb_world.specs.Calls.{AreNames}
use Rattle.steps.specs.Outside.{seen}
use Rattle.tree_canon.specs.Spelling.{limit}
use Rattle.tree_store.specs.Writing.{Adds, LeavesNew, writer_seen}
use Rattle.tree_store.proofs.Descents.{PutSoFar}
use Rattle.tree_store.proofs.putting.+put.Given as goal

abbrev pub decreases-put_entries : goal.decreases-put_entries
decreases-put_entries g l = 4 * l.levels + 2

abbrev pub decreases-put_entry : goal.decreases-put_entry
decreases-put_entry g l = 4 * l.levels + 1

abbrev pub decreases-put_names : goal.decreases-put_names
decreases-put_names g l = 4 * l.levels + 3

abbrev pub decreases-put_node : goal.decreases-put_node
decreases-put_node g l = 4 * l.levels

abbrev pub invariant-put_entries-loop-name : goal.invariant-put_entries-loop-name
invariant-put_entries-loop-name g l = record {
  within : l.name-index ≤ length l.names;
  names : AreNames (drop l.name-index l.names);
  few : l.so_far ≤ limit;
  leaves : LeavesNew {A = Unit {0}} l.folder (writer_seen g.T.Target.state l.initial.writer)
      (seen g.W.World l.initial.world) (Ok tt) (writer_seen g.T.Target.state l.writer) (seen g.W.World l.world);
  puts : Adds {A = Unit {0}} l.folder (λ before done more. PutSoFar before l.levels l.folder l.names l.name-index
      l.size l.so_far more) (λ before fault. Unit {0}) (writer_seen g.T.Target.state l.initial.writer)
      (seen g.W.World l.initial.world) (Ok tt) (writer_seen g.T.Target.state l.writer) (seen g.W.World l.world);
}
