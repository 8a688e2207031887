use Rattle.std.proofs.Common.{◌≤◌, ◌-◌, List, ℕ, Ok, Option}
use Rattle.std.specs.Prelude.{IfSome, IsTrue}
use Rattle.cnb_world.specs.Tree.{Tree, item_at}
use Rattle.steps.specs.Outside.{seen}
use Rattle.tree_store.specs.Answers.{is_free}
use Rattle.tree_store.specs.Writing.{Added, AreApart, HasLength, HasWritten, IsPart, LeavesNew, new_path, writer_seen}
use Rattle.tree_store.proofs.putting.put_contents.Given as goal

abbrev pub invariant-loop-done : goal.invariant-loop-done
invariant-loop-done g l = record {
  within : l.done ≤ l.len;
  leaves : LeavesNew {A = Unit {0}} l.path (writer_seen g.T.Target.state l.fn.writer) (seen g.W.World l.fn.world)
      (Ok tt) (writer_seen g.T.Target.state l.writer)
      (seen g.W.World l.world);
  puts : (store : List ℕ) (before : Option Tree) (bytes : List ℕ)
      → HasWritten store before (writer_seen g.T.Target.state l.fn.writer) bytes (g.W.World.tree l.fn.world)
      → AreApart (new_path store) l.path
      → IfSome before (λ files. HasLength l.len (item_at files l.path))
      → Added {A = Unit {0}} store before (λ done more. IsPart before l.path 0 l.done more)
      (λ fault. IfSome before (λ files. IsTrue (is_free fault))) bytes (seen g.W.World l.fn.world)
      (Ok tt) (writer_seen g.T.Target.state l.writer) (seen g.W.World l.world);
}

abbrev pub decreases-loop-done : goal.decreases-loop-done
decreases-loop-done g l = l.len - l.done
