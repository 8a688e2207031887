use Rattle.std.proofs.Common.{◌≡◌, ◌≤◌, ◌-◌, length, take, List, ℕ, Ok}
use Rattle.std.specs.Prelude.{IsTrue}
use Rattle.steps.specs.Outside.{seen}
use Rattle.tree_store.specs.Answers.{is_free}
use Rattle.tree_store.specs.Writing.{Adds, LeavesNew, writer_seen}
use Rattle.tree_store.proofs.writing.Writer.add_all.Given as goal

abbrev pub invariant-loop-done : goal.invariant-loop-done
invariant-loop-done g l = record {
  within : l.done ≤ length l.bytes;
  leaves : (path : List ℕ) → LeavesNew {A = Unit {0}} path (writer_seen g.T.Target.state l.initial.self)
      (seen g.W.World l.initial.world) (Ok tt) (writer_seen g.T.Target.state l.self) (seen g.W.World l.world);
  adds : (path : List ℕ) → Adds {A = Unit {0}} path (λ before done more. more ≡ take l.done l.bytes)
      (λ before fault. IsTrue (is_free fault)) (writer_seen g.T.Target.state l.initial.self)
      (seen g.W.World l.initial.world) (Ok tt) (writer_seen g.T.Target.state l.self) (seen g.W.World l.world);
}

abbrev pub decreases-loop-done : goal.decreases-loop-done
decreases-loop-done g l = length l.bytes - l.done
