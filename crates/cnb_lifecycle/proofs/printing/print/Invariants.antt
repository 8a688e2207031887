use Rattle.std.proofs.Common.{◌≡◌, ◌≤◌, ◌-◌, length, take}
use Rattle.cnb_lifecycle.specs.Printing.{Adds}
use Rattle.cnb_lifecycle.proofs.printing.print.Given as goal

abbrev pub invariant-loop-done : goal.invariant-loop-done
invariant-loop-done g l = record {
  within : l.done ≤ length l.text;
  printed : Adds (g.O.Sink.taken l.initial.out) (g.O.Sink.taken l.out) (take l.done l.text);
  count : g.O.Sink.faults l.out ≡ g.O.Sink.faults l.initial.out;
}

abbrev pub decreases-loop-done : goal.decreases-loop-done
decreases-loop-done g l = length l.text - l.done
