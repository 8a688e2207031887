use Rattle.std.proofs.Common.{◌≡◌, ℕ, ◌-◌, ◌<◌, ◌≤◌, ◌++◌, List, length, take}
use Rattle.tree_canon.specs.Reading.{State, run}
use Rattle.tree_canon.specs.Scanning.{IsAt, IsSmall, bytes_taken, field_width}
use Rattle.tree_canon.specs.Events.{Told}
use Rattle.tree_canon.specs.Telling.{HasTold}
use Rattle.tree_canon.proofs.scanner.Scanner.next.Given as goal

abbrev pub invariant-loop-used : goal.invariant-loop-used
invariant-loop-used l = record {
  within : l.used ≤ length l.input;
  partial : bytes_taken l.self.next l.self.part.items < field_width l.self.next;
  small : IsSmall l.self;
  owed : l.self.owed ≡ 0;
  runs : (state : State) → IsAt l.fn.self state → IsAt l.self (run state (take l.used l.input));
  told : (bytes : List ℕ) (given : List Told) → HasTold l.fn.self bytes given
      → HasTold l.self (bytes ++ take l.used l.input) given;
}

abbrev pub decreases-loop-used : goal.decreases-loop-used
decreases-loop-used l = length l.input - l.used
