use Rattle.std.proofs.Common.{◌<◌, length}
use Rattle.tree_canon.specs.Reading.{State, run}
use Rattle.tree_canon.specs.Scanning.{IsAt, IsSmall, bytes_taken, field_width}
use Rattle.tree_canon.proofs.Scans.{GoesOn}
use Rattle.tree_canon.proofs.scanner.Scanner.read.Given as goal

abbrev pub invariant-loop-rest : goal.invariant-loop-rest
invariant-loop-rest l = record {
  partial : bytes_taken l.self.next l.self.part.items < field_width l.self.next;
  small : IsSmall l.self;
  goes : (state : State) → IsAt l.fn.self state → GoesOn l.self l.rest (run state l.piece);
}

abbrev pub decreases-loop-rest : goal.decreases-loop-rest
decreases-loop-rest l = length l.rest
