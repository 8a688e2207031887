use Rattle.std.proofs.Common.{◌≡◌, ◌<◌, length}
use Rattle.tree_canon.specs.Scanning.{IsSmall, bytes_taken, field_width}
use Rattle.tree_canon.proofs.Pieces.{HasReadOn}
use Rattle.tree_canon.proofs.decoder.read.Given as goal

abbrev pub invariant-loop-rest : goal.invariant-loop-rest
invariant-loop-rest l = record {
  partial : bytes_taken l.scanner.next l.scanner.part.items < field_width l.scanner.next;
  small : IsSmall l.scanner;
  owed : l.scanner.owed ≡ 0;
  read : HasReadOn l.fn.scanner l.scanner l.fn.building l.building l.piece l.rest;
}

abbrev pub decreases-loop-rest : goal.decreases-loop-rest
decreases-loop-rest l = length l.rest
