use Rattle.std.proofs.Common.{ℕ, List}
use Rattle.tree_canon.specs.Decoding.{HasMade, HasSamePlace}
use Rattle.tree_canon.proofs.decoder.close.Given as goal

abbrev pub invariant-loop-scanner : goal.invariant-loop-scanner
invariant-loop-scanner l = record {
  place : HasSamePlace l.fn.scanner l.scanner;
  made : (bytes : List ℕ) → HasMade l.fn.scanner l.fn.building bytes → HasMade l.scanner l.building bytes;
}

abbrev pub decreases-loop-scanner : goal.decreases-loop-scanner
decreases-loop-scanner l = l.scanner.owed
