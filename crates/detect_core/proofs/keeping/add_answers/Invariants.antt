use Rattle.std.proofs.Common.{◌≡◌, ◌++◌, length, take}
use Rattle.detect_core.specs.Recorded.{answer_rows}
use Rattle.detect_core.proofs.keeping.add_answers.Given as goal

abbrev pub invariant-loop-probed : goal.invariant-loop-probed
invariant-loop-probed l = record {
  at : l.place ≡ length l.yielded;
  rows : l.rows ≡ l.initial.rows ++ answer_rows (take l.place l.keys) l.yielded;
}
