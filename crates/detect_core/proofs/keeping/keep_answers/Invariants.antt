use Rattle.std.proofs.Common.{◌≡◌, ◌++◌, drop}
use Rattle.detect_core.specs.Asking.{rows_of, AreNew}
use Rattle.detect_core.specs.Kept.{keys_of}
use Rattle.detect_core.proofs.keeping.keep_answers.Given as goal

-- what is kept so far, and what is to come
abbrev pub invariant-loop-place : goal.invariant-loop-place
invariant-loop-place l = record {
  rows : l.kept ++ rows_of (drop l.place l.keys) (drop l.place l.answers) ≡ l.initial.kept ++ rows_of l.keys l.answers;
  new : AreNew (keys_of l.kept) (drop l.place l.keys);
}
