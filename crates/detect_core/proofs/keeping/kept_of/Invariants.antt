use Rattle.std.proofs.Common.{◌≡◌, drop, map, take}
use Rattle.detect_core.specs.Asking.{AreNew}
use Rattle.detect_core.specs.Kept.{keys_of}
use Rattle.detect_core.specs.Recorded.{answered_keys, kept_row}
use Rattle.detect_core.proofs.keeping.kept_of.Given as goal

-- what is kept so far, and what is to come
abbrev pub invariant-loop-row : goal.invariant-loop-row
invariant-loop-row l = record {
  rows : l.kept ≡ map kept_row (take l.row-index l.rows);
  new : AreNew (keys_of l.kept) (drop l.row-index (answered_keys l.rows));
}
