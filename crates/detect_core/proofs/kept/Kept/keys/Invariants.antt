use Rattle.std.proofs.Common.{◌≡◌, ◌++◌}
use Rattle.detect_core.specs.Kept.{keys_of}
use Rattle.detect_core.proofs.kept.Kept.keys.Given as goal

-- the keys so far, before those that are left
abbrev pub invariant-loop-key : goal.invariant-loop-key
invariant-loop-key l = keys_of l.self ≡ l.keys ++ l.key-iterator
