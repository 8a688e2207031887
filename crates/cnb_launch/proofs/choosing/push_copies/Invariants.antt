use Rattle.std.proofs.Common.{◌≡◌, ◌++◌, take}
use Rattle.cnb_launch.proofs.choosing.push_copies.Given as goal

abbrev pub invariant-loop-word : goal.invariant-loop-word
invariant-loop-word l = l.line ≡ l.initial.line ++ take l.word-index l.words
