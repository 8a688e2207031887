use Rattle.std.proofs.Common.{◌≡◌, length, chars}
use denote.Text.{Utf8}
use denote.Shadow.{shadow}
use Rattle.app_slices.specs.Matching.{somewhere, matched}
use Rattle.app_slices.proofs.matching.matches_later.Given as goal

abbrev pub invariant-loop-run : goal.invariant-loop-run
invariant-loop-run l = shadow (Utf8 l.rest) × (somewhere (matched l.fn.items) (chars l.fn.text)
    ≡ somewhere (matched l.items) (chars l.rest))

abbrev pub decreases-loop-run : goal.decreases-loop-run
decreases-loop-run l = length l.items
