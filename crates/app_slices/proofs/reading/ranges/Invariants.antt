use Rattle.std.proofs.Common.{◌≤◌, length, chars}
use denote.Text.{Utf8}
use denote.Shadow.{shadow}
use Rattle.app_slices.specs.Spelling.{HasRanges}
use Rattle.app_slices.proofs.reading.ranges.Given as goal

abbrev pub invariant-loop-behind : goal.invariant-loop-behind
invariant-loop-behind l = shadow (Utf8 l.rest) × HasRanges (chars l.fn.text) l.all (chars l.rest)
    × (length l.rest ≤ length l.fn.text)

abbrev pub decreases-loop-behind : goal.decreases-loop-behind
decreases-loop-behind l = length l.rest
