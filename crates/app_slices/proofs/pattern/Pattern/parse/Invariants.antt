use Rattle.std.proofs.Common.{length, chars}
use denote.Text.{Utf8}
use denote.Shadow.{shadow}
use Rattle.app_slices.specs.Spelling.{HasRead}
use Rattle.app_slices.proofs.pattern.Pattern.parse.Given as goal

abbrev pub invariant-loop-item : goal.invariant-loop-item
invariant-loop-item l = shadow (Utf8 l.rest) × HasRead (chars l.fn.text) l.items (chars l.rest)

abbrev pub decreases-loop-item : goal.decreases-loop-item
decreases-loop-item l = length l.rest
