use Rattle.std.proofs.Common.{◌≡◌, length, chars}
use denote.Text.{Utf8}
use denote.Shadow.{shadow}
use Rattle.app_slices.specs.Matching.{ends_with}
use Rattle.app_slices.proofs.matching.ends_with.Given as goal

abbrev pub invariant-loop-from : goal.invariant-loop-from
invariant-loop-from l = shadow (Utf8 l.from) × (ends_with l.fn.run (chars l.fn.text) ≡ ends_with l.run (chars l.from))

abbrev pub decreases-loop-from : goal.decreases-loop-from
decreases-loop-from l = length l.from
