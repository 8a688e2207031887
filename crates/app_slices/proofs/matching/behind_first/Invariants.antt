use Rattle.std.proofs.Common.{◌≡◌, length, chars}
use denote.Text.{Utf8}
use denote.Shadow.{shadow}
use Rattle.app_slices.specs.Matching.{behind_first}
use Rattle.app_slices.proofs.matching.behind_first.Given as goal

abbrev pub invariant-loop-rest : goal.invariant-loop-rest
invariant-loop-rest l = shadow (Utf8 l.from) × (behind_first l.fn.run (chars l.fn.text)
    ≡ behind_first l.run (chars l.from))

abbrev pub decreases-loop-rest : goal.decreases-loop-rest
decreases-loop-rest l = length l.from
