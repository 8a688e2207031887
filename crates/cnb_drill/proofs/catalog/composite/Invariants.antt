use Rattle.std.proofs.Common.{◌≡◌, [], ◌∷◌, map}
use Rattle.plan_resolve.specs.Trials.{numbers_below}
use Rattle.cnb_drill.specs.Buildpacks.{component_key, entry_of}
use Rattle.cnb_drill.proofs.catalog.composite.Given as goal

abbrev pub invariant-loop-digit : goal.invariant-loop-digit
invariant-loop-digit l = l.groups ≡ map (λ digit. entry_of (component_key l.column digit) ∷ []) (numbers_below l.digit)
