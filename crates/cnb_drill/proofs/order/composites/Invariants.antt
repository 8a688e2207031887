use Rattle.std.proofs.Common.{◌≡◌, map}
use Rattle.plan_resolve.specs.Trials.{numbers_below}
use Rattle.cnb_drill.specs.Buildpacks.{composite_key, entry_of}
use Rattle.cnb_drill.proofs.order.composites.Given as goal

abbrev pub invariant-loop-column : goal.invariant-loop-column
invariant-loop-column l = l.entries ≡ map (λ column. entry_of (composite_key column)) (numbers_below l.column)
