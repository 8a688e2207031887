use Rattle.std.proofs.Common.{◌≡◌, [], ◌∷◌, ◌++◌, map}
use Rattle.plan_resolve.specs.Trials.{numbers_below}
use Rattle.cnb_drill.specs.Buildpacks.{component, component_key, composite}
use Rattle.cnb_drill.specs.Order.{columns_below}
use Rattle.cnb_drill.proofs.catalog.add_column.Given as goal

abbrev pub invariant-loop-digit : goal.invariant-loop-digit
invariant-loop-digit l =
    l.catalog ≡ (columns_below l.column ++ composite l.column ∷ [])
    ++ map (λ digit. component (component_key l.column digit)) (numbers_below l.digit)
