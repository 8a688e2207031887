use Rattle.std.proofs.Common.{◌≡◌}
use Rattle.cnb_drill.specs.Order.{columns_below}
use Rattle.cnb_drill.proofs.catalog.catalog.Given as goal

abbrev pub invariant-loop-column : goal.invariant-loop-column
invariant-loop-column l = l.catalog ≡ columns_below l.column
