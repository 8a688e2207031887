use Rattle.std.proofs.Common.{◌≡◌, true, take}
use Rattle.std.specs.Prelude.{◌||◌, slice_get}
use Rattle.std.specs.List.{list_all}
use Rattle.plan_resolve.specs.Trials.{holds, is_optional_at}
use Rattle.plan_resolve.proofs.pruning.failing.Given as goal

abbrev pub invariant-loop-index : goal.invariant-loop-index
invariant-loop-index l = list_all (λ place. holds l.trial l.set place || is_optional_at (slice_get l.trial place))
    (take l.index l.set) ≡ true
