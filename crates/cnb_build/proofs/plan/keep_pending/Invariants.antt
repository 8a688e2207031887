use Rattle.std.proofs.Common.{◌≡◌, not}
use Rattle.std.specs.List.{filter}
use Rattle.cnb_build.specs.Plan.{is_closed}
use Rattle.cnb_build.proofs.plan.keep_pending.Given as goal

abbrev pub invariant-loop-entry : goal.invariant-loop-entry
invariant-loop-entry l = l.kept ≡ filter (λ entry. not (is_closed l.key l.unmet entry)) l.yielded
