use Rattle.std.proofs.Common.{◌≡◌, take}
use Rattle.cnb_build.specs.Plan.{plan_for}
use Rattle.cnb_build.proofs.plan.plan_for.Given as goal

abbrev pub invariant-loop-entry : goal.invariant-loop-entry
invariant-loop-entry l = l.needs ≡ plan_for l.key (take l.entry-index l.entry-items)
