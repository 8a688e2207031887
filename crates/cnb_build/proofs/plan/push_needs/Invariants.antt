use Rattle.std.proofs.Common.{◌≡◌, ◌++◌, take}
use Rattle.cnb_build.proofs.plan.push_needs.Given as goal

abbrev pub invariant-loop-need : goal.invariant-loop-need
invariant-loop-need l = l.plan ≡ l.initial.plan ++ take l.need-index l.needs
