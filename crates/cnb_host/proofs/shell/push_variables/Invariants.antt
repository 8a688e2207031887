use Rattle.std.proofs.Common.{◌≡◌, ◌++◌, map, take}
use Rattle.cnb_host.specs.Side.{assignment}
use Rattle.cnb_host.proofs.shell.push_variables.Given as goal

abbrev pub invariant-loop-variable : goal.invariant-loop-variable
invariant-loop-variable l = l.words ≡ l.initial.words ++ map assignment (take l.variable-index l.variable-items)
