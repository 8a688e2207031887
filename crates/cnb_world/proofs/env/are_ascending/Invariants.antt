use Rattle.std.proofs.Common.{◌≡◌, ◌-◌, drop}
use Rattle.cnb_world.specs.Env.{is_ascending}
use Rattle.cnb_world.proofs.env.are_ascending.Given as goal

abbrev pub invariant-loop-place : goal.invariant-loop-place
invariant-loop-place l = is_ascending (drop (l.place - 1) l.variables) ≡ is_ascending l.variables
