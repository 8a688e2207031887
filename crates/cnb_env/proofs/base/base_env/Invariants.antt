use Rattle.std.proofs.Common.{◌≡◌, take}
use Rattle.cnb_env.specs.Base.{base_env}
use Rattle.cnb_env.proofs.base.base_env.Given as goal

abbrev pub invariant-loop-place : goal.invariant-loop-place
invariant-loop-place l = l.base ≡ base_env (take l.place l.env)
