use Rattle.std.proofs.Common.{◌≡◌, ℕ, List, Some, drop, option_map}
use Rattle.std.specs.Process.{command_var, SameProgramAndArgs, SameDir, clears_env}
use Rattle.cnb_world.specs.Env.{value_of}
use Rattle.cnb_host.proofs.command.set_variables.Given as goal

abbrev pub invariant-loop-place : goal.invariant-loop-place
invariant-loop-place l = record {
  vars : (name : List ℕ) → command_var l.command name ≡ option_map Some (value_of (drop l.place l.env) name);
  call : SameProgramAndArgs l.initial.command l.command;
  dir : SameDir l.initial.command l.command;
  clears : clears_env l.command ≡ clears_env l.initial.command;
}
