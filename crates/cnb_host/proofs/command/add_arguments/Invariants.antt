use Rattle.std.proofs.Common.{◌≡◌, take}
use Rattle.std.specs.Process.{command_program, command_args, SameEnv}
use Rattle.cnb_host.proofs.command.add_arguments.Given as goal

abbrev pub invariant-loop-arg : goal.invariant-loop-arg
invariant-loop-arg l = record {
  args : command_args l.command ≡ take l.arg-index l.args;
  program : command_program l.command ≡ command_program l.initial.command;
  env : SameEnv l.initial.command l.command;
}
