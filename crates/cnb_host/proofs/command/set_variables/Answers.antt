use Rattle.std.proofs.Common.{arith, rules}
use Rattle.std.specs.Process.{command_var}
use Rattle.cnb_host.proofs.Variables.{vars_from}
use Rattle.cnb_host.proofs.command.set_variables.Goals as goal

pub loop-place-preserved : goal.loop-place-preserved
loop-place-preserved c = record {
  vars = vars_from c.args.env.now _ c.loop-place.place _ _ (command_var c.loop-place.command)
      (command_var c.set_variable.new.command) (omega arith) c.name.ensures c.value.ensures
      (λ other. cc (c.in_ok-set_variable.ensures.vars other)) c.loop-place.invariant.vars;
  call = search rules;
  dir = search rules;
  clears = search rules;
}
