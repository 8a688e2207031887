use Rattle.std.proofs.Common.{◌≡◌, ◌++◌, take}
use Rattle.cnb_host.proofs.shell.push_args.Given as goal

abbrev pub invariant-loop-arg : goal.invariant-loop-arg
invariant-loop-arg l = l.words ≡ l.initial.words ++ take l.arg-index l.args
