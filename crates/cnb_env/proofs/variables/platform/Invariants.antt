use Rattle.std.proofs.Common.{◌≡◌, take}
use Rattle.cnb_env.specs.Apply.{each_applied}
use Rattle.cnb_env.specs.Platform.{with_file}
use Rattle.cnb_env.proofs.variables.platform.Given as goal

abbrev pub invariant-loop-file : goal.invariant-loop-file
invariant-loop-file l = l.env ≡ each_applied with_file (take l.file-index l.file-items) l.initial.env
