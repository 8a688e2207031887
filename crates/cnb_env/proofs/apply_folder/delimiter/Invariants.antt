use Rattle.std.proofs.Common.{◌≡◌, drop}
use Rattle.cnb_env.specs.Apply.{delimiter_in}
use Rattle.cnb_env.proofs.apply_folder.delimiter.Given as goal

abbrev pub invariant-loop-file : goal.invariant-loop-file
invariant-loop-file l = delimiter_in (drop l.file-index l.files) l.variable ≡ delimiter_in l.files l.variable
