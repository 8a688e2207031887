use Rattle.std.proofs.Common.{◌≡◌, take}
use Rattle.cnb_env.specs.Apply.{applied_among, each_applied}
use Rattle.cnb_env.proofs.apply_folder.apply_files.Given as goal

abbrev pub invariant-loop-file : goal.invariant-loop-file
invariant-loop-file l = l.env ≡ each_applied (applied_among l.files) (take l.file-index l.files) l.initial.env
