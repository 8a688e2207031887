use Rattle.std.proofs.Common.{◌≡◌, take}
use Rattle.cnb_launch.specs.Folders.{AreWithin, all_exec_folders}
use Rattle.cnb_launch.proofs.sets.all_exec_folders.Given as goal

abbrev pub invariant-loop-layers : goal.invariant-loop-layers
invariant-loop-layers l = record {
  pushed : l.folders ≡ all_exec_folders l.kind (take l.layers-index l.sets);
  within : AreWithin 8448 l.folders;
}
