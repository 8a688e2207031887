use Rattle.std.proofs.Common.{◌≡◌, ◌++◌, take}
use Rattle.std.specs.List.{flat_map}
use Rattle.cnb_launch.specs.Folders.{AreWithin, exec_folders}
use Rattle.cnb_launch.proofs.sets.push_all.Given as goal

abbrev pub invariant-loop-layer : goal.invariant-loop-layer
invariant-loop-layer l = record {
  pushed : l.folders ≡ l.initial.folders ++ flat_map (exec_folders l.kind) (take l.layer-index l.layers);
  within : AreWithin 8448 l.initial.folders → AreWithin 8448 l.folders;
}
