use Rattle.std.proofs.Common.{◌≡◌, map, take}
use Rattle.cnb_world.specs.Path.{joined}
use Rattle.cnb_toml.specs.Names.{folder_of}
use Rattle.cnb_launch.specs.Folders.{AreWithin}
use Rattle.cnb_launch.proofs.sets.set_folders.Given as goal

abbrev pub invariant-loop-key : goal.invariant-loop-key
invariant-loop-key l = record {
  pushed : l.folders ≡ map (λ key. joined l.layers (folder_of key.id)) (take l.key-index l.keys);
  within : AreWithin 4359 l.folders;
}
