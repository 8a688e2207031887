use Rattle.std.proofs.Common.{◌≡◌, ℕ, ◌+◌, drop}
use Rattle.std.specs.List.{All}
use Rattle.std.specs.Option.{option_map}
use Rattle.cnb_world.specs.Calls.{MayMisuse}
use Rattle.cnb_launch.specs.Folders.{AreWithin, are_fit}
use Rattle.cnb_launch.proofs.FolderLemmas.{Leaves}
use Rattle.cnb_launch.proofs.folders.all_in.Given as goal

abbrev pub invariant-loop-folder : goal.invariant-loop-folder
invariant-loop-folder g l = record {
  tree : g.W.World.tree l.world ≡ g.W.World.tree l.initial.world;
  files : g.W.World.file_faults l.world ≡ g.W.World.file_faults l.initial.world;
  children : g.W.World.child_faults l.world ≡ g.W.World.child_faults l.initial.world;
  runs : g.W.World.runs l.world ≡ g.W.World.runs l.initial.world;
  misused : (now : ℕ) → MayMisuse (option_map (are_fit (drop l.folder-index l.folders))
      (g.W.World.tree l.initial.world)) (g.W.World.misused l.world) now
      → MayMisuse (option_map (are_fit l.folders) (g.W.World.tree l.initial.world))
      (g.W.World.misused l.initial.world) now;
  within : (room : ℕ) → AreWithin room l.folders → All (AreWithin (room + 256)) l.all;
  left : Leaves l.wanted (g.W.World.tree l.initial.world) l.all (drop l.folder-index l.folders) l.folders;
}
