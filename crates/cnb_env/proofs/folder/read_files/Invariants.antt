use Rattle.std.proofs.Common.{◌≡◌, drop}
use Rattle.cnb_world.specs.Calls.{AreNames}
use Rattle.cnb_env.proofs.FolderLemmas.{Leaves}
use Rattle.cnb_env.proofs.folder.read_files.Given as goal

abbrev pub invariant-loop-name : goal.invariant-loop-name
invariant-loop-name g l = record {
  names : AreNames (drop l.name-index l.names);
  tree : g.W.World.tree l.world ≡ g.W.World.tree l.initial.world;
  files : g.W.World.file_faults l.world ≡ g.W.World.file_faults l.initial.world;
  children : g.W.World.child_faults l.world ≡ g.W.World.child_faults l.initial.world;
  runs : g.W.World.runs l.world ≡ g.W.World.runs l.initial.world;
  misused : g.W.World.misused l.world ≡ g.W.World.misused l.initial.world;
  leaves : Leaves l.naming (g.W.World.tree l.initial.world) l.folder l.files (drop l.name-index l.names) l.names;
}
