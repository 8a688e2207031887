use Rattle.std.proofs.Common.{◌≡◌, ◌+◌, ◌++◌, drop, length}
use Rattle.std.specs.Prelude.{IfSome}
use Rattle.cnb_world.specs.Calls.{AreNames}
use Rattle.cnb_launch.specs.Folders.{AreWithin, wanted_among}
use Rattle.cnb_launch.proofs.folders.wanted_among.Given as goal

abbrev pub invariant-loop-name : goal.invariant-loop-name
invariant-loop-name g l = record {
  names : AreNames (drop l.name-index l.names);
  tree : g.W.World.tree l.world ≡ g.W.World.tree l.initial.world;
  files : g.W.World.file_faults l.world ≡ g.W.World.file_faults l.initial.world;
  children : g.W.World.child_faults l.world ≡ g.W.World.child_faults l.initial.world;
  runs : g.W.World.runs l.world ≡ g.W.World.runs l.initial.world;
  misused : g.W.World.misused l.world ≡ g.W.World.misused l.initial.world;
  within : AreWithin (length l.folder + 256) l.paths;
  found : IfSome (g.W.World.tree l.initial.world)
      (λ files. l.paths ++ wanted_among l.wanted files l.folder (drop l.name-index l.names)
      ≡ wanted_among l.wanted files l.folder l.names);
}
