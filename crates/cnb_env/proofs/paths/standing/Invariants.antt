use Rattle.std.proofs.Common.{◌≡◌, ◌++◌, drop}
use Rattle.std.specs.Prelude.{IfSome}
use Rattle.cnb_env.specs.Layers.{standing_at}
use Rattle.cnb_env.proofs.paths.standing.Given as goal

abbrev pub invariant-loop-layer : goal.invariant-loop-layer
invariant-loop-layer g l = record {
  tree : g.W.World.tree l.world ≡ g.W.World.tree l.initial.world;
  files : g.W.World.file_faults l.world ≡ g.W.World.file_faults l.initial.world;
  children : g.W.World.child_faults l.world ≡ g.W.World.child_faults l.initial.world;
  runs : g.W.World.runs l.world ≡ g.W.World.runs l.initial.world;
  misused : g.W.World.misused l.world ≡ g.W.World.misused l.initial.world;
  found : IfSome (g.W.World.tree l.initial.world)
      (λ files. l.paths ++ standing_at files (drop l.layer-index l.layers) l.name
      ≡ standing_at files l.layers l.name);
}
