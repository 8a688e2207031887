use Rattle.std.proofs.Common.{◌≡◌, ℕ, drop}
use Rattle.std.specs.List.{list_all}
use Rattle.std.specs.Option.{option_map}
use Rattle.cnb_world.specs.Calls.{MayMisuse}
use Rattle.cnb_env.specs.Layers.{each, is_fit_layer, layer_applied}
use Rattle.cnb_env.proofs.EachLemmas.{Leaves}
use Rattle.cnb_env.proofs.layers.apply_layers.Given as goal

abbrev pub invariant-loop-layer : goal.invariant-loop-layer
invariant-loop-layer g l = record {
  tree : g.W.World.tree l.world ≡ g.W.World.tree l.initial.world;
  files : g.W.World.file_faults l.world ≡ g.W.World.file_faults l.initial.world;
  children : g.W.World.child_faults l.world ≡ g.W.World.child_faults l.initial.world;
  runs : g.W.World.runs l.world ≡ g.W.World.runs l.initial.world;
  misused : (now : ℕ) → MayMisuse (option_map (λ files. list_all (is_fit_layer l.phase files)
      (drop l.layer-index l.layers)) (g.W.World.tree l.initial.world)) (g.W.World.misused l.world) now
      → MayMisuse (option_map (λ files. list_all (is_fit_layer l.phase files) l.layers)
      (g.W.World.tree l.initial.world)) (g.W.World.misused l.initial.world) now;
  left : Leaves (g.W.World.tree l.initial.world) (layer_applied l.phase) (drop l.layer-index l.layers) l.env
      (λ files. each (layer_applied l.phase files) l.layers l.initial.env);
}
