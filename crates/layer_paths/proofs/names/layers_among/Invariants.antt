use Rattle.std.proofs.Common.{◌≡◌, map, take}
use Rattle.std.specs.List.{filter}
use Rattle.cnb_toml.specs.Names.{is_layer_name}
use Rattle.layer_paths.proofs.names.layers_among.Given as goal

abbrev pub invariant-loop-stem : goal.invariant-loop-stem
invariant-loop-stem l = l.layers ≡ filter is_layer_name (map (λ stem. stem.now) (take l.stem-index l.stem-items))
