use Rattle.std.proofs.Common.{◌≡◌, map, take}
use Rattle.std.specs.List.{filter_map}
use Rattle.layer_paths.specs.Names.{stem_of}
use Rattle.layer_paths.proofs.names.stems.Given as goal

abbrev pub invariant-loop-name : goal.invariant-loop-name
invariant-loop-name l = map (λ stem. stem.now) l.stems.items ≡ filter_map stem_of (take l.name-index l.names)
