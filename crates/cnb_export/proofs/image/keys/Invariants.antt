use Rattle.std.proofs.Common.{◌≡◌, map, take}
use Rattle.cnb_export.specs.Image.{key_of}
use Rattle.cnb_export.proofs.image.keys.Given as goal

abbrev pub invariant-loop-row : goal.invariant-loop-row
invariant-loop-row l = l.keys ≡ map key_of (take l.row-index l.group)
