use Rattle.std.proofs.Common.{◌≡◌, map, take}
use Rattle.std.specs.List.{AllByRecursion}
use Rattle.shelf_set.specs.Caching.{IsShort}
use Rattle.cnb_export.specs.Exports.{folder_of}
use Rattle.cnb_export.proofs.exporting.cached_folders.Given as goal

abbrev pub invariant-loop-row : goal.invariant-loop-row
invariant-loop-row l = record {
  folders : l.folders ≡ map (folder_of l.layers) (take l.row-index l.cached);
  short : AllByRecursion IsShort l.folders;
}
