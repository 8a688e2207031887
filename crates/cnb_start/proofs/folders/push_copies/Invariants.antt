use Rattle.std.proofs.Common.{◌≡◌, ◌++◌, take}
use Rattle.cnb_start.proofs.folders.push_copies.Given as goal

abbrev pub invariant-loop-folder : goal.invariant-loop-folder
invariant-loop-folder l = l.copies ≡ l.initial.copies ++ take l.folder-index l.folders
