use Rattle.std.proofs.Common.{◌≡◌, ◌≤◌, length, vec_len}
use Rattle.cnb_main.proofs.serving.serve.Given as goal

abbrev pub invariant-loop-folder : goal.invariant-loop-folder
invariant-loop-folder g l = record {
  count : vec_len l.shelves ≡ l.folder-index;
  within : l.folder-index ≤ length l.folders;
}
