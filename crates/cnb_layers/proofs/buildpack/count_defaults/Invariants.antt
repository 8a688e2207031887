use Rattle.std.proofs.Common.{◌≡◌, ◌≤◌, length, take}
use Rattle.cnb_layers.specs.Buildpack.{defaults_of}
use Rattle.cnb_layers.proofs.buildpack.count_defaults.Given as goal

abbrev pub invariant-loop-process : goal.invariant-loop-process
invariant-loop-process l = record {
  is : l.count ≡ length
      (defaults_of (take l.process-index l.process-items));
  few : l.count ≤ l.process-index;
}
