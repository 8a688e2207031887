-- What the detect children of the drill have in common.
use Rattle.std.specs.Prelude.{[], None, codes}
use Rattle.detect_core.specs.declared.chosen.DetectFrame.{DetectFrame}

unfoldable pub drill_frame : DetectFrame
drill_frame = record {
  buildpacks = codes "/b";
  app = codes "/a";
  platform = codes "/p";
  work = codes "/w";
  env =
      [];
  files = [];
  target = None;
}
