use Rattle.std.specs.Prelude.{None}
use Rattle.cnb_drill.specs.Frame.{drill_frame}
use Rattle.cnb_drill.proofs.detection.frame.Goals as goal

pub returns : goal.returns
unfolding drill_frame
returns c =
    λ i. record {
      buildpacks = c.in_ok-buildpacks.ensures i;
      app = c.in_ok-app.ensures i;
      platform = c.in_ok-platform.ensures i;
      work = c.in_ok-work.ensures i;
      env = c.new-env.ensures i;
      files = c.new-files.ensures i;
      target = None;
    }
