-- The folders of a frame are short.
use Rattle.std.proofs.Common.{◌≤◌, nat_le, IsTrue, length}
use Rattle.std.specs.Prelude.{◌&&◌}
use Rattle.std.proofs.lemmas.Bool.{and_parts, leb-true}
use Rattle.detect_core.specs.declared.chosen.DetectFrame.{DetectFrame}
use Rattle.detect_core.specs.Search.{is_short}

-- the folders of a frame that paths are made of
pub record AreShort (frame : DetectFrame) : Type 0 where
  pub buildpacks : length frame.buildpacks ≤ 4096
  pub work : length frame.work ≤ 4096

pub short_folders : (frame : DetectFrame) → IsTrue (is_short frame) → AreShort frame
short_folders frame h =
    let (first, work) = and_parts (nat_le (length frame.buildpacks) 4096 && nat_le (length frame.app) 4096
    && nat_le (length frame.platform) 4096) (nat_le (length frame.work) 4096) h in
    let (second, platform) = and_parts (nat_le (length frame.buildpacks) 4096 && nat_le (length frame.app) 4096)
    (nat_le (length frame.platform) 4096) first in
    let (buildpacks, app) = and_parts (nat_le (length frame.buildpacks) 4096) (nat_le (length frame.app) 4096) second in
    record {
      buildpacks = leb-true (length frame.buildpacks) 4096 buildpacks;
      work = leb-true
          (length frame.work) 4096 work;
    }
