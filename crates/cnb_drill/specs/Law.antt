-- What the detection of the drill comes to.
use Rattle.std.specs.Prelude.{ℕ, ◌≡◌, length}
use Rattle.detect_core.specs.declared.chosen.Chosen.{Chosen}
use Rattle.cnb_drill.specs.declared.detection.Found.{Found}
use Rattle.cnb_drill.specs.declared.detection.Setting.{Setting}
use Rattle.cnb_drill.specs.Digits.{asked_count}
use Rattle.cnb_drill.specs.Frame.{drill_frame}
use Rattle.cnb_drill.specs.Order.{drill_catalog, drill_order}

-- the order, the catalog and the frame of the drill
pub record IsSetting (setting : Setting) : Type 0 where
  pub order : setting.order ≡ drill_order
  pub catalog : setting.catalog ≡ drill_catalog
  pub frame : setting.frame ≡ drill_frame

-- the number's own group, the last of its sixteen trials, and a plan of four entries
abbrev pub found_of : ℕ → Found
found_of number = record {
  groups = 4096;
  place = number;
  asked = asked_count number;
  trial = 15;
  trials = 16;
  entries = 4;
}

abbrev pub found_in : Chosen → Found
found_in chosen = record {
  groups = 4096;
  place = chosen.place;
  asked = length chosen.asked;
  trial = chosen.trial;
  trials = chosen.trials;
  entries = length chosen.plan;
}
