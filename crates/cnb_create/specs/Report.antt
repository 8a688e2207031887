-- The text that `create` prints.
use Rattle.std.specs.Prelude.{ℕ, List, ◌++◌}
use Rattle.cnb_build.specs.Report.{built_text}
use Rattle.cnb_detect.specs.Report.{choice_text}
use Rattle.cnb_export.specs.Report.{exported_text}
use Rattle.cnb_export.specs.declared.exported.Exported.{Exported}
use Rattle.cnb_restore.specs.Report.{analyzed_text, restored_text}
use Rattle.cnb_create.specs.declared.phases.Phases.{Phases}

-- the lines of each phase before the export
abbrev pub phases_text : Phases → List ℕ
phases_text phases =
    analyzed_text phases.analyzed ++ choice_text phases.group phases.entries ++ restored_text phases.restored
    ++ built_text phases.group

-- the lines of all phases
abbrev pub created_text : List ℕ → Phases → Exported → List ℕ
created_text image phases exported = phases_text phases ++ exported_text image exported
