-- What the command `export` does, in the order of its work (platform.md, "exporter").
use Rattle.std.specs.Prelude.{ℕ, true, List, Result, Ok}
use Rattle.cnb_words.specs.declared.export.ExportWords.{ExportWords}
use Rattle.image_docs.specs.declared.image.ImageDoc.{ImageDoc}
use Rattle.image_files.specs.Images.{writes_image, writes_readable_image}
use Rattle.shelf_set.specs.Caches.{WorldAndCaches, in_world}
use Rattle.steps.specs.Outside.{Seen}
use Rattle.steps.specs.Steps.{◌>>=◌, gives, map_err, yields}
use Rattle.cnb_export.specs.declared.exported.Exported.{Exported}
use Rattle.cnb_layers.specs.declared.fault.ExportFault.{ExportFault}
use Rattle.cnb_export.specs.declared.given.ExportGiven.{ExportGiven}
use Rattle.cnb_export.specs.declared.refusal.ExportRefusal.{ExportRefusal}
use Rattle.cnb_export.specs.declared.refusal.ExportRefusal.TheVariants.{Fault}
use Rattle.cnb_export.specs.Exports.{exports}
use Rattle.cnb_export.specs.Given.{reads_given, refusal_cause}
use Rattle.cnb_layers.specs.Refusals.{of_image_fault}
use Rattle.cnb_export.specs.Report.{exported_text}

-- the image's document is written
abbrev pub saves_image : List ℕ → List ℕ → ImageDoc → Seen → Result (Unit {0}) ExportFault → Seen → Type 0
saves_image store name image = map_err of_image_fault (writes_image store name image)

-- the same, with bytes that read as the image
abbrev pub saves_readable_image : List ℕ → List ℕ → ImageDoc → Seen → Result (Unit {0}) ExportFault → Seen → Type 0
saves_readable_image store name image = map_err of_image_fault (writes_readable_image store name image)

-- The text is made, and the image's document is written last, with bytes that read as the image.
unfoldable pub finishes_export : ExportWords → Exported → WorldAndCaches → Result (List ℕ) ExportRefusal
    → WorldAndCaches → Type 0
finishes_export words exported = do
  text ← gives refusal_cause (Ok (exported_text words.image exported))
  saved ← in_world (map_err Fault (saves_readable_image words.store words.image exported.image))
  yields text

-- The image is exported, with documents of the caches that read as their rows, and the export is finished.
unfoldable pub exports_given : ExportWords → ExportGiven → WorldAndCaches → Result (List ℕ) ExportRefusal
    → WorldAndCaches → Type 0
exports_given words given = do
  exported ← map_err Fault (exports true given.frame given.group given.analyzed)
  finishes_export words exported

-- The group and what was analyzed are read, and exported.
unfoldable pub exports_command : ExportWords → WorldAndCaches → Result (List ℕ) ExportRefusal → WorldAndCaches → Type 0
exports_command words = do
  given ← in_world (reads_given words)
  exports_given words given
