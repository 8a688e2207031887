-- The document that `export` wrote stands, and can be read.
use Rattle.std.proofs.Common.{subst, sym, ℕ, List, Result, Ok, Err}
use Rattle.std.specs.Prelude.{OnOk}
use Rattle.cnb_words.specs.declared.export.ExportWords.{ExportWords}
use Rattle.image_files.specs.Images.{ImageStands}
use Rattle.image_files.proofs.StandLaws.{image_stands}
use Rattle.shelf_set.specs.Caches.{WorldAndCaches, in_world}
use Rattle.steps.specs.Steps.{◌>>=◌, map_err, yields}
use Rattle.cnb_export.specs.declared.refusal.ExportRefusal.{ExportRefusal}
use Rattle.cnb_export.specs.Command.{exports_command, exports_given, finishes_export}

pub exported_stands : (words : ExportWords) (text : List ℕ) (old new : WorldAndCaches)
    → exports_command words old (Ok text) new → ImageStands words.store words.image new.world.files
unfolding exports_command exports_given finishes_export ◌>>=◌ map_err yields in_world
exported_stands words text old new (
  given,
  m1,
  reading,
  (exported, m2, exporting, (told, m3, telling, (done, m4, (write, same), (is, end)))),
) =
    subst (λ (s : WorldAndCaches). ImageStands words.store words.image s.world.files) (sym end)
    (image_stands words.store words.image exported.image m3.world m4.world done write)

pub stands_where_done : (words : ExportWords) (result : Result (List ℕ) ExportRefusal) (old new : WorldAndCaches)
    → exports_command words old result new → OnOk result (ImageStands words.store words.image new.world.files)
stands_where_done words (Ok text) old new h = exported_stands words text old new h
stands_where_done words (Err refusal) old new h = tt
