-- What the command `export` reads and writes.
use Rattle.std.proofs.Common.{◌≡◌, ap, subst, sym, ℕ, true, IsTrue, List, Option, Some, None, Result, Ok, Err}
use Rattle.cnb_words.specs.declared.export.ExportWords.{ExportWords}
use Rattle.image_docs.specs.Image.{is_image_doc}
use Rattle.image_docs.specs.declared.analyzed.Analyzed.{Analyzed}
use Rattle.image_docs.specs.declared.image.ImageDoc.{ImageDoc}
use Rattle.image_files.proofs.ReadableLaws.{written_readable}
use Rattle.run_docs.specs.Group.{group_in, is_group_doc}
use Rattle.run_docs.specs.declared.group.GroupRow.{GroupRow}
use Rattle.shelf_set.specs.Caches.{WorldAndCaches}
use Rattle.steps.specs.Outside.{Seen}
use Rattle.steps.specs.Steps.{◌>>=◌, gives, map_err, yields}
use Rattle.cnb_export.specs.Command.{saves_image, saves_readable_image}
use Rattle.cnb_export.specs.Given.{frame_of, needed_at, reads_given, reads_group, reads_needed}
use Rattle.cnb_export.specs.Exports.{exports}
use Rattle.cnb_export.specs.declared.exported.Exported.{Exported}
use Rattle.cnb_layers.specs.declared.frame.ExportFrame.{ExportFrame}
use Rattle.cnb_layers.specs.declared.fault.ExportFault.{ExportFault}
use Rattle.cnb_export.specs.declared.given.ExportGiven.{ExportGiven}
use Rattle.cnb_layers.proofs.FormLaws.{group_readable, value_read}

-- an image that can be read is written with bytes that read as it
pub saved_readable : (store name : List ℕ) (image : ImageDoc) (old : Seen)
    (result : Result (Unit {0}) ExportFault) (new : Seen) → IsTrue (is_image_doc image)
    → saves_image store name image old result new → saves_readable_image store name image old result new
unfolding map_err
saved_readable store name image old (Ok done) new readable h = written_readable store name image old
    (Ok done) new readable h
saved_readable store name image old (Err refusal) new readable (fault, is, h) =
    (fault, is, written_readable store name image old (Err fault) new readable h)

-- where no buildpack of the group stands twice, the caches' documents read as their rows
pub exports_readable : (frame : ExportFrame) (group : List GroupRow) (analyzed : Analyzed) (old : WorldAndCaches)
    (result : Result Exported ExportFault) (new : WorldAndCaches) → is_group_doc group ≡ true
    → exports (is_group_doc group) frame group analyzed old result new
    → exports true frame group analyzed old result new
exports_readable frame group analyzed old result new distinct h = subst
    (λ readable. exports readable frame group analyzed old result new) distinct h

needed_group : (path : List ℕ) (found : Option (List ℕ)) (group : List GroupRow)
    → needed_at group_in path found ≡ Ok group → is_group_doc group ≡ true
needed_group path None group h = absurd (cc)
needed_group path (Some bytes) group h = group_readable bytes group (value_read path (group_in bytes) group h)

-- no buildpack of a group that was read stands twice
pub given_distinct : (words : ExportWords) (given : ExportGiven) (old new : Seen)
    → reads_given words old (Ok given) new → is_group_doc given.group ≡ true
unfolding reads_given reads_group reads_needed map_err ◌>>=◌ gives yields
given_distinct words given old new (
  group,
  m1,
  (read, m2, (path, m3, at, (found, m4, reading, (s1, needed, c1))), (served, m5, serving, (is, s2))),
  (analyzed, m6, analyzing, (s3, made, c3)),
) =
    let e : record { frame = frame_of words; group = group; analyzed = analyzed } ≡ given = cc in
    subst (λ g. is_group_doc g ≡ true) (ap (λ (g : ExportGiven). g.group) e)
    (subst (λ g. is_group_doc g ≡ true) (sym is) (needed_group path found read needed))
