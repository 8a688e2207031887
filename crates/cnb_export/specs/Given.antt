-- What `export` reads before its work (platform.md, "exporter").
use Rattle.std.specs.Prelude.{ℕ, List, codes, Option, Some, None, Result, Ok, Err}
use Rattle.cnb_toml.specs.declared.fault.DocFault.{DocFault}
use Rattle.cnb_toml.specs.declared.fault.DocFault.TheVariants.{Absent}
use Rattle.cnb_words.specs.declared.export.ExportWords.{ExportWords}
use Rattle.cnb_world.specs.Path.{joined}
use Rattle.image_docs.specs.Analyzed.{analyzed_in}
use Rattle.run_docs.specs.Group.{foreign_among, group_in}
use Rattle.run_docs.specs.declared.group.GroupRow.{GroupRow}
use Rattle.steps.specs.Causes.{Cause, Decided}
use Rattle.steps.specs.Outside.{Seen}
use Rattle.steps.specs.Steps.{◌>>=◌, gives, map_err, yields}
use Rattle.cnb_layers.specs.declared.frame.ExportFrame.{ExportFrame}
use Rattle.cnb_layers.specs.declared.fault.ExportFault.{ExportFault}
use Rattle.cnb_layers.specs.declared.fault.ExportFault.TheVariants.{Document}
use Rattle.cnb_export.specs.declared.given.ExportGiven.{ExportGiven}
use Rattle.cnb_export.specs.declared.refusal.ExportRefusal.{ExportRefusal}
use Rattle.cnb_export.specs.declared.refusal.ExportRefusal.TheVariants.{BuildpackApi, Fault}
use Rattle.cnb_layers.specs.Reading.{reads_document, value_at}
use Rattle.cnb_layers.specs.Refusals.{cause_of}

abbrev pub refusal_cause : ExportRefusal → Cause
refusal_cause (BuildpackApi text) = Decided
refusal_cause (Fault fault) = cause_of fault

abbrev pub frame_of : ExportWords → ExportFrame
frame_of words = record { store = words.store; layers = words.layers; app = words.app; launcher = words.launcher }

-- a document that must be there
abbrev pub needed_at : {A : Type 0} → (List ℕ → Result A DocFault) → List ℕ → Option (List ℕ) → Result A ExportFault
needed_at form path None = Err (Document path Absent)
needed_at form path (Some bytes) = value_at path (form bytes)

unfoldable pub reads_needed : {A : Type 0} → (List ℕ → Result A DocFault) → List ℕ → List ℕ → Seen
    → Result A ExportFault → Seen → Type 0
reads_needed form folder name = do
  path ← gives cause_of (Ok (joined folder name))
  found ← reads_document path
  gives cause_of (needed_at form path found)

abbrev pub served_unless : Option GroupRow → Result (Unit {0}) ExportRefusal
served_unless None = Ok tt
served_unless (Some row) = Err (BuildpackApi row.api)

-- such a buildpack refuses the group
abbrev pub served : List GroupRow → Result (Unit {0}) ExportRefusal
served group = served_unless (foreign_among group)

unfoldable pub reads_group : List ℕ → Seen → Result (List GroupRow) ExportRefusal → Seen → Type 0
reads_group work = do
  group ← map_err Fault (reads_needed group_in work (codes "group.toml"))
  allowed ← gives refusal_cause (served group)
  yields group

-- the group, what was analyzed, and the folders
unfoldable pub reads_given : ExportWords → Seen → Result ExportGiven ExportRefusal → Seen → Type 0
reads_given words = do
  group ← reads_group words.work
  analyzed ← map_err Fault (reads_needed analyzed_in words.work (codes "analyzed.toml"))
  gives refusal_cause (Ok (record { frame = frame_of words; group = group; analyzed = analyzed }))
