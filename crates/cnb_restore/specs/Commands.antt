-- What the commands `analyze` and `restore` do, in the order of their work (platform.md, "analyzer", "restorer").
use Rattle.std.specs.Prelude.{ℕ, ◌≡◌, List, codes, Option, Some, None, Result, Ok, Err, IsTrue}
use Rattle.cnb_toml.specs.declared.fault.DocFault.TheVariants.{Absent}
use Rattle.cnb_words.specs.declared.analyze.AnalyzeWords.{AnalyzeWords}
use Rattle.cnb_words.specs.declared.restore.RestoreWords.{RestoreWords}
use Rattle.cnb_world.specs.Path.{joined}
use Rattle.cnb_world.specs.Tree.{Tree}
use Rattle.image_docs.specs.Analyzed.{analyzed_in, is_analyzed, table_in}
use Rattle.image_docs.specs.declared.analyzed.Analyzed.{Analyzed}
use Rattle.run_docs.specs.Group.{foreign_among, rows_in}
use Rattle.run_docs.specs.declared.group.GroupRow.{GroupRow}
use Rattle.shelf_set.specs.Caches.{WorldAndCaches, in_world}
use Rattle.steps.specs.Causes.{Cause, Decided, Only}
use Rattle.steps.specs.Outside.{Seen}
use Rattle.steps.specs.Results.{and_then, with_fault}
use Rattle.steps.specs.Steps.{◌>>=◌, gives, map_err, reads, writes, yields}
use Rattle.cnb_restore.specs.declared.fault.RestoreFault.{RestoreFault}
use Rattle.cnb_restore.specs.declared.fault.RestoreFault.TheVariants.{Document}
use Rattle.cnb_restore.specs.declared.refusal.RestoreRefusal.{RestoreRefusal}
use Rattle.cnb_restore.specs.declared.refusal.RestoreRefusal.TheVariants.{BuildpackApi, Fault}
use Rattle.cnb_restore.specs.Analyzes.{analyzes}
use Rattle.image_files.specs.Documents.{document_in, is_fit_document}
use Rattle.image_files.specs.Target.{analyzed_document}
use Rattle.cnb_restore.specs.Faults.{cause_of, of_read_fault}
use Rattle.cnb_restore.specs.Report.{analyzed_text, restored_text}
use Rattle.cnb_restore.specs.Restores.{restores}

abbrev pub refusal_cause : RestoreRefusal → Cause
refusal_cause (Fault fault) = cause_of fault
refusal_cause (BuildpackApi text) = Decided

abbrev pub group_document : List ℕ → List ℕ
group_document work = joined work (codes "group.toml")

-- bytes that read as what was analyzed; what was read of a run image can be written
abbrev pub ReadsAsAnalyzed : Analyzed → List ℕ → Type 0
ReadsAsAnalyzed analyzed bytes = IsTrue (is_analyzed analyzed) → analyzed_in bytes ≡ Ok analyzed

-- `analyze`: the images are looked at, the text is made, and `analyzed.toml` is written last
unfoldable pub analyzes_command : AnalyzeWords → Seen → Result (List ℕ) RestoreFault → Seen → Type 0
analyzes_command words = do
  analyzed ← analyzes words.store words.run words.previous
  text ← gives cause_of (Ok (analyzed_text analyzed))
  written ← writes cause_of (analyzed_document words.work) (ReadsAsAnalyzed analyzed)
  yields text

-- a document that must be there
abbrev pub needed : {A : Type 0} → List ℕ → Option A → Result A RestoreFault
needed path None = Err (Document path Absent)
needed path (Some value) = Ok value

-- what was analyzed, of the work folder
abbrev pub analyzed_at : List ℕ → Tree → Result Analyzed RestoreFault
analyzed_at path files = and_then (with_fault of_read_fault (document_in table_in path files)) (needed path)

-- the chosen group, of the work folder
abbrev pub group_at : List ℕ → Tree → Result (List GroupRow) RestoreFault
group_at path files = and_then (with_fault of_read_fault (document_in rows_in path files)) (needed path)

-- what a document of the work folder says is read
abbrev pub reads_at : {A : Type 0} → (List ℕ → Tree → Result A RestoreFault) → List ℕ → Seen → Result A RestoreFault
    → Seen → Type 0
reads_at said path = reads cause_of (Only path) (is_fit_document path) (said path)

abbrev pub served_unless : Option GroupRow → Result (Unit {0}) RestoreRefusal
served_unless None = Ok tt
served_unless (Some row) = Err (BuildpackApi row.api)

-- a group of which each buildpack has the Buildpack API that is served; else the first that has another decides
abbrev pub served : List GroupRow → Result (Unit {0}) RestoreRefusal
served group = served_unless (foreign_among group)

-- the layers of a group are restored, where each of its buildpacks is served, and the text is made
unfoldable pub restores_analyzed : RestoreWords → Analyzed → List GroupRow → WorldAndCaches
    → Result (List ℕ) RestoreRefusal → WorldAndCaches → Type 0
restores_analyzed words analyzed group = do
  allowed ← gives refusal_cause (served group)
  restored ← map_err Fault (restores words.store analyzed.previous group words.layers)
  gives refusal_cause (Ok (restored_text restored))

-- `restore`: what was analyzed and the group are read, the layers are restored, and the text is made
unfoldable pub restores_command : RestoreWords → WorldAndCaches → Result (List ℕ) RestoreRefusal → WorldAndCaches
    → Type 0
restores_command words = do
  analyzed ← map_err Fault (in_world (reads_at analyzed_at (analyzed_document words.work)))
  group ← map_err Fault (in_world (reads_at group_at (group_document words.work)))
  restores_analyzed words analyzed group
