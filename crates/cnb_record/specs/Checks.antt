-- What the command `check` does, in the order of its work.
use Rattle.std.specs.Prelude.{ℕ, ◌≡◌, List, Option, Some, None, Result, Ok, Err}
use Rattle.cnb_detect.specs.Documents.{group_document, plan_document}
use Rattle.cnb_words.specs.declared.check.CheckWords.{CheckWords}
use Rattle.detect_record.specs.Checking.{check_of, cause_of as check_cause}
use Rattle.detect_record.specs.declared.outcome.Checked.{Checked}
use Rattle.doc_files.specs.Faults.{read_cause}
use Rattle.order_expand.specs.Check.{checked, cause_of as order_cause}
use Rattle.order_files.specs.Catalog.{IsOfCatalog, catalog_in, is_fit_catalog}
use Rattle.order_files.specs.OrderFile.{order_file_in, is_fit_order_file}
use Rattle.run_docs.specs.Group.{foreign_among, group_in}
use Rattle.run_docs.specs.Plan.{plan_in}
use Rattle.run_docs.specs.declared.group.GroupRow.{GroupRow}
use Rattle.run_docs.specs.declared.plan.PlanEntry.{PlanEntry}
use Rattle.steps.specs.Causes.{Only}
use Rattle.steps.specs.Outside.{Seen}
use Rattle.steps.specs.Steps.{◌>>=◌, gives, map_err, reads, yields}
use Rattle.cnb_record.specs.declared.ordering.Ordered.{Ordered}
use Rattle.cnb_record.specs.declared.refusal.CheckRefusal.{CheckRefusal}
use Rattle.cnb_record.specs.declared.refusal.CheckRefusal.TheVariants.{BuildpackApi, RecordDiffers}
use Rattle.cnb_record.specs.Reading.{is_fit_file, needed_at, record_at}
use Rattle.cnb_record.specs.Refusals.{cause_of, of_check_fault, of_order_fault, of_read_fault}
use Rattle.cnb_record.specs.Report.{checked_text}

-- the order and the buildpacks are read, and the order is checked
unfoldable pub reads_ordered : List ℕ → List ℕ → Seen → Result Ordered CheckRefusal → Seen → Type 0
reads_ordered order_file buildpacks = do
  order ← map_err of_read_fault (reads read_cause (Only order_file) (is_fit_order_file order_file)
      (order_file_in order_file))
  catalog ← map_err of_read_fault (reads read_cause (IsOfCatalog buildpacks) (is_fit_catalog buildpacks)
      (catalog_in buildpacks))
  groups ← map_err of_order_fault (gives order_cause (checked catalog order))
  yields (record { order = order; catalog = catalog })

-- the record is read and followed
unfoldable pub follows : List ℕ → Ordered → Seen → Result Checked CheckRefusal → Seen → Type 0
follows path ordered = do
  bytes ← map_err of_read_fault (reads read_cause (Only path) (is_fit_file path) (record_at path))
  map_err of_check_fault (gives check_cause (check_of ordered.catalog ordered.order bytes))

-- what the record proves for the order and the buildpacks
unfoldable pub proves : CheckWords → Seen → Result Checked CheckRefusal → Seen → Type 0
proves words = do
  ordered ← reads_ordered words.order words.buildpacks
  follows words.proof_path ordered

abbrev pub known_unless : Option GroupRow → Result (Unit {0}) CheckRefusal
known_unless None = Ok tt
known_unless (Some row) = Err (BuildpackApi row.api)

-- a group is refused that has a buildpack of another Buildpack API
abbrev pub known_apis : List GroupRow → Result (Unit {0}) CheckRefusal
known_apis group = known_unless (foreign_among group)

-- the group of a document is read
unfoldable pub reads_group : List ℕ → Seen → Result (List GroupRow) CheckRefusal → Seen → Type 0
reads_group path = do
  group ← map_err of_read_fault (reads read_cause (Only path) (is_fit_file path) (needed_at group_in path))
  known ← gives cause_of (known_apis group)
  yields group

-- the plan of a document is read
abbrev pub reads_plan : List ℕ → Seen → Result (List PlanEntry) CheckRefusal → Seen → Type 0
reads_plan path = map_err of_read_fault (reads read_cause (Only path) (is_fit_file path) (needed_at plan_in path))

-- a value is the one that is proved, or the document at its path differs
abbrev pub IsMatched : {A : Type 0} → List ℕ → A → A → Result (Unit {0}) CheckRefusal → Type 0
IsMatched path proved found (Ok done) = found ≡ proved
IsMatched path proved found (Err (RecordDiffers at)) = (at ≡ path) × (found ≡ proved → ⊥)
IsMatched path proved found (Err refusal) = ⊥

-- a value is compared, which costs nothing
unfoldable pub matches : {A : Type 0} → List ℕ → A → A → Seen → Result (Unit {0}) CheckRefusal → Seen → Type 0
matches path proved found old result new = (new ≡ old) × IsMatched path proved found result

unfoldable pub compares_group : List ℕ → List GroupRow → Seen → Result (Unit {0}) CheckRefusal → Seen → Type 0
compares_group path proved = do
  group ← reads_group path
  matches path proved group

unfoldable pub compares_plan : List ℕ → List PlanEntry → Seen → Result (Unit {0}) CheckRefusal → Seen → Type 0
compares_plan path proved = do
  plan ← reads_plan path
  matches path proved plan

-- both documents of a work folder are compared, the group first, and the text is made
unfoldable pub compares : List ℕ → Checked → Seen → Result (List ℕ) CheckRefusal → Seen → Type 0
compares work proved = do
  group ← compares_group (group_document work) proved.group
  plan ← compares_plan (plan_document work) proved.plan
  gives cause_of (Ok (checked_text proved.place proved.trial))

-- the command
unfoldable pub checks : CheckWords → Seen → Result (List ℕ) CheckRefusal → Seen → Type 0
checks words = do
  proved ← proves words
  compares words.work proved
