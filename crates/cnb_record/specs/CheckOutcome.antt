-- What `check` comes to, as a function of its options and the files.
use Rattle.std.specs.Prelude.{ℕ, ◌≡◌, ◌⊎◌, ◌&&◌, Bool, List, Result, Ok, Err, IfSome}
use Rattle.std.specs.Option.{option_map}
use Rattle.cnb_detect.specs.Documents.{group_document, plan_document}
use Rattle.cnb_words.specs.declared.check.CheckWords.{CheckWords}
use Rattle.cnb_world.specs.Calls.{MayMisuse}
use Rattle.cnb_world.specs.Tree.{Tree}
use Rattle.detect_record.specs.Checking.{check_of}
use Rattle.detect_record.specs.declared.outcome.Checked.{Checked}
use Rattle.order_expand.specs.Check.{checked}
use Rattle.order_files.specs.Catalog.{catalog_in, is_fit_catalog}
use Rattle.order_files.specs.OrderFile.{order_file_in, is_fit_order_file}
use Rattle.run_docs.specs.Group.{group_in}
use Rattle.run_docs.specs.Plan.{plan_in}
use Rattle.run_docs.specs.declared.group.GroupRow.{GroupRow}
use Rattle.run_docs.specs.declared.plan.PlanEntry.{PlanEntry}
use Rattle.steps.specs.Causes.{WhereDecided}
use Rattle.steps.specs.Outside.{Seen}
use Rattle.steps.specs.Results.{◌>>=◌, with_fault}
use Rattle.steps.specs.Steps.{Same}
use Rattle.cnb_record.specs.declared.ordering.Ordered.{Ordered}
use Rattle.cnb_record.specs.declared.refusal.CheckRefusal.{CheckRefusal}
use Rattle.cnb_record.specs.declared.refusal.CheckRefusal.TheVariants.{RecordDiffers}
use Rattle.cnb_record.specs.Checks.{known_apis}
use Rattle.cnb_record.specs.Reading.{is_fit_file, needed_at, record_at}
use Rattle.cnb_record.specs.Refusals.{cause_of, of_check_fault, of_order_fault, of_read_fault}
use Rattle.cnb_record.specs.Report.{checked_text}

-- the order, the buildpacks, the check of the order: the first refusal decides
abbrev pub ordered_in : List ℕ → List ℕ → Tree → Result Ordered CheckRefusal
ordered_in order_file buildpacks files = do
  order ← with_fault of_read_fault (order_file_in order_file files)
  catalog ← with_fault of_read_fault (catalog_in buildpacks files)
  groups ← with_fault of_order_fault (checked catalog order)
  Ok (record { order = order; catalog = catalog })

-- the record, and what it proves for them
abbrev pub followed_in : List ℕ → Ordered → Tree → Result Checked CheckRefusal
followed_in path ordered files = do
  bytes ← with_fault of_read_fault (record_at path files)
  with_fault of_check_fault (check_of ordered.catalog ordered.order bytes)

abbrev pub proved_in : CheckWords → Tree → Result Checked CheckRefusal
proved_in words files = do
  ordered ← ordered_in words.order words.buildpacks files
  followed_in words.proof_path ordered files

-- the group of a document
abbrev pub group_there : List ℕ → Tree → Result (List GroupRow) CheckRefusal
group_there path files = do
  group ← with_fault of_read_fault (needed_at group_in path files)
  known ← known_apis group
  Ok group

-- the plan of a document
abbrev pub plan_there : List ℕ → Tree → Result (List PlanEntry) CheckRefusal
plan_there path files = with_fault of_read_fault (needed_at plan_in path files)

-- a document is refused, or has another value than the one that is proved
abbrev pub IsRefused : {A : Type 0} → List ℕ → Result A CheckRefusal → A → CheckRefusal → Type 0
IsRefused {A} path there proved refusal =
    (there ≡ Err refusal) ⊎ ((found : A) × (there ≡ Ok found) × (found ≡ proved → ⊥) × (refusal ≡ RecordDiffers path))

-- why the documents are refused: the group before the plan
abbrev pub AreRefused : List ℕ → Tree → Checked → CheckRefusal → Type 0
AreRefused work files proved refusal =
    IsRefused (group_document work) (group_there (group_document work) files) proved.group refusal
    ⊎ ((group_there (group_document work) files ≡ Ok proved.group)
    × IsRefused (plan_document work) (plan_there (plan_document work) files) proved.plan refusal)

-- why a check is refused: the record before the documents
abbrev pub IsCheckRefused : CheckWords → Tree → CheckRefusal → Type 0
IsCheckRefused words files refusal =
    (proved_in words files ≡ Err refusal) ⊎ ((proved : Checked) × (proved_in words files ≡ Ok proved)
    × AreRefused words.work files proved refusal)

-- The record proves, and both documents have the values that it proves; or the first of them that doesn't decides.
abbrev pub IsChecked : CheckWords → Tree → Result (List ℕ) CheckRefusal → Type 0
IsChecked words files (Ok text) =
    (proved : Checked) × (proved_in words files ≡ Ok proved)
    × (group_there (group_document words.work) files ≡ Ok proved.group)
    × (plan_there (plan_document words.work) files ≡ Ok proved.plan)
    × (text ≡ checked_text proved.place proved.trial)
IsChecked words files (Err refusal) = WhereDecided (cause_of refusal) (IsCheckRefused words files refusal)

-- what stands where the command reads is of the kind that it needs
abbrev pub is_fit_check : CheckWords → Tree → Bool
is_fit_check words files =
    is_fit_order_file words.order files && is_fit_catalog words.buildpacks files && is_fit_file words.proof_path files
    && is_fit_file (group_document words.work) files && is_fit_file (plan_document words.work) files

-- What `check` comes to, by the files. It leaves them and all children as they were.
pub record ComesToCheck (words : CheckWords) (old : Seen) (end : Result (List ℕ) CheckRefusal)
    (new : Seen) : Type 0 where
  pub same : Same old new
  pub comes : IfSome old.files (λ files. IsChecked words files end)
  pub misused : MayMisuse (option_map (is_fit_check words) old.files) old.misused new.misused
