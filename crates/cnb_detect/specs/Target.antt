-- The target of a detection (platform.md, "detector").
use Rattle.std.specs.Prelude.{ℕ, Bool, true, List, Option, Some, Result, Ok}
use Rattle.cnb_world.specs.Tree.{Tree}
use Rattle.cnb_env.specs.Base.{is_named_target}
use Rattle.cnb_toml.specs.declared.target.Target.{Target}
use Rattle.doc_files.specs.Faults.{read_cause}
use Rattle.image_files.specs.Target.{analyzed_document, is_fit_target, target_at}
use Rattle.steps.specs.Causes.{Only}
use Rattle.steps.specs.Outside.{Seen}
use Rattle.steps.specs.Results.{with_fault}
use Rattle.steps.specs.Steps.{gives, map_err, reads}
use Rattle.cnb_detect.specs.declared.refusal.DetectRefusal.{DetectRefusal}
use Rattle.cnb_detect.specs.declared.target.TargetSource.{TargetSource}
use Rattle.cnb_detect.specs.declared.target.TargetSource.TheVariants.{Document, Given}
use Rattle.cnb_detect.specs.Refusals.{cause_of, of_read_fault}

abbrev pub reads_target : List ℕ → Seen → Result (Option Target) DetectRefusal → Seen → Type 0
reads_target work = map_err of_read_fault (reads read_cause (Only (analyzed_document work)) (is_fit_target work)
    (target_at work))

-- the target is read, where none is given
abbrev pub takes_target : TargetSource → List ℕ → Seen → Result (Option Target) DetectRefusal → Seen → Type 0
takes_target Document work = reads_target work
takes_target (Given target) work = gives cause_of (Ok (Some target))

-- the target, by the files
abbrev pub target_in : TargetSource → List ℕ → Tree → Result (Option Target) DetectRefusal
target_in Document work files = with_fault of_read_fault (target_at work files)
target_in (Given target) work files = Ok (Some target)

-- what stands where a target is read is of the kind that is needed
abbrev pub is_fit_source : TargetSource → List ℕ → Tree → Bool
is_fit_source Document work files = is_fit_target work files
is_fit_source (Given target) work files = true

-- the texts of a target that is given are names
abbrev pub is_named : TargetSource → Bool
is_named Document = true
is_named (Given target) = is_named_target (Some target)
