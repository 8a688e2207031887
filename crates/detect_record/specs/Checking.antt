-- What a record proves, read line by line, or the number of the first line that doesn't meet its rule.
use Rattle.std.specs.Prelude.{ℕ, ◌+◌, List, [], ◌∷◌, ◌++◌, map, if◌then◌else◌, Option, Some, None, Result, Ok, Err}
use Rattle.std.specs.List.{filter_map}
use Rattle.steps.specs.Causes.{Cause, OutOfMemory, Decided}
use Rattle.cnb_toml.specs.declared.names.Key.{Key}
use Rattle.cnb_toml.specs.declared.target.Target.{Target}
use Rattle.bp_docs.specs.declared.descriptor.Descriptor.{Descriptor}
use Rattle.bp_docs.specs.declared.descriptor.Entry.{Entry}
use Rattle.order_expand.specs.declared.member.Member.{Member}
use Rattle.order_expand.specs.Groups.{listed_groups}
use Rattle.plan_resolve.specs.declared.rows.AliveRow.{AliveRow}
use Rattle.plan_resolve.specs.declared.rows.TrialRow.{TrialRow}
use Rattle.plan_resolve.specs.Plan.{at_places}
use Rattle.plan_resolve.specs.Resolution.{resolved_at}
use Rattle.detect_core.specs.declared.chosen.Verdict.{Verdict}
use Rattle.detect_core.specs.Answer.{answer_of, build_plan}
use Rattle.detect_core.specs.Kept.{has_key}
use Rattle.detect_core.specs.Search.{group_rows}
use Rattle.detect_record.specs.declared.outcome.Checked.{Checked}
use Rattle.detect_record.specs.declared.outcome.CheckFault.{CheckFault}
use Rattle.detect_record.specs.declared.outcome.CheckFault.TheVariants.{Bad, Memory}
use Rattle.detect_record.specs.declared.parts.Line.{Line}
use Rattle.detect_record.specs.declared.parts.Line.TheVariants.{Head, Target as TargetLine, Answer, Group}
use Rattle.detect_record.specs.Lines.{lines_in}
use Rattle.detect_record.specs.Proving.{answered_by}
use Rattle.detect_record.specs.Record.{Stage, AtGroup, AtTrial, AtEnd, after}

-- where a reader of the lines is: before the first line, before the line of the target, among the answers, or at a
-- stage behind them
pub data Reading : Type 0 where
  Untitled : Reading
  Untargeted : Reading
  Answering : Option Target → List (Key × Verdict) → Reading
  Following : Option Target → List (Key × Verdict) → Stage → Reading

-- the answers and one more, unless the buildpack has one
abbrev pub with_answer : Option Target → List (Key × Verdict) → Key → Verdict → Option Reading
with_answer target answers key verdict = if has_key answers key then None else Some
    (Answering target (answers ++ (key, verdict) ∷ []))

abbrev pub following : Option Target → List (Key × Verdict) → Option Stage → Option Reading
following target answers (Some stage) = Some (Following target answers stage)
following target answers None = None

-- where a reader is behind a line that meets its rule, where these groups are listed
abbrev pub read_line : List (List Member) → Reading → Line → Option Reading
read_line groups Untitled Head = Some Untargeted
read_line groups Untitled line = None
read_line groups Untargeted (TargetLine target) = Some (Answering target [])
read_line groups Untargeted line = None
read_line groups (Answering target answers) (Answer key probed) = with_answer target answers key
    (answer_of build_plan probed)
read_line groups (Answering target answers) (Group line) = following target answers
    (after (answered_by target answers groups) (AtGroup 0 groups) line)
read_line groups (Answering target answers) line = None
read_line groups (Following target answers stage) (Group line) = following target answers
    (after (answered_by target answers groups) stage line)
read_line groups (Following target answers stage) line = None

abbrev pub read_piece : List (List Member) → Reading → Option Line → Option Reading
read_piece groups reading (Some line) = read_line groups reading line
read_piece groups reading None = None

-- the group, the plan and the numbers of what is kept
abbrev pub checked_at : ℕ → List AliveRow → ℕ → List TrialRow → List ℕ → Checked
checked_at place rows number trial set = record {
  group = group_rows (map (λ row. row.key) (at_places rows set));
  plan = (resolved_at rows number trial set).plan;
  place = place;
  trial = number;
}

-- where no line is left, one is missing, except behind the last
abbrev pub end_at : ℕ → Stage → Result Checked CheckFault
end_at taken (AtGroup place groups) = Err (Bad (taken + 1))
end_at taken (AtTrial chosen place rows groups number trials) = Err (Bad (taken + 1))
end_at taken (AtEnd place rows number trial set) = Ok (checked_at place rows number trial set)

abbrev pub end_of : ℕ → Reading → Result Checked CheckFault
end_of taken Untitled = Err (Bad (taken + 1))
end_of taken Untargeted = Err (Bad (taken + 1))
end_of taken (Answering target answers) = Err (Bad (taken + 1))
end_of taken (Following target answers stage) = end_at taken stage

-- what these lines come to, where so many were taken before
abbrev pub read_all : List (List Member) → ℕ → Reading → List (Option Line) → Result Checked CheckFault
read_all groups taken reading [] = end_of taken reading
read_all groups taken reading (piece ∷ pieces) =
    elim (read_piece groups reading piece) [
      | Some next ↦ read_all groups (taken + 1) next pieces
      | None
          ↦ Err (Bad (taken + 1))
    ]

unfoldable pub check_of : List Descriptor → List (List Entry) → List ℕ → Result Checked CheckFault
check_of catalog order bytes = read_all (listed_groups catalog order) 0 Untitled (lines_in bytes)

-- why a record proves nothing
abbrev pub cause_of : CheckFault → Cause
cause_of (Bad line) = Decided
cause_of Memory = OutOfMemory

-- the target and the answers that stand in lines
abbrev pub target_of : List (Option Line) → Option Target
target_of (first ∷ Some (TargetLine target) ∷ lines) = target
target_of lines = None

abbrev pub answer_in : Option Line → Option (Key × Verdict)
answer_in (Some (Answer key probed)) = Some (key, answer_of build_plan probed)
answer_in line = None

abbrev pub target_in : List ℕ → Option Target
target_in bytes = target_of (lines_in bytes)

abbrev pub answers_in : List ℕ → List (Key × Verdict)
answers_in bytes = filter_map answer_in (lines_in bytes)
