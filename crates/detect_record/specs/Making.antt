-- The record that is made of a detection.
use Rattle.std.specs.Prelude.{ℕ, ◌++◌, List, ◌∷◌, length, map, nat_le, if◌then◌else◌, Option, Result, Ok, Err}
use Rattle.steps.specs.Causes.{Cause, OutOfMemory, Decided}
use Rattle.cnb_toml.specs.declared.target.Target.{Target}
use Rattle.bp_docs.specs.declared.descriptor.Descriptor.{Descriptor}
use Rattle.bp_docs.specs.declared.descriptor.Entry.{Entry}
use Rattle.order_expand.specs.declared.member.Member.{Member}
use Rattle.order_expand.specs.Groups.{listed_groups}
use Rattle.plan_resolve.specs.declared.rows.TrialRow.{TrialRow}
use Rattle.detect_core.specs.declared.chosen.AnswerRow.{AnswerRow}
use Rattle.detect_core.specs.declared.chosen.Recorded.{Recorded}
use Rattle.detect_core.specs.Recorded.{says_recorded}
use Rattle.detect_record.specs.declared.outcome.Checked.{Checked}
use Rattle.detect_record.specs.declared.outcome.RecordFault.{RecordFault}
use Rattle.detect_record.specs.declared.outcome.RecordFault.TheVariants.{Large, Memory}
use Rattle.detect_record.specs.declared.parts.Line.{Line}
use Rattle.detect_record.specs.declared.parts.Line.TheVariants.{Head, Target as TargetLine, Answer, Group}
use Rattle.detect_record.specs.Canonical.{line_of, lines_of}
use Rattle.detect_record.specs.Lines.{lines_text, whole_line}

abbrev pub answer_line : AnswerRow → Line
answer_line row = Answer row.key row.probed

-- the text of an answer and of a trial's line
abbrev pub answer_whole : AnswerRow → List ℕ
answer_whole row = whole_line (answer_line row)

abbrev pub trial_whole : List TrialRow → List ℕ
trial_whole trial = whole_line (Group (line_of trial))

-- the lines of a record: its head, the target, the answers in the order of asking, and the lines of the groups
abbrev pub record_lines : Option Target → List AnswerRow → List (List Member) → List Line
record_lines target rows groups =
    Head ∷ TargetLine target ∷ map answer_line rows ++ map Group (lines_of (says_recorded target rows) groups)

-- these bytes, unless there are more than 16,777,216
abbrev pub within_limit : List ℕ → Result (List ℕ) RecordFault
within_limit bytes = if nat_le (length bytes) 16777216 then Ok bytes else Err Large

unfoldable pub record_of : List Descriptor → List (List Entry) → Option Target → Recorded → Result (List ℕ) RecordFault
record_of catalog order target found =
    within_limit (lines_text (record_lines target found.answers (listed_groups catalog order)))

-- what the record is to prove: the group that was chosen and its plan, the group's place and the number of its trial
abbrev pub checked_of : Recorded → Checked
checked_of found = record {
  group = found.chosen.group;
  plan = found.chosen.plan;
  place = found.chosen.place;
  trial = found.chosen.trial;
}

-- why no record is made
abbrev pub fault_cause : RecordFault → Cause
fault_cause Large = Decided
fault_cause Memory = OutOfMemory
