-- How a check goes on over the lines that are left.
use Rattle.std.specs.Prelude.{ℕ, ◌+◌, ◌≡◌, ◌==◌, Bool, true, false, ◌&&◌, nat_le, nat_lt, List, [], ◌∷◌, ◌++◌, length}
use Rattle.std.specs.Prelude.{if◌then◌else◌, Option, Some, None, Result, Ok, Err}
use Rattle.cnb_toml.specs.declared.names.Key.{Key}
use Rattle.cnb_toml.specs.declared.target.Target.{Target}
use Rattle.order_expand.specs.declared.member.Member.{Member}
use Rattle.plan_resolve.specs.declared.rows.AliveRow.{AliveRow}
use Rattle.plan_resolve.specs.declared.rows.TrialRow.{TrialRow}
use Rattle.plan_resolve.specs.Trials.{is_closed, places}
use Rattle.plan_resolve.specs.Choices.{choice_count}
use Rattle.cnb_world.specs.declared.child.Probed.{Probed}
use Rattle.detect_core.specs.declared.chosen.AnswerRow.{AnswerRow}
use Rattle.detect_core.specs.declared.chosen.Verdict.{Verdict}
use Rattle.detect_core.specs.Answer.{answer_of, build_plan}
use Rattle.detect_core.specs.Kept.{has_key}
use Rattle.detect_record.specs.declared.outcome.Checked.{Checked}
use Rattle.detect_record.specs.declared.outcome.CheckFault.{CheckFault}
use Rattle.detect_record.specs.declared.outcome.CheckFault.TheVariants.{Bad, Memory}
use Rattle.detect_record.specs.declared.parts.GroupLine.{GroupLine}
use Rattle.detect_record.specs.declared.parts.GroupLine.TheVariants.{Fails, Idle, Trials, Chosen, Drop, Keep}
use Rattle.detect_record.specs.declared.parts.Line.{Line}
use Rattle.detect_record.specs.declared.parts.Line.TheVariants.{Head, Target as TargetLine, Answer, Group}
use Rattle.detect_record.specs.LinesLeft.{LinesLeft}
use Rattle.detect_record.specs.Proving.{answered_by}
use Rattle.detect_record.specs.Record.{Stage, AtGroup, AtTrial, AtEnd, after, drops, trying}
use Rattle.detect_record.specs.Checking.{Reading, Following, read_all, with_answer}

-- the target, the answers and the listed groups
pub record Known : Type 0 where
  pub target : Option Target
  pub answers : List (Key × Verdict)
  pub groups : List (List Member)

-- what the lines that are left come to from where a reader is, or from a stage on
abbrev pub reads : List (List Member) → Reading → LinesLeft → Result Checked CheckFault
reads groups reading lines = read_all groups lines.taken reading lines.left

abbrev pub checks : Known → Stage → LinesLeft → Result Checked CheckFault
checks known stage lines = reads known.groups (Following known.target known.answers stage) lines

-- the same behind the line that was taken last, which leads to this stage or to none
abbrev pub checks_on : Known → Option Stage → LinesLeft → Result Checked CheckFault
checks_on known (Some stage) lines = checks known stage lines
checks_on known None lines = Err (Bad lines.taken)

abbrev pub after_line : Known → Stage → GroupLine → Option Stage
after_line known stage line = after (answered_by known.target known.answers known.groups) stage line

-- whether a line is to come
abbrev pub wants_line : Stage → Bool
wants_line (AtGroup place groups) = true
wants_line (AtTrial chosen place rows groups number trials) = true
wants_line (AtEnd place rows number trial set) = false

-- A call that takes lines: what they come to is what those behind them come to, or the fault.
abbrev pub GoesOn : {A : Type 0} → Result A CheckFault → Result Checked CheckFault
    → (A → Result Checked CheckFault) → Type 0
GoesOn (Ok value) from to = from ≡ to value
GoesOn (Err (Bad line)) from to = from ≡ Err (Bad line)
GoesOn (Err Memory) from to = Unit {0}

-- A call that judges the line that was taken last, which has this number: the line leads to a stage, or to none.
abbrev pub IsNext : {A : Type 0} → Result A CheckFault → ℕ → Option Stage → (A → Stage) → Type 0
IsNext (Ok value) taken next to = next ≡ Some (to value)
IsNext (Err (Bad line)) taken next to = (next ≡ None) × (line ≡ taken)
IsNext (Err Memory) taken next to = Unit {0}

-- ---- lines of trials

-- whether a line drops the trial
abbrev pub is_drop : List TrialRow → GroupLine → Bool
is_drop trial (Drop steps) = drops trial (places trial) steps
is_drop trial (Keep steps) = false
is_drop trial (Fails member) = false
is_drop trial Idle = false
is_drop trial (Trials count) = false
is_drop trial (Chosen count) = false

-- the places that are left, where there are some and they are closed
abbrev pub kept_by : List TrialRow → Option (List ℕ) → Option (List ℕ)
kept_by trial (Some left) = if nat_lt 0 (length left) && is_closed trial left then Some left else None
kept_by trial None = None

-- the stage behind a line of the chosen group's trial, where the line keeps these places or drops the trial
abbrev pub kept_or_next : ℕ → List AliveRow → List (List Member) → ℕ → List TrialRow → List (List TrialRow)
    → Option (List ℕ) → Stage
kept_or_next place rows groups number trial trials (Some set) = AtEnd place rows number trial set
kept_or_next place rows groups number trial trials None = trying true place rows groups (number + 1) trials

-- whether a group has so many trials, and not too many
abbrev pub has_trials : List AliveRow → ℕ → Bool
has_trials rows count = nat_le count 65536 && choice_count rows == count

-- ---- lines of groups

abbrev pub known_by : Option Target → List (Key × Verdict) → List (List Member) → Known
known_by target answers groups = record { target = target; answers = answers; groups = groups }

-- the record's end was reached, or the next group's line comes
abbrev pub found_or_next : Known → ℕ → List (List Member) → LinesLeft → Option Checked → Result Checked CheckFault
found_or_next known place groups lines (Some checked) = Ok checked
found_or_next known place groups lines None = checks known (AtGroup (place + 1) groups) lines

abbrev pub is_group : Line → Bool
is_group (Group line) = true
is_group Head = false
is_group (TargetLine target) = false
is_group (Answer key probed) = false

-- A call that wants the line of a group or of a trial: this line is one, or it has this number and is none.
abbrev pub IsGroupLine : Result GroupLine CheckFault → ℕ → Line → Type 0
IsGroupLine (Ok group) taken line = line ≡ Group group
IsGroupLine (Err (Bad number)) taken line = (is_group line ≡ false) × (number ≡ taken)
IsGroupLine (Err Memory) taken line = ⊥

-- ---- answers

-- the same behind an answer, where the buildpack has no other
abbrev pub reads_on : List (List Member) → Option Reading → LinesLeft → Result Checked CheckFault
reads_on groups (Some reading) lines = reads groups reading lines
reads_on groups None lines = Err (Bad lines.taken)

-- an answer was taken, or the line of a group comes
abbrev pub answered_or_behind : List (List Member) → Option Target → List (Key × Verdict) → LinesLeft
    → Option AnswerRow → Result Checked CheckFault
answered_or_behind groups target answers lines (Some row) =
    reads_on groups (with_answer target answers row.key (answer_of build_plan row.probed)) lines
answered_or_behind groups target answers lines None = checks (known_by target answers groups) (AtGroup 0 groups) lines

-- A call that adds an answer, whose line has this number, unless the buildpack has one.
abbrev pub IsAdded : {A : Type 0} → Result A CheckFault → ℕ → Key → Probed → List (Key × Verdict)
    → List (Key × Verdict) → Type 0
IsAdded (Ok value) taken key probed old new = (has_key old key ≡ false)
    × (new ≡ old ++ (key, answer_of build_plan probed) ∷ [])
IsAdded (Err (Bad line)) taken key probed old new = (has_key old key ≡ true) × (line ≡ taken)
IsAdded (Err Memory) taken key probed old new = Unit {0}

abbrev pub answer_row_of : Line → Option AnswerRow
answer_row_of (Answer key probed) = Some (record { key = key; probed = probed })
answer_row_of Head = None
answer_row_of (TargetLine target) = None
answer_row_of (Group line) = None

-- ---- the first lines

abbrev pub is_head : Line → Bool
is_head Head = true
is_head (TargetLine target) = false
is_head (Answer key probed) = false
is_head (Group line) = false

abbrev pub target_line : Line → Option (Option Target)
target_line (TargetLine target) = Some target
target_line Head = None
target_line (Answer key probed) = None
target_line (Group line) = None
