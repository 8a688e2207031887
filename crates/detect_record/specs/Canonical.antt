-- The record that a detection writes: each step is the first that fits, and a line ends as soon as it meets its rule.
use Rattle.std.specs.Prelude.{ℕ, zero, suc, ◌+◌, not, ◌||◌, List, [], ◌∷◌, ◌++◌, map, length, if◌then◌else◌, Option}
use Rattle.std.specs.Prelude.{Some, None}
use Rattle.cnb_toml.specs.declared.meta.Need.{Need}
use Rattle.order_expand.specs.declared.member.Member.{Member}
use Rattle.plan_resolve.specs.declared.rows.TrialRow.{TrialRow}
use Rattle.plan_resolve.specs.declared.rows.AliveRow.{AliveRow}
use Rattle.plan_resolve.specs.declared.rows.Resolved.{Resolved}
use Rattle.plan_resolve.specs.Trials.{provided_at, required_at, is_provided, is_required, places, kept_of}
use Rattle.plan_resolve.specs.Choices.{choices_of, choice_count}
use Rattle.plan_resolve.specs.Resolution.{first_passing}
use Rattle.detect_core.specs.declared.chosen.Verdict.{Verdict}
use Rattle.detect_core.specs.Answer.{is_pass, alive_of}
use Rattle.detect_record.specs.declared.parts.Step.{Step}
use Rattle.detect_record.specs.declared.parts.Side.TheVariants.{Required, Provided}
use Rattle.detect_record.specs.declared.parts.GroupLine.{GroupLine}
use Rattle.detect_record.specs.declared.parts.GroupLine.TheVariants.{Fails, Idle, Trials, Chosen, Drop, Keep}
use Rattle.detect_record.specs.Record.{without, may_drop, is_empty}

-- the first of these names, numbered from a number on, that no place left provides in time
abbrev pub first_unprovided : List TrialRow → List ℕ → ℕ → ℕ → List Need → Option ℕ
first_unprovided trial set place number [] = None
first_unprovided trial set place number (need ∷ needs) =
    if is_provided trial set place need.name then first_unprovided trial set place (number + 1) needs else Some number

abbrev pub first_unrequired : List TrialRow → List ℕ → ℕ → ℕ → List (List ℕ) → Option ℕ
first_unrequired trial set place number [] = None
first_unrequired trial set place number (name ∷ names) =
    if is_required trial set place name then first_unrequired trial set place (number + 1) names else Some number

-- what a buildpack requires comes before what it provides
abbrev pub step_by : ℕ → Option ℕ → Option ℕ → Option Step
step_by place (Some name) provided = Some (record { place = place; side = Required; name = name })
step_by place None (Some name) = Some (record { place = place; side = Provided; name = name })
step_by place None None = None

abbrev pub step_at : List TrialRow → List ℕ → ℕ → Option Step
step_at trial set place = step_by place (first_unprovided trial set place 0 (required_at trial place))
    (first_unrequired trial set place 0 (provided_at trial place))

abbrev pub first_step_of : List TrialRow → List ℕ → List ℕ → Option Step
first_step_of trial set [] = None
first_step_of trial set (place ∷ places) = elim (step_at trial set place)
    [ Some step ↦ Some step | None ↦ first_step_of trial set places ]

-- the first step that fits, the places ascending
abbrev pub first_step : List TrialRow → List ℕ → Option Step
first_step trial set = first_step_of trial set set

abbrev pub with_step : Step → GroupLine → GroupLine
with_step step (Drop steps) = Drop (step ∷ steps)
with_step step (Keep steps) = Keep (step ∷ steps)
with_step step (Fails member) = Fails member
with_step step Idle = Idle
with_step step (Trials count) = Trials count
with_step step (Chosen count) = Chosen count

-- the line of a trial of which these places are left; no more steps can be taken than there are places
abbrev pub line_from : ℕ → List TrialRow → List ℕ → GroupLine
line_from zero trial set = Keep []
line_from (suc steps) trial set = elim (first_step trial set) [
  | None ↦ Keep []
  | Some step ↦ if not (may_drop trial step) || is_empty (without step.place set) then Drop (step ∷ [])
      else with_step step (line_from steps trial (without step.place set))
]

abbrev pub line_of : List TrialRow → GroupLine
line_of trial = line_from (length trial) trial (places trial)

-- the lines of trials up to the first that passes
abbrev pub lines_until : List (List TrialRow) → List GroupLine
lines_until [] = []
lines_until (trial ∷ trials) = line_of trial ∷ elim (kept_of trial) [ Some set ↦ [] | None ↦ lines_until trials ]

-- the first required member that doesn't pass
abbrev pub first_failing : (Member → Verdict) → ℕ → List Member → Option ℕ
first_failing says number [] = None
first_failing says number (member ∷ members) =
    if not member.optional then (if is_pass (says member) then first_failing says (number + 1) members else Some number)
    else first_failing says (number + 1) members

abbrev pub dead_line_by : Option ℕ → GroupLine
dead_line_by (Some member) = Fails member
dead_line_by None = Idle

abbrev pub dead_line : (Member → Verdict) → List Member → GroupLine
dead_line says group = dead_line_by (first_failing says 0 group)

-- the lines of a group, and behind them those of the groups that come later where none of its trials passes
abbrev pub lines_by : List AliveRow → List GroupLine → Option Resolved → List GroupLine
lines_by rows later (Some resolved) = Chosen (choice_count rows) ∷ lines_until (choices_of rows)
lines_by rows later None = Trials (choice_count rows) ∷ map line_of (choices_of rows) ++ later

abbrev pub lines_with : (Member → Verdict) → List Member → List GroupLine → Option (List AliveRow) → List GroupLine
lines_with says group later None = dead_line says group ∷ later
lines_with says group later (Some rows) = lines_by rows later (first_passing rows 0 (choices_of rows))

abbrev pub lines_of : (Member → Verdict) → List (List Member) → List GroupLine
lines_of says [] = []
lines_of says (group ∷ groups) = lines_with says group (lines_of says groups) (alive_of says group)
