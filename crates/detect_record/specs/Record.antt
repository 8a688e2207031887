-- A record of a detection: lines that say, group by group and trial by trial, why each is passed over, and what the
-- first trial that passes keeps.
use Rattle.std.specs.Prelude.{ℕ, ◌+◌, ◌==◌, Bool, true, false, not, ◌&&◌, ◌||◌, nat_le, nat_lt, List, [], ◌∷◌, length}
use Rattle.std.specs.Prelude.{slice_get, Option, Some, None}
use Rattle.std.specs.List.{filter, list_any, list_all}
use Rattle.cnb_toml.specs.declared.meta.Need.{Need}
use Rattle.order_expand.specs.declared.member.Member.{Member}
use Rattle.plan_resolve.specs.declared.rows.TrialRow.{TrialRow}
use Rattle.plan_resolve.specs.declared.rows.AliveRow.{AliveRow}
use Rattle.plan_resolve.specs.Trials.{provided_at, required_at, is_provided, is_required, is_closed, places, is_in}
use Rattle.plan_resolve.specs.Trials.{is_optional_at}
use Rattle.plan_resolve.specs.Choices.{choices_of, choice_count}
use Rattle.detect_core.specs.declared.chosen.Verdict.{Verdict}
use Rattle.detect_core.specs.Answer.{is_pass, alive_of}
use Rattle.detect_record.specs.declared.parts.Step.{Step}
use Rattle.detect_record.specs.declared.parts.Side.{Side}
use Rattle.detect_record.specs.declared.parts.Side.TheVariants.{Required, Provided}
use Rattle.detect_record.specs.declared.parts.GroupLine.{GroupLine}
use Rattle.detect_record.specs.declared.parts.GroupLine.TheVariants.{Fails, Idle, Trials, Chosen, Drop, Keep}

-- ---- steps

abbrev pub lacks_provider : List TrialRow → List ℕ → ℕ → Option Need → Bool
lacks_provider trial set place (Some need) = not (is_provided trial set place need.name)
lacks_provider trial set place None = false

abbrev pub lacks_requirer : List TrialRow → List ℕ → ℕ → Option (List ℕ) → Bool
lacks_requirer trial set place (Some name) = not (is_required trial set place name)
lacks_requirer trial set place None = false

abbrev pub is_unmet : List TrialRow → List ℕ → ℕ → Side → ℕ → Bool
is_unmet trial set place Required name = lacks_provider trial set place (slice_get (required_at trial place) name)
is_unmet trial set place Provided name = lacks_requirer trial set place (slice_get (provided_at trial place) name)

-- a step fits where its place is left, and its name isn't met by the places left
abbrev pub step_fits : List TrialRow → List ℕ → Step → Bool
step_fits trial set step = is_in step.place set && is_unmet trial set step.place step.side step.name

abbrev pub without : ℕ → List ℕ → List ℕ
without place set = filter (λ other. not (other == place)) set

abbrev pub may_drop : List TrialRow → Step → Bool
may_drop trial step = is_optional_at (slice_get trial step.place)

abbrev pub left_if : Bool → Option (List ℕ) → Option (List ℕ)
left_if true left = left
left_if false left = None

-- the places left by steps that fit and have optional rows
abbrev pub left_after : List TrialRow → List ℕ → List Step → Option (List ℕ)
left_after trial set [] = Some set
left_after trial set (step ∷ steps) =
    left_if (step_fits trial set step && may_drop trial step) (left_after trial (without step.place set) steps)

abbrev pub is_empty : {X : Type 0} → List X → Bool
is_empty [] = true
is_empty (x ∷ xs) = false

-- steps that show that a trial fails: the last one has a required row, or leaves no place
abbrev pub drops : List TrialRow → List ℕ → List Step → Bool
drops trial set [] = false
drops trial set (step ∷ []) = step_fits trial set step &&
    (not (may_drop trial step) || is_empty (without step.place set))
drops trial set (step ∷ next ∷ steps) =
    step_fits trial set step && may_drop trial step && drops trial (without step.place set) (next ∷ steps)

-- ---- lines of groups

-- what the lines before say: what members answered, whether a member needs no answer or has one, and whether the
-- answered keys are those of the groups up to a place
pub record Answered : Type 0 where
  pub says : Member → Verdict
  pub has_answer : Member → Bool
  pub keys_right : ℕ → Bool

-- where a reader of the lines is: before the line of the next group, before the line of a trial of a group, which is
-- the chosen one or not, or behind the last line
pub data Stage : Type 0 where
  AtGroup : ℕ → List (List Member) → Stage
  AtTrial : Bool → ℕ → List AliveRow → List (List Member) → ℕ → List (List TrialRow) → Stage
  AtEnd : ℕ → List AliveRow → ℕ → List TrialRow → List ℕ → Stage

abbrev pub stage_if : Bool → Stage → Option Stage
stage_if true stage = Some stage
stage_if false stage = None

-- behind the last trial of a group that isn't the chosen one comes the next group
abbrev pub trying : Bool → ℕ → List AliveRow → List (List Member) → ℕ → List (List TrialRow) → Stage
trying false place rows groups number [] = AtGroup (place + 1) groups
trying true place rows groups number [] = AtTrial true place rows groups number []
trying chosen place rows groups number (trial ∷ trials) = AtTrial chosen place rows groups number (trial ∷ trials)

abbrev pub fails_at : (Member → Verdict) → Option Member → Bool
fails_at says (Some member) = not member.optional && not (is_pass (says member))
fails_at says None = false

abbrev pub begun : Bool → ℕ → Option (List AliveRow) → List (List Member) → ℕ → Option Stage
begun chosen place (Some rows) groups count =
    stage_if (nat_le count 65536 && choice_count rows == count) (trying chosen place rows groups 0 (choices_of rows))
begun chosen place None groups count = None

abbrev pub begun_if : Bool → Option Stage → Option Stage
begun_if true stage = stage
begun_if false stage = None

-- the stage behind the line of a group
abbrev pub after_group : Answered → ℕ → List Member → List (List Member) → GroupLine → Option Stage
after_group answered place group groups (Fails member) =
    stage_if (fails_at answered.says (slice_get group member)) (AtGroup (place + 1) groups)
after_group answered place group groups Idle =
    stage_if (not (list_any (λ member. is_pass (answered.says member)) group)) (AtGroup (place + 1) groups)
after_group answered place group groups (Trials count) = begun false place (alive_of answered.says group) groups count
after_group answered place group groups (Chosen count) =
    begun_if (answered.keys_right place) (begun true place (alive_of answered.says group) groups count)
after_group answered place group groups (Drop steps) = None
after_group answered place group groups (Keep steps) = None

abbrev pub kept_stage : ℕ → List AliveRow → ℕ → List TrialRow → Option (List ℕ) → Option Stage
kept_stage place rows number trial (Some set) =
    stage_if (nat_lt 0 (length set) && is_closed trial set) (AtEnd place rows number trial set)
kept_stage place rows number trial None = None

abbrev pub kept_if_chosen : Bool → Option Stage → Option Stage
kept_if_chosen true stage = stage
kept_if_chosen false stage = None

-- the stage behind the line of a trial
abbrev pub after_trial : Bool → ℕ → List AliveRow → List (List Member) → ℕ → List TrialRow → List (List TrialRow)
    → GroupLine → Option Stage
after_trial chosen place rows groups number trial trials (Drop steps) =
    stage_if (drops trial (places trial) steps && not (chosen && is_empty trials))
    (trying chosen place rows groups (number + 1) trials)
after_trial chosen place rows groups number trial trials (Keep steps) =
    kept_if_chosen chosen (kept_stage place rows number trial (left_after trial (places trial) steps))
after_trial chosen place rows groups number trial trials (Fails member) = None
after_trial chosen place rows groups number trial trials Idle = None
after_trial chosen place rows groups number trial trials (Trials count) = None
after_trial chosen place rows groups number trial trials (Chosen count) = None

-- the stage behind a line, where the line meets its rule
abbrev pub after : Answered → Stage → GroupLine → Option Stage
after answered (AtGroup place []) line = None
after answered (AtGroup place (group ∷ groups)) line =
    begun_if (list_all answered.has_answer group) (after_group answered place group groups line)
after answered (AtTrial chosen place rows groups number []) line = None
after answered (AtTrial chosen place rows groups number (trial ∷ trials)) line =
    after_trial chosen place rows groups number trial trials line
after answered (AtEnd place rows number trial set) line = None

abbrev pub after_all : Answered → Option Stage → List GroupLine → Option Stage
after_all answered None lines = None
after_all answered (Some stage) [] = Some stage
after_all answered (Some stage) (line ∷ lines) = after_all answered (after answered stage line) lines
