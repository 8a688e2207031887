-- The first trial of a group that passes.
use Rattle.std.specs.Prelude.{ℕ, ◌+◌, ◌≡◌, Bool, true, false, List, [], ◌∷◌, length, nat_lt, Option, Some, None, Result}
use Rattle.std.specs.Prelude.{Ok, Err}
use Rattle.steps.specs.Causes.{Cause, OutOfMemory, Decided}
use Rattle.plan_resolve.specs.declared.rows.TrialRow.{TrialRow}
use Rattle.plan_resolve.specs.declared.rows.AliveRow.{AliveRow}
use Rattle.plan_resolve.specs.declared.rows.Resolved.{Resolved}
use Rattle.plan_resolve.specs.declared.resolution.PlanFault.{PlanFault}
use Rattle.plan_resolve.specs.declared.resolution.PlanFault.TheVariants.{ManyTrials, Memory}
use Rattle.plan_resolve.specs.Trials.{kept_of}
use Rattle.plan_resolve.specs.Choices.{choices_of, choice_count}
use Rattle.plan_resolve.specs.Plan.{at_places, plan_of, with_keys}

abbrev pub resolved_at : List AliveRow → ℕ → List TrialRow → List ℕ → Resolved
resolved_at rows number trial set = record {
  trial = number;
  trials = choice_count rows;
  kept = set;
  plan = plan_of (at_places (with_keys rows trial) set);
}

-- the first of these trials that passes, where they are numbered from a number on
abbrev pub first_passing : List AliveRow → ℕ → List (List TrialRow) → Option Resolved
first_passing rows number [] = None
first_passing rows number (trial ∷ trials) =
    elim (kept_of trial) [
      | Some set ↦ Some (resolved_at rows number trial set)
      | None
          ↦ first_passing rows (number + 1) trials
    ]

-- what a group's trials come to
pub data Resolution : Type 0 where
  TooMany : Resolution
  Passes : Resolved → Resolution
  Fails : Resolution

abbrev pub passes_or_fails : Option Resolved → Resolution
passes_or_fails (Some resolved) = Passes resolved
passes_or_fails None = Fails

-- at most 65,536 trials are tried
unfoldable pub resolution : List AliveRow → Resolution
resolution rows = elim (nat_lt 65536 (choice_count rows)) [
  | true ↦ TooMany
  | false ↦ passes_or_fails (first_passing rows 0 (choices_of rows))
]

-- a buildpack that passed has an alternative
abbrev pub has_options : AliveRow → Bool
has_options row = nat_lt 0 (length row.options)

-- what a call answers of them: the first passing trial, or none, or that there are too many
abbrev pub resolution_answer : Resolution → Result (Option Resolved) PlanFault
resolution_answer TooMany = Err ManyTrials
resolution_answer (Passes resolved) = Ok (Some resolved)
resolution_answer Fails = Ok None

abbrev pub cause_of : PlanFault → Cause
cause_of ManyTrials = Decided
cause_of Memory = OutOfMemory
