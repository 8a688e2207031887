-- Trials that fail for what they begin with (buildpack.md, "Phase #1: Detection", "Process").
use Rattle.std.specs.Prelude.{ℕ, ◌+◌, ◌<◌, ◌≤◌, ◌≡◌, true, List, ◌++◌, length, slice_get, Some, None}
use Rattle.plan_resolve.specs.declared.rows.TrialRow.{TrialRow}
use Rattle.plan_resolve.specs.declared.rows.AliveRow.{AliveRow}
use Rattle.plan_resolve.specs.Trials.{is_closed, is_in, kept_of}
use Rattle.plan_resolve.specs.Choices.{choices_of, choice_count}

-- a dead prefix: whatever rows follow it, the trial fails
abbrev pub IsDead : List TrialRow → Type 0
IsDead prefix = (rest : List TrialRow) → kept_of (prefix ++ rest) ≡ None

-- whatever rows follow the prefix, a closed set has none of its places but these
pub record CoversClosed (prefix : List TrialRow) (covered : List ℕ) : Type 0 where
  pub each : (rest : List TrialRow) (set : List ℕ) (place : ℕ) → is_closed (prefix ++ rest) set ≡ true →
      is_in place set ≡ true → place < length prefix → is_in place covered ≡ true

-- some trials from a number on, all of which fail
pub record AllFail (rows : List AliveRow) (number count : ℕ) : Type 0 where
  pub some : 0 < count
  pub within : number + count ≤ choice_count rows
  pub each : (k : ℕ) (trial : List TrialRow) → k < count → slice_get (choices_of rows) (number + k) ≡ Some trial →
      kept_of trial ≡ None
