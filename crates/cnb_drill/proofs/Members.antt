-- The groups of the drill by lists of digits, what their members' children say, and what the search comes to.
use Rattle.std.specs.Prelude.{ℕ, ◌+◌, ◌*◌, ◌^◌, ◌<◌, ◌≡◌, ◌==◌, nat_lt, false, List, [], ◌∷◌, ◌++◌, codes, length, map}
use Rattle.std.specs.Prelude.{None, Some, if◌then◌else◌}
use Rattle.cnb_toml.specs.declared.names.Key.{Key}
use Rattle.cnb_toml.specs.declared.meta.Meta.TheVariants.{Table}
use Rattle.cnb_toml.specs.declared.meta.Need.{Need}
use Rattle.bp_docs.specs.declared.build_plan.PlanOption.{PlanOption}
use Rattle.order_expand.specs.declared.member.Member.{Member}
use Rattle.run_docs.specs.declared.plan.PlanEntry.{PlanEntry}
use Rattle.plan_resolve.specs.declared.rows.Resolved.{Resolved}
use Rattle.plan_resolve.specs.Trials.{numbers_below}
use Rattle.detect_core.specs.declared.chosen.Verdict.{Verdict}
use Rattle.detect_core.specs.declared.chosen.Verdict.TheVariants.{Pass, Fail, Error}
use Rattle.detect_core.specs.Detection.{FirstTrial, first_trial, asked_keys}
use Rattle.cnb_drill.specs.Buildpacks.{component_key, tail_key}
use Rattle.cnb_drill.specs.Digits.{asked_from, digits_of}
use Rattle.cnb_drill.specs.Order.{drill_catalog, drill_order}

-- the number with these digits
abbrev pub value : List ℕ → ℕ
value [] = 0
value (digit ∷ digits) = digit * 8 ^ length digits + value digits

abbrev pub member_of : Key → Member
member_of key = record { key = key; optional = false; clear_env = false; targets = [] }

abbrev pub digit_member : ℕ → ℕ → Member
digit_member column digit = member_of (component_key column digit)

abbrev pub tail_member : Member
tail_member = member_of tail_key

-- a group: a component for each digit, from a column on, and the last component
abbrev pub members : ℕ → List ℕ → List Member
members column [] = tail_member ∷ []
members column (digit ∷ digits) = digit_member column digit ∷ members (column + 1) digits

-- ---- what the children say

abbrev pub provided : List ℕ → PlanOption
provided name = record { provides = name ∷ []; needs = [] }

abbrev pub need_of : List ℕ → Need
need_of name = record { name = name; meta = Table [] }

abbrev pub x_name : ℕ → List ℕ
x_name column = codes "x" ++ (48 + column) ∷ []

abbrev pub y_name : ℕ → List ℕ
y_name column = codes "y" ++ (48 + column) ∷ []

abbrev pub options_of : ℕ → List PlanOption
options_of column = provided (x_name column) ∷ provided (y_name column) ∷ []

abbrev pub tail_options : List PlanOption
tail_options = record { provides = []; needs = map (λ column. need_of (y_name column)) (numbers_below 4) } ∷ []

-- the child of a digit, where this one is the number's
abbrev pub child_says : ℕ → ℕ → ℕ → Verdict
child_says column wanted digit = if digit == wanted then Pass
    (options_of column) else if nat_lt digit wanted then Fail else Error

-- the children answer by these digits, from a column on
abbrev pub AnswersBy : (Member → Verdict) → ℕ → List ℕ → Type 0
AnswersBy say column [] = say tail_member ≡ Pass tail_options
AnswersBy say column (wanted ∷ digits) = (wanted < 8) ×
    ((digit : ℕ) → digit < 8 → say (digit_member column digit) ≡ child_says column wanted digit)
    × AnswersBy say (column + 1) digits

-- ---- what the search comes to

abbrev pub group_keys : ℕ → ℕ → ℕ → ℕ → List Key
group_keys a b c d = component_key 0 a ∷ component_key 1 b ∷ component_key 2 c ∷ component_key 3 d ∷ tail_key ∷ []

-- each entry is provided by the digit's component, and required by the last component
abbrev pub drill_entry : ℕ → ℕ → PlanEntry
drill_entry column digit = record {
  name = y_name column;
  providers = component_key column digit
      ∷ [];
  needs = need_of (y_name column) ∷ [];
}

abbrev pub drill_resolved : ℕ → ℕ → ℕ → ℕ → Resolved
drill_resolved a b c d = record {
  trial = 15;
  trials = 16;
  kept = 0 ∷ 1 ∷ 2 ∷ 3 ∷ 4 ∷ [];
  plan = drill_entry 0 a ∷ drill_entry 1 b ∷ drill_entry 2 c ∷ drill_entry 3 d ∷ [];
}

-- The first passing trial is number 15 of 16 of the number's group, its plan has four entries, and as many buildpacks
-- are asked as the digits say.
pub record IsDrilled (number : ℕ) (say : Member → Verdict) : Type 0 where
  pub first : (a b c d : ℕ) × (digits_of number ≡ a ∷ b ∷ c ∷ d ∷ [])
      × (first_trial say drill_catalog drill_order ≡ Some (FirstTrial number (drill_resolved a b c d)
      (group_keys a b c d)))
  pub asked : length (asked_keys None say drill_catalog drill_order) ≡ asked_from false (digits_of number)
