-- What the definitions say of small trials. Names here are one letter, and a buildpack has the version `1`.
use Rattle.std.specs.Prelude.{◌≡◌, refl, ℕ, true, false, List, [], ◌∷◌, map, Some, None}
use Rattle.cnb_toml.specs.declared.names.Key.{Key}
use Rattle.cnb_toml.specs.declared.meta.Meta.TheVariants.{Table}
use Rattle.cnb_toml.specs.declared.meta.Need.{Need}
use Rattle.bp_docs.specs.declared.build_plan.PlanOption.{PlanOption}
use Rattle.plan_resolve.specs.declared.rows.TrialRow.{TrialRow}
use Rattle.plan_resolve.specs.Trials.{largest, kept_of}
use Rattle.plan_resolve.specs.Resolution.{resolution, Passes}

abbrev pub name : ℕ → List ℕ
name letter = letter ∷ []

abbrev pub need : ℕ → Need
need letter = record { name = name letter; meta = Table [] }

abbrev pub option : List ℕ → List ℕ → PlanOption
option provides needs = record { provides = map name provides; needs = map need needs }

abbrev pub row : List ℕ → List ℕ → TrialRow
row provides needs = record { optional = false; provides = map name provides; needs = map need needs }

abbrev pub optional_row : List ℕ → List ℕ → TrialRow
optional_row provides needs = record { optional = true; provides = map name provides; needs = map need needs }

abbrev pub key : ℕ → Key
key letter = record { id = name letter; version = 49 ∷ [] }

-- three optional buildpacks in a chain of names whose last name nobody requires: all three go, the last one first
pub excluding_goes_on_until_nothing_changes :
    kept_of (optional_row (120 ∷ []) [] ∷ optional_row (121 ∷ []) (120 ∷ []) ∷ optional_row (122 ∷ []) (121 ∷ [])
    ∷ row [] [] ∷ []) ≡ Some (3 ∷ [])
unfolding largest
excluding_goes_on_until_nothing_changes = refl

-- A? provides x, B? requires w: nothing is left
pub a_trial_with_nothing_left_fails : kept_of (optional_row (120 ∷ []) [] ∷ optional_row [] (119 ∷ []) ∷ []) ≡ None
unfolding largest
a_trial_with_nothing_left_fails = refl

-- a requires p, and b behind it provides p
pub a_provider_behind_its_requirer_is_too_late : kept_of (row [] (112 ∷ []) ∷ row (112 ∷ []) [] ∷ []) ≡ None
unfolding largest
a_provider_behind_its_requirer_is_too_late = refl

-- a provides and requires p
pub a_buildpack_may_require_what_it_provides : kept_of (row (112 ∷ []) (112 ∷ []) ∷ []) ≡ Some (0 ∷ [])
unfolding largest
a_buildpack_may_require_what_it_provides = refl

-- a? provides p and q, b requires p: nobody requires q, so a goes with all its names
pub an_excluded_buildpack_takes_all_its_names : kept_of
    (optional_row (112 ∷ 113 ∷ []) [] ∷ row [] (112 ∷ []) ∷ []) ≡ None
unfolding largest
an_excluded_buildpack_takes_all_its_names = refl

-- two buildpacks with two alternatives each, of which the second of one and the first of the other agree: trial 2 of
-- four
pub the_first_passing_trial :
    resolution (record { key = key 97; optional = false; options = option (112 ∷ []) [] ∷ option (113 ∷ []) [] ∷ [] } ∷
    record { key = key 98; optional = false; options = option [] (113 ∷ []) ∷ option [] (115 ∷ []) ∷ [] } ∷ [])
    ≡ Passes record {
      trial = 2;
      trials = 4;
      kept = 0 ∷ 1 ∷ [];
      plan = record
          { name = name 113; providers = key 97 ∷ []; needs = need 113 ∷ [] } ∷ [];
    }
unfolding resolution largest
the_first_passing_trial = refl
