-- Taking away the buildpacks that do not hold.
use Rattle.std.specs.Prelude.{ℕ, ◌≡◌, Bool, true, List, [], ◌∷◌, ◌&&◌, ◌||◌, not, nat_lt, reverse, slice_get}
use Rattle.std.specs.List.{filter, list_any, list_all}
use Rattle.plan_resolve.specs.declared.rows.TrialRow.{TrialRow}
use Rattle.plan_resolve.specs.Trials.{has_name, has_need, provided_at, required_at, holds, is_closed, places, is_in}
use Rattle.plan_resolve.specs.Trials.{is_optional_at}

-- each place is greater than those before it
abbrev pub is_ascending : List ℕ → Bool
is_ascending [] = true
is_ascending (place ∷ places) = list_all (nat_lt place) places && is_ascending places

-- some of these places provides the name
abbrev pub is_provided_by : List TrialRow → List ℕ → List ℕ → Bool
is_provided_by trial places name = list_any (λ place. has_name (provided_at trial place) name) places

-- some of these places requires the name
abbrev pub is_required_by : List TrialRow → List ℕ → List ℕ → Bool
is_required_by trial places name = list_any (λ place. has_need (required_at trial place) name) places

-- whether what a buildpack requires is provided before it, and what it provides is required behind it
abbrev pub row_holds : List TrialRow → List ℕ → List ℕ → TrialRow → Bool
row_holds trial before behind row =
    list_all (λ need. is_provided_by trial (reverse before) need.name) row.needs
    && list_all (is_required_by trial behind) row.provides

-- whether a required place of a set does not hold
abbrev pub fails : List TrialRow → List ℕ → ℕ → Bool
fails trial set place = not (is_optional_at (slice_get trial place)) && not (holds trial set place)

-- whether each of a set's places, the required ones at least, holds
abbrev pub required_hold : List TrialRow → List ℕ → Bool
required_hold trial set = list_all (λ place. holds trial set place || is_optional_at (slice_get trial place)) set

-- each place of one set is in another
abbrev pub Within : List ℕ → List ℕ → Type 0
Within set sup = (i : ℕ) → is_in i set ≡ true → is_in i sup ≡ true

-- a set on the way to the largest: a part of the places with every closed set and every required place inside
pub record IsOnTheWay (trial : List TrialRow) (set : List ℕ) : Type 0 where
  pub part : set ≡ filter (λ i. is_in i set) (places trial)
  pub most : (other : List ℕ) → is_closed trial other ≡ true → Within other (places trial) → Within other set
  pub required : list_all (λ place. is_optional_at (slice_get trial place) || is_in place set) (places trial) ≡ true
