-- One trial: which of its buildpacks hold together (buildpack.md, "Phase #1: Detection", "Process").
use Rattle.std.specs.Prelude.{ℕ, zero, suc, Bool, true, List, [], ◌∷◌, ◌++◌, map, length, ◌&&◌, ◌||◌, nat_le, nat_lt}
use Rattle.std.specs.Prelude.{◌==◌, slice_get, if◌then◌else◌, Option, Some, None}
use Rattle.std.specs.List.{filter, list_any, list_all}
use Rattle.std.specs.Str.{bytes_eq}
use Rattle.cnb_toml.specs.declared.meta.Need.{Need}
use Rattle.plan_resolve.specs.declared.rows.TrialRow.{TrialRow}

-- whether a name is among these
abbrev pub has_name : List (List ℕ) → List ℕ → Bool
has_name names name = list_any (bytes_eq name) names

-- whether one of the requirements has the name
abbrev pub has_need : List Need → List ℕ → Bool
has_need needs name = list_any (λ need. bytes_eq name need.name) needs

-- what the buildpack at a place provides and requires, and nothing past the end
abbrev pub provided_by : Option TrialRow → List (List ℕ)
provided_by (Some row) = row.provides
provided_by None = []

abbrev pub required_by : Option TrialRow → List Need
required_by (Some row) = row.needs
required_by None = []

abbrev pub provided_at : List TrialRow → ℕ → List (List ℕ)
provided_at trial place = provided_by (slice_get trial place)

abbrev pub required_at : List TrialRow → ℕ → List Need
required_at trial place = required_by (slice_get trial place)

-- some place of the set, at or before this one, provides the name
abbrev pub is_provided : List TrialRow → List ℕ → ℕ → List ℕ → Bool
is_provided trial set place name = list_any (λ other. nat_le other place && has_name (provided_at trial other) name) set

-- some place of the set, at or after this one, requires the name
abbrev pub is_required : List TrialRow → List ℕ → ℕ → List ℕ → Bool
is_required trial set place name = list_any (λ other. nat_le place other && has_need (required_at trial other) name) set

-- each name that the buildpack requires is provided in time, and each that it provides is required in time
abbrev pub holds : List TrialRow → List ℕ → ℕ → Bool
holds trial set place =
    list_all (λ need. is_provided trial set place need.name) (required_at trial place)
    && list_all (is_required trial set place) (provided_at trial place)

-- a closed set: each of its buildpacks holds
abbrev pub is_closed : List TrialRow → List ℕ → Bool
is_closed trial set = list_all (holds trial set) set

abbrev pub numbers_below : ℕ → List ℕ
numbers_below zero = []
numbers_below (suc n) = numbers_below n ++ n ∷ []

abbrev pub places : List TrialRow → List ℕ
places trial = numbers_below (length trial)

-- all sets of places of a list, each in the list's order
abbrev pub subsets : List ℕ → List (List ℕ)
subsets [] = [] ∷ []
subsets (x ∷ xs) = map (λ set. x ∷ set) (subsets xs) ++ subsets xs

abbrev pub is_in : ℕ → List ℕ → Bool
is_in place set = list_any (λ other. place == other) set

-- the union of all closed sets, which is the largest one
unfoldable pub largest : List TrialRow → List ℕ
largest trial = filter (λ place. list_any (λ set. is_closed trial set && is_in place set)
    (subsets (places trial))) (places trial)

abbrev pub is_optional_at : Option TrialRow → Bool
is_optional_at (Some row) = row.optional
is_optional_at None = true

-- a trial passes where something remains, and every required buildpack does
abbrev pub is_passing : List TrialRow → List ℕ → Bool
is_passing trial set = nat_lt 0 (length set) && list_all
    (λ place. is_optional_at (slice_get trial place) || is_in place set) (places trial)

abbrev pub kept_if : List TrialRow → List ℕ → Option (List ℕ)
kept_if trial set = if is_passing trial set then Some set else None

-- the places that a trial keeps, where it passes
abbrev pub kept_of : List TrialRow → Option (List ℕ)
kept_of trial = kept_if trial (largest trial)
