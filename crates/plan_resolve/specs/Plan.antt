-- The plan of a passing trial (buildpack.md, "Phase #1: Detection", "Process"; platform.md, "plan.toml (TOML)").
use Rattle.std.specs.Prelude.{ℕ, List, [], ◌∷◌, ◌++◌, map, slice_get}
use Rattle.std.specs.List.{filter, flat_map, filter_map}
use Rattle.std.specs.Str.{bytes_eq}
use Rattle.cnb_toml.specs.Ascending.{ascending}
use Rattle.cnb_toml.specs.declared.names.Key.{Key}
use Rattle.run_docs.specs.declared.plan.PlanEntry.{PlanEntry}
use Rattle.plan_resolve.specs.declared.rows.TrialRow.{TrialRow}
use Rattle.plan_resolve.specs.declared.rows.AliveRow.{AliveRow}
use Rattle.plan_resolve.specs.Trials.{has_name}

-- the elements at these places
abbrev pub at_places : {X : Type 0} → List X → List ℕ → List X
at_places xs set = filter_map (λ place. slice_get xs place) set

-- a buildpack that a trial keeps, with what it provides and requires there
pub record Kept : Type 0 where
  pub key : Key
  pub row : TrialRow

abbrev pub names_of : Kept → List (List ℕ)
names_of kept = kept.row.provides ++ map (λ need. need.name) kept.row.needs

-- the providers of a name in group order, each once, and all requirements of it in group order
abbrev pub plan_entry : List Kept → List ℕ → PlanEntry
plan_entry kept name = record {
  name = name;
  providers = map (λ k. k.key) (filter (λ k. has_name k.row.provides name) kept);
  needs = flat_map (λ k. filter (λ need. bytes_eq need.name name) k.row.needs) kept;
}

-- an entry for each name that is provided or required, ascending
abbrev pub plan_of : List Kept → List PlanEntry
plan_of kept = map (plan_entry kept) (ascending (flat_map names_of kept))

abbrev pub with_keys : List AliveRow → List TrialRow → List Kept
with_keys [] trial = []
with_keys (alive ∷ rows) [] = []
with_keys (alive ∷ rows) (row ∷ trial) = record { key = alive.key; row = row } ∷ with_keys rows trial
