-- The Buildpack Plan of a buildpack, and what its build leaves pending of the plan (buildpack.md, "Phase #3: Build").
use Rattle.std.specs.Prelude.{ℕ, ◌&&◌, not, Bool, List, Option, Some, None, Result, Ok, Err}
use Rattle.std.specs.List.{filter, find, flat_map, list_any}
use Rattle.std.specs.Str.{bytes_eq}
use Rattle.cnb_toml.specs.Keys.{same_key}
use Rattle.cnb_toml.specs.declared.meta.Need.{Need}
use Rattle.cnb_toml.specs.declared.names.Key.{Key}
use Rattle.plan_resolve.specs.Trials.{has_name}
use Rattle.run_docs.specs.declared.plan.PlanEntry.{PlanEntry}
use Rattle.cnb_build.specs.declared.fault.BuildFault.{BuildFault}
use Rattle.cnb_build.specs.declared.fault.BuildFault.TheVariants.{UnknownUnmet}

abbrev pub provides : PlanEntry → Key → Bool
provides entry key = list_any (same_key key) entry.providers

-- the Buildpack Plan of a buildpack: all that is required of the pending entries that it provides
abbrev pub plan_for : Key → List PlanEntry → List Need
plan_for key pending = flat_map (λ entry. entry.needs) (filter (λ entry. provides entry key) pending)

-- whether such an entry has this name
abbrev pub is_in_plan : Key → List PlanEntry → List ℕ → Bool
is_in_plan key pending name = list_any (λ entry. provides entry key && bytes_eq name entry.name) pending

-- the first name that a buildpack left unmet though its plan doesn't have it
abbrev pub unknown_among : Key → List PlanEntry → List (List ℕ) → Option (List ℕ)
unknown_among key pending unmet = find (λ name. not (is_in_plan key pending name)) unmet

-- an entry is closed by the build of a provider that doesn't leave it unmet
abbrev pub is_closed : Key → List (List ℕ) → PlanEntry → Bool
is_closed key unmet entry = provides entry key && not (has_name unmet entry.name)

abbrev pub pending_unless : Key → Option (List ℕ) → List PlanEntry → Result (List PlanEntry) BuildFault
pending_unless key (Some name) pending = Err (UnknownUnmet key.id name)
pending_unless key None pending = Ok pending

-- the entries that are pending behind the build of a buildpack which left these names unmet
abbrev pub pending_after : Key → List (List ℕ) → List PlanEntry → Result (List PlanEntry) BuildFault
pending_after key unmet pending =
    pending_unless key (unknown_among key pending unmet) (filter (λ entry. not (is_closed key unmet entry)) pending)
