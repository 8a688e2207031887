-- What is taken from a plan that can be written can be written.
use Rattle.std.proofs.Common.{◌≡◌, ◌∙◌, refl, ℕ, Bool, true, false, not, List, [], ◌∷◌}
use Rattle.std.specs.Prelude.{if◌then◌else◌}
use Rattle.std.specs.List.{filter, flat_map, list_all}
use Rattle.std.specs.Str.{bytes_eq}
use Rattle.std.proofs.lemmas.Bool.{and_from, and_parts}
use Rattle.std.proofs.lemmas.List.Folds.{list_all-append}
use Rattle.cnb_toml.specs.Meta.{is_kept}
use Rattle.cnb_toml.specs.Need.{is_kept_need}
use Rattle.cnb_toml.specs.declared.meta.Need.{Need}
use Rattle.cnb_toml.specs.declared.names.Key.{Key}
use Rattle.run_docs.specs.BuildpackPlan.{is_bp_plan}
use Rattle.run_docs.specs.Plan.{has_needs, is_entry, is_need_of, is_plan_doc}
use Rattle.run_docs.specs.declared.plan.PlanEntry.{PlanEntry}
use Rattle.cnb_build.specs.Plan.{is_closed, plan_for, provides}

needs_kept : (name : List ℕ) (needs : List Need) → list_all (is_need_of name) needs ≡ true
    → list_all is_kept_need needs ≡ true
needs_kept name [] h = refl
needs_kept name (need ∷ needs) h =
    let parts = and_parts (is_need_of name need) (list_all (is_need_of name) needs) h in
    and_from (is_kept_need need) (list_all is_kept_need needs)
    (and_parts (bytes_eq need.name name) (is_kept need.meta) parts.0).1 (needs_kept name needs parts.1)

pub entry_kept : (entry : PlanEntry) → is_entry entry ≡ true → list_all is_kept_need entry.needs ≡ true
entry_kept entry h = needs_kept entry.name entry.needs
    (and_parts (has_needs entry.needs) (list_all (is_need_of entry.name) entry.needs) h).1

kept_by : (p : PlanEntry → Bool) (own : Bool) (entry : PlanEntry) (entries : List PlanEntry)
    → is_entry entry ≡ true → is_bp_plan (flat_map (λ (e : PlanEntry). e.needs) (filter p entries)) ≡ true
    → is_bp_plan (flat_map (λ (e : PlanEntry). e.needs)
    (if own then entry ∷ filter p entries else filter p entries)) ≡ true
kept_by p true entry entries is rest =
    list_all-append is_kept_need entry.needs (flat_map (λ (e : PlanEntry). e.needs) (filter p entries))
    ∙ and_from _ _ (entry_kept entry is) rest
kept_by p false entry entries is rest = rest

some_kept : (p : PlanEntry → Bool) (plan : List PlanEntry) → is_plan_doc plan ≡ true
    → is_bp_plan (flat_map (λ (e : PlanEntry). e.needs) (filter p plan)) ≡ true
some_kept p [] h = refl
some_kept p (entry ∷ plan) h =
    let parts = and_parts (is_entry entry) (list_all is_entry plan) h in
    kept_by p (p entry) entry plan parts.0 (some_kept p plan parts.1)

-- a Buildpack Plan can be written
pub plan_for_kept : (key : Key) (pending : List PlanEntry) → is_plan_doc pending ≡ true
    → is_bp_plan (plan_for key pending) ≡ true
plan_for_kept key pending h = some_kept (λ entry. provides entry key) pending h

entry_by : (p : PlanEntry → Bool) (own : Bool) (entry : PlanEntry) (entries : List PlanEntry)
    → is_entry entry ≡ true → is_plan_doc (filter p entries) ≡ true
    → is_plan_doc (if own then entry ∷ filter p entries else filter p entries) ≡ true
entry_by p true entry entries is rest = and_from (is_entry entry) (is_plan_doc (filter p entries)) is rest
entry_by p false entry entries is rest = rest

some_entries : (p : PlanEntry → Bool) (plan : List PlanEntry) → is_plan_doc plan ≡ true
    → is_plan_doc (filter p plan) ≡ true
some_entries p [] h = refl
some_entries p (entry ∷ plan) h =
    let parts = and_parts (is_entry entry) (list_all is_entry plan) h in
    entry_by p (p entry) entry plan parts.0 (some_entries p plan parts.1)

-- and so can what is left of a plan
pub some_pending : (key : Key) (unmet : List (List ℕ)) (pending : List PlanEntry) → is_plan_doc pending ≡ true
    → is_plan_doc (filter (λ entry. not (is_closed key unmet entry)) pending) ≡ true
some_pending key unmet pending h = some_entries (λ entry. not (is_closed key unmet entry)) pending h
