-- A plan reads back.
use Rattle.std.specs.Prelude.{◌≡◌, ◌≤◌, ℕ, Bool, true, ◌&&◌, List, [], ◌∷◌, ◌++◌, Option, Some, None, Ok, codes}
use Rattle.std.specs.List.{list_all}
use Rattle.std.specs.Str.{bytes_eq}
use Rattle.std.proofs.Common.{refl, sym, ap, subst}
use Rattle.std.proofs.Math.Nat.{le_refl, le_trans, max-le}
use Rattle.std.proofs.lemmas.Bool.{and_parts, and_from, leb-true, cond-true, false≢true}
use Rattle.std.proofs.lemmas.Slice.Eq.{bytes_eq-Decides}
use Rattle.toml.specs.Data.{members_depth, members_have_valid_dates}
use Rattle.cnb_toml.specs.declared.meta.Need.{Need}
use Rattle.cnb_toml.specs.declared.names.Key.{Key}
use Rattle.cnb_toml.specs.Form.{table_of}
use Rattle.cnb_toml.specs.Keys.{key_in, is_key, key_members}
use Rattle.cnb_toml.specs.Meta.{is_kept}
use Rattle.cnb_toml.specs.Need.{need_members}
use Rattle.cnb_toml.proofs.NeedLaws.{need_dates, need_within}
use Rattle.cnb_toml.specs.Written.{table_data, all_follow}
use Rattle.cnb_toml.specs.WrittenLaws.{all_true, zero_within, suc_within, key_read, list_read, list_dates, list_within}
use Rattle.cnb_toml.specs.WrittenLaws.{rows_read, rows_within}
use Rattle.cnb_toml.proofs.RoundTrip.{kept_read}
use Rattle.run_docs.specs.declared.plan.PlanEntry.{PlanEntry}
use Rattle.run_docs.specs.Plan.{first_name, same_name, need_in, entry_of, entry_in, entries_in, has_needs, is_need_of}
use Rattle.run_docs.specs.Plan.{is_entry, is_plan_doc, has_key_providers, entry_members, plan_members}

-- a requirement that can be read behind others
abbrev pub is_named : Option (List ℕ) → List ℕ → Bool
is_named None name = true
is_named (Some first) name = bytes_eq first name

abbrev pub may_follow : List Need → Need → Bool
may_follow before need = is_named (first_name before) need.name && is_kept need.meta

equal_names : (a b : List ℕ) → bytes_eq a b ≡ true → a ≡ b
equal_names a b h = (bytes_eq-Decides a b).0 h

named-next : (before : List Need) (need : Need) (name : List ℕ) → is_named (first_name before) name ≡ true
    → bytes_eq need.name name ≡ true
    → is_named (first_name (before ++ need ∷ [])) name ≡ true
named-next [] need name named h = h
named-next (first ∷ before) need name named h = named

-- the requirements of one name may stand one behind another
follow_on : (name : List ℕ) (needs before : List Need) → is_named (first_name before) name ≡ true
    → list_all (is_need_of name) needs ≡ true
    → all_follow may_follow before needs ≡ true
follow_on name [] before named h = refl
follow_on name (need ∷ needs) before named h =
    let parts = and_parts (is_need_of name need) (list_all (is_need_of name) needs) h in
    let here = and_parts (bytes_eq need.name name) (is_kept need.meta) parts.0 in
    let own : is_named (first_name before) need.name ≡ true = subst (λ n. is_named (first_name before) n ≡ true)
    (sym (equal_names need.name name here.0)) named in
    and_from _ _ (and_from _ _ own here.1) (follow_on name needs (before ++ need ∷ [])
    (named-next before need name named here.0) parts.1)

same_read : (first : Option (List ℕ)) (name : List ℕ) → is_named first name ≡ true → same_name first name ≡ Ok name
same_read None name h = refl
same_read (Some first) name h = cond-true (bytes_eq first name) _ _ h

pub entry_need_read : (before : List Need) (need : Need) → true ≡ true → may_follow before need ≡ true
    → need_in before (need_members need) ≡ Ok need
entry_need_read before need typed h =
    let parts = and_parts (is_named (first_name before) need.name) (is_kept need.meta) h in
    rw (same_read (first_name before) need.name parts.0, kept_read need.meta parts.1 (codes "metadata"))

pub entry_need_within : (before : List Need) (need : Need) → may_follow before need ≡ true
    → members_depth (need_members need) ≤ 33
entry_need_within before need h = need_within need
    (and_parts (is_named (first_name before) need.name) (is_kept need.meta) h).1

named_entry : (providers : List Key) (name : List ℕ) (needs : List Need) → has_needs needs ≡ true
    → list_all (is_need_of name) needs ≡ true
    → entry_of providers needs ≡ Ok (record { name = name; providers = providers; needs = needs })
named_entry providers name [] some h = absurd (false≢true some)
named_entry providers name (first ∷ needs) some h =
    let here = and_parts (bytes_eq first.name name) (is_kept first.meta)
    (and_parts (is_need_of name first) (list_all (is_need_of name) needs) h).0 in
    ap (λ n. Ok (record { name = n; providers = providers; needs = first ∷ needs }))
    (equal_names first.name name here.0)

pub entry_read : (entry : PlanEntry) → has_key_providers entry ≡ true → is_entry entry ≡ true
    → entry_in (entry_members entry) ≡ Ok entry
entry_read entry typed h =
    let parts = and_parts (has_needs entry.needs) (list_all (is_need_of entry.name) entry.needs) h in
    rw (
      list_read (table_data key_members) (table_of key_in) is_key (λ key. true) key_read entry.providers typed
          (all_true entry.providers),
      rows_read need_members need_in (λ need. true) may_follow entry_need_read entry.needs (all_true entry.needs)
          (follow_on entry.name entry.needs [] refl parts.1),
    )
    (named_entry entry.providers entry.name entry.needs parts.0 parts.1)

pub plan_read : (entries : List PlanEntry) → list_all has_key_providers entries ≡ true
    → is_plan_doc entries ≡ true → entries_in (plan_members entries) ≡ Ok entries
plan_read entries typed h = rw (list_read (table_data entry_members)
    (table_of entry_in) has_key_providers is_entry entry_read entries typed h)

-- it holds no date-time, and nests no deeper than a reader goes
pub entry_dates : (entry : PlanEntry) → members_have_valid_dates (entry_members entry) ≡ true
entry_dates entry =
    and_from _ _ (list_dates (table_data key_members) (λ key. refl) entry.providers)
    (and_from _ _ (list_dates (table_data need_members) need_dates entry.needs) refl)

pub entry_within : (entry : PlanEntry) → is_entry entry ≡ true → members_depth (entry_members entry) ≤ 35
entry_within entry h =
    let needs = (and_parts (has_needs entry.needs) (list_all (is_need_of entry.name) entry.needs) h).1 in
    max-le (le_trans (list_within (table_data key_members) (λ key. true) 1
    (λ key sound. le_refl 1) entry.providers (all_true entry.providers)) (leb-true 2 35 refl))
    (max-le (rows_within need_members need_in (λ need. true) may_follow 33 entry_need_within entry.needs
    (follow_on entry.name entry.needs [] refl needs)) (zero_within 35))

pub plan_dates : (entries : List PlanEntry) → members_have_valid_dates (plan_members entries) ≡ true
plan_dates entries = and_from _ _ (list_dates (table_data entry_members) entry_dates entries) refl

pub plan_within : (entries : List PlanEntry) → is_plan_doc entries ≡ true → members_depth (plan_members entries) ≤ 37
plan_within entries h = max-le (list_within (table_data entry_members) is_entry 36
    (λ entry sound. suc_within _ 35 (entry_within entry sound)) entries h) (zero_within 37)
