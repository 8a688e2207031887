-- The plan of a trial that passes can be written: each entry is required, by requirements of its name with kept
-- metadata.
use Rattle.std.proofs.Common.{◌≡◌, ◌∙◌, refl, sym, ap, ℕ, zero, suc, Bool, true, false, cond, List, [], ◌∷◌, ◌++◌, map}
use Rattle.std.proofs.Common.{inl, inr, ◌⊎◌}
use Rattle.std.specs.Prelude.{◌&&◌, nat_le, slice_get, Some}
use Rattle.std.specs.declared.cmp.Ordering.{Ordering}
use Rattle.std.specs.declared.cmp.Ordering.TheVariants.{Less, Equal, Greater}
use Rattle.std.specs.Ordering.{nat_cmp}
use Rattle.std.specs.Cmp.Lexicographic.{slice_cmp}
use Rattle.std.specs.List.{filter, flat_map, list_any, list_all}
use Rattle.std.specs.Str.{bytes_eq}
use Rattle.std.proofs.lemmas.Bool.{false≢true, and_parts, and_from, or_left, or_right, or_cases}
use Rattle.std.proofs.lemmas.List.Folds.{list_all-append, list_all-map}
use Rattle.std.proofs.lemmas.Slice.Eq.{bytes_eq-Decides}
use Rattle.cnb_toml.specs.declared.meta.Need.{Need}
use Rattle.cnb_toml.specs.Meta.{is_kept}
use Rattle.run_docs.specs.Plan.{has_needs, is_need_of, is_entry, is_plan_doc}
use Rattle.plan_resolve.specs.declared.rows.TrialRow.{TrialRow}
use Rattle.plan_resolve.specs.Plan.{at_places, Kept, names_of, plan_entry, plan_of}
use Rattle.cnb_toml.specs.Ascending.{put_name_by, put_name, ascending}
use Rattle.plan_resolve.specs.Trials.{has_need, required_at, provided_at, is_provided, is_required, holds, largest}
use Rattle.plan_resolve.proofs.LargestLemmas.{largest_closed}
use Rattle.detect_core.proofs.ListLemmas.{all_weaker, all_both, all_flat, all_get, all_places, any_places}
use Rattle.detect_core.proofs.OwnIdLemmas.{bytes_eq-swap}

abbrev pub need_is_kept : Need → Bool
need_is_kept need = is_kept need.meta

abbrev pub row_is_kept : TrialRow → Bool
row_is_kept row = list_all need_is_kept row.needs

abbrev pub trial_of : List Kept → List TrialRow
trial_of ks = map (λ (k : Kept). k.row) ks

-- one of the buildpacks requires the name
abbrev pub is_needed : List Kept → List ℕ → Bool
is_needed ks name = list_any (λ (k : Kept). has_need k.row.needs name) ks

-- ---- every name of what a trial keeps is required

needing : (ks : List Kept) (name : List ℕ) (place : ℕ) → has_need (required_at (trial_of ks) place) name ≡ true
    → (k : Kept) × (slice_get ks place ≡ Some k) × (has_need k.row.needs name ≡ true)
needing [] name place h = absurd (false≢true h)
needing (k ∷ ks) name zero h = (k, refl, h)
needing (k ∷ ks) name (suc place) h = needing ks name place h

provided_there : (ks : List Kept) (place : ℕ) (k : Kept) → slice_get ks place ≡ Some k
    → provided_at (trial_of ks) place ≡ k.row.provides
provided_there [] place k e = absurd cc
provided_there (other ∷ ks) zero k e = let same : other ≡ k = cc in ap (λ (each : Kept). each.row.provides) same
provided_there (other ∷ ks) (suc place) k e = provided_there ks place k e

-- what a closed set provides is required in it
provided_needed : (ks : List Kept) (set : List ℕ) (place : ℕ) (k : Kept) → slice_get ks place ≡ Some k
    → holds (trial_of ks) set place ≡ true → list_all (is_needed (at_places ks set)) k.row.provides ≡ true
provided_needed ks set place k e h =
    let trial = trial_of ks in
    let parts = and_parts (list_all (λ need. is_provided trial set place need.name) (required_at trial place))
    (list_all (is_required trial set place) (provided_at trial place)) h in
    ap (list_all (is_needed (at_places ks set))) (sym (provided_there ks place k e))
    ∙ all_weaker (is_required trial set place) (is_needed (at_places ks set)) (provided_at trial place)
    (λ name r. any_places (λ (other : Kept). has_need other.row.needs name)
    (λ other. nat_le place other && has_need (required_at trial other) name) ks set
    (λ other both. needing ks name other (and_parts (nat_le place other)
    (has_need (required_at trial other) name) both).1) r) parts.1

needs_self : (p : List ℕ → Bool) (needs : List Need)
    → ((name : List ℕ) → has_need needs name ≡ true → p name ≡ true)
    → list_all (λ (need : Need). p need.name) needs ≡ true
needs_self p [] each = refl
needs_self p (need ∷ needs) each = and_from (p need.name) (list_all (λ (n : Need). p n.name) needs)
    (each need.name (or_left (bytes_eq need.name need.name) (has_need needs need.name)
    ((bytes_eq-Decides need.name need.name).1 refl)))
    (needs_self p needs (λ name h. each name (or_right (bytes_eq name need.name) (has_need needs name) h)))

kept_self : (p : List ℕ → Bool) (ks : List Kept) → ((name : List ℕ) → is_needed ks name ≡ true → p name ≡ true)
    → list_all (λ (k : Kept). list_all (λ (need : Need). p need.name) k.row.needs) ks ≡ true
kept_self p [] each = refl
kept_self p (k ∷ ks) each = and_from (list_all (λ (need : Need). p need.name) k.row.needs)
    (list_all (λ (other : Kept). list_all (λ (need : Need). p need.name) other.row.needs) ks)
    (needs_self p k.row.needs (λ name h. each name (or_left (has_need k.row.needs name) (is_needed ks name) h)))
    (kept_self p ks (λ name h. each name (or_right (has_need k.row.needs name) (is_needed ks name) h)))

names_needed : (ks : List Kept) (set : List ℕ) → list_all (holds (trial_of ks) set) set ≡ true
    → list_all (is_needed (at_places ks set)) (flat_map names_of (at_places ks set)) ≡ true
names_needed ks set closed =
    let kept = at_places ks set in
    let needed = is_needed kept in
    all_flat needed names_of kept
    (all_both (λ (k : Kept). list_all needed k.row.provides)
    (λ (k : Kept). list_all (λ (need : Need). needed need.name) k.row.needs)
    (λ (k : Kept). list_all needed (names_of k)) kept
    (λ k a b. list_all-append needed k.row.provides (map (λ need. need.name) k.row.needs)
    ∙ and_from (list_all needed k.row.provides) (list_all needed (map (λ (need : Need). need.name) k.row.needs)) a
    (list_all-map needed (λ (need : Need). need.name) k.row.needs ∙ b))
    (all_places (λ (k : Kept). list_all needed k.row.provides) (holds (trial_of ks) set) ks set
    (λ place k e h. provided_needed ks set place k e h) closed)
    (kept_self needed kept (λ name h. h)))

-- ---- in ascending order too

all_put_by : (p : List ℕ → Bool) (o : Ordering) (name x : List ℕ) (xs later : List (List ℕ)) → p name ≡ true
    → p x ≡ true → list_all p xs ≡ true → list_all p later ≡ true
    → list_all p (put_name_by o name x xs later) ≡ true
all_put_by p Less name x xs later n h a b = and_from (p name) (p x && list_all p xs) n
    (and_from (p x) (list_all p xs) h a)
all_put_by p Equal name x xs later n h a b = and_from (p x) (list_all p xs) h a
all_put_by p Greater name x xs later n h a b = and_from (p x) (list_all p later) h b

all_put : (p : List ℕ → Bool) (name : List ℕ) (xs : List (List ℕ)) → p name ≡ true → list_all p xs ≡ true
    → list_all p (put_name name xs) ≡ true
all_put p name [] n a = and_from (p name) true n refl
all_put p name (x ∷ xs) n a =
    let parts = and_parts (p x) (list_all p xs) a in
    all_put_by p (slice_cmp nat_cmp name x) name x xs (put_name name xs) n parts.0 parts.1 (all_put p name xs n parts.1)

all_ascending : (p : List ℕ → Bool) (names : List (List ℕ)) → list_all p names ≡ true
    → list_all p (ascending names) ≡ true
all_ascending p [] a = refl
all_ascending p (name ∷ names) a =
    let parts = and_parts (p name) (list_all p names) a in
    all_put p name (ascending names) parts.0 (all_ascending p names parts.1)

-- ---- the entry of a name that is required

abbrev named : List ℕ → Need → Bool
named name need = bytes_eq need.name name

has_needs-left : (xs ys : List Need) → has_needs xs ≡ true → has_needs (xs ++ ys) ≡ true
has_needs-left [] ys h = absurd (false≢true h)
has_needs-left (x ∷ xs) ys h = refl

has_needs-right : (xs ys : List Need) → has_needs ys ≡ true → has_needs (xs ++ ys) ≡ true
has_needs-right [] ys h = h
has_needs-right (x ∷ xs) ys h = refl

has_needs_if : (b : Bool) (x : Need) (xs : List Need) → (b ≡ true) ⊎ (has_needs xs ≡ true)
    → has_needs (cond b (x ∷ xs) xs) ≡ true
has_needs_if true x xs h = refl
has_needs_if false x xs (inl e) = absurd (false≢true e)
has_needs_if false x xs (inr e) = e

named_needs : (name : List ℕ) (needs : List Need) → has_need needs name ≡ true
    → has_needs (filter (named name) needs) ≡ true
named_needs name [] h = absurd (false≢true h)
named_needs name (need ∷ needs) h = has_needs_if (named name need) need (filter (named name) needs)
    (elim (or_cases (bytes_eq name need.name) (has_need needs name) h) [
      | inl e ↦ inl (bytes_eq-swap need.name name ∙ e)
      | inr e ↦ inr (named_needs name needs e)
    ])

abbrev needs_of : List ℕ → Kept → List Need
needs_of name k = filter (named name) k.row.needs

entry_needs : (name : List ℕ) (ks : List Kept) → is_needed ks name ≡ true
    → has_needs (flat_map (needs_of name) ks) ≡ true
entry_needs name [] h = absurd (false≢true h)
entry_needs name (k ∷ ks) h = elim (or_cases (has_need k.row.needs name) (is_needed ks name) h) [
  | inl e ↦ has_needs-left (needs_of name k) (flat_map (needs_of name) ks) (named_needs name k.row.needs e)
  | inr e ↦ has_needs-right (needs_of name k) (flat_map (needs_of name) ks) (entry_needs name ks e)
]

named_if : (name : List ℕ) (b : Bool) (need : Need) (needs : List Need) → named name need ≡ b
    → need_is_kept need ≡ true → list_all (is_need_of name) needs ≡ true
    → list_all (is_need_of name) (cond b (need ∷ needs) needs) ≡ true
named_if name true need needs e h a = and_from (is_need_of name need) (list_all (is_need_of name) needs)
    (and_from (named name need) (need_is_kept need) e h) a
named_if name false need needs e h a = a

named_kept : (name : List ℕ) (needs : List Need) → list_all need_is_kept needs ≡ true
    → list_all (is_need_of name) (filter (named name) needs) ≡ true
named_kept name [] a = refl
named_kept name (need ∷ needs) a =
    let parts = and_parts (need_is_kept need) (list_all need_is_kept needs) a in
    named_if name (named name need) need (filter (named name) needs) refl parts.0 (named_kept name needs parts.1)

entry_of_needed : (ks : List Kept) (name : List ℕ) → list_all (λ (k : Kept). row_is_kept k.row) ks ≡ true
    → is_needed ks name ≡ true → is_entry (plan_entry ks name) ≡ true
entry_of_needed ks name kept needed =
    let needs = flat_map (needs_of name) ks in
    and_from (has_needs needs) (list_all (is_need_of name) needs) (entry_needs name ks needed)
    (all_flat (is_need_of name) (needs_of name) ks
    (all_weaker (λ (k : Kept). row_is_kept k.row) (λ (k : Kept). list_all (is_need_of name) (needs_of name k))
    ks (λ k h. named_kept name k.row.needs h) kept))

-- the plan of what the largest closed set keeps can be written
pub plan_written : (ks : List Kept) → list_all (λ (k : Kept). row_is_kept k.row) ks ≡ true
    → is_plan_doc (plan_of (at_places ks (largest (trial_of ks)))) ≡ true
plan_written ks kept =
    let set = largest (trial_of ks) in
    let chosen = at_places ks set in
    let names = ascending (flat_map names_of chosen) in
    let closed = largest_closed (trial_of ks) in
    let each_kept : list_all (λ (k : Kept). row_is_kept k.row) chosen ≡ true =
    all_places (λ (k : Kept). row_is_kept k.row) (holds (trial_of ks) set) ks set
    (λ place k e h. all_get (λ (other : Kept). row_is_kept other.row) ks place k e kept) closed in
    list_all-map is_entry (plan_entry chosen) names
    ∙ all_weaker (is_needed chosen) (λ name. is_entry (plan_entry chosen name)) names
    (λ name needed. entry_of_needed chosen name each_kept needed)
    (all_ascending (is_needed chosen) (flat_map names_of chosen) (names_needed ks set closed))
