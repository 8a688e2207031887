-- The answers of the buildpacks that have to be asked decide the choice.
use Rattle.std.proofs.Common.{◌≡◌, refl, ap, subst, ℕ, ◌+◌, Bool, true, false, cond, List, [], ◌∷◌, ◌++◌}
use Rattle.std.specs.Prelude.{◌&&◌, ◌||◌, if◌then◌else◌, Option, Some, None}
use Rattle.std.specs.List.{AllByRecursion, filter, list_any, list_all, filter_map, cons_option}
use Rattle.cnb_toml.specs.declared.target.Target.{Target}
use Rattle.order_expand.specs.declared.member.Member.{Member}
use Rattle.detect_core.specs.declared.chosen.Verdict.{Verdict}
use Rattle.detect_core.specs.Answer.{is_fit, is_pass, alive_row, alive_of, for_target, where_fit}
use Rattle.detect_core.specs.Detection.{Ending, ending_of_rows, ending_at, first_ending, fitting, reached}
use Rattle.detect_core.proofs.FittingLemmas.{flat-fitting}
use Rattle.detect_core.proofs.MemberLemmas.{flat}

abbrev Agree : (Member → Verdict) → (Member → Verdict) → List Member → Type 0
Agree s t members = AllByRecursion (λ member. s member ≡ t member) members

front : (s t : Member → Verdict) (xs ys : List Member) → Agree s t (xs ++ ys) → Agree s t xs
front s t [] ys a = tt
front s t (x ∷ xs) ys a = (a.0, front s t xs ys a.1)

behind : (s t : Member → Verdict) (xs ys : List Member) → Agree s t (xs ++ ys) → Agree s t ys
behind s t [] ys a = a
behind s t (x ∷ xs) ys a = behind s t xs ys a.1

all_same : (f : Member → Verdict → Bool) (s t : Member → Verdict) (group : List Member) → Agree s t group
    → list_all (λ m. f m (s m)) group ≡ list_all (λ m. f m (t m)) group
all_same f s t [] a = refl
all_same f s t (m ∷ ms) a = λ i. f m (a.0 i) && all_same f s t ms a.1 i

any_same : (f : Member → Verdict → Bool) (s t : Member → Verdict) (group : List Member) → Agree s t group
    → list_any (λ m. f m (s m)) group ≡ list_any (λ m. f m (t m)) group
any_same f s t [] a = refl
any_same f s t (m ∷ ms) a = λ i. f m (a.0 i) || any_same f s t ms a.1 i

rows_same : (s t : Member → Verdict) (group : List Member) → Agree s t group
    → filter_map (λ m. alive_row m (s m)) group ≡ filter_map (λ m. alive_row m (t m)) group
rows_same s t [] a = refl
rows_same s t (m ∷ ms) a = λ i. cons_option (alive_row m (a.0 i)) (rows_same s t ms a.1 i)

alive_same : (s t : Member → Verdict) (group : List Member) → Agree s t group → alive_of s group ≡ alive_of t group
alive_same s t group a =
    let all = all_same (λ m v. m.optional || is_pass v) s t group a in
    let any = any_same (λ m v. is_pass v) s t group a in
    let rows = rows_same s t group a in
    λ i. if all i && any i then Some (rows i) else None

ending_same : (s t : Member → Verdict) (place : ℕ) (group : List Member) → Agree s t group
    → ending_at s place group ≡ ending_at t place group
ending_same s t place group a = ap (ending_of_rows place) (alive_same s t group a)

abbrev or_later : Option Ending → Option Ending → Option Ending
or_later ending later = elim ending [ Some e ↦ Some e | None ↦ later ]

abbrev or_reached : Option Ending → List (List Member) → List (List Member)
or_reached ending later = elim ending [ Some e ↦ [] | None ↦ later ]

abbrev Same : (Member → Verdict) → (Member → Verdict) → ℕ → List (List Member) → Type 0
Same s t place groups = (first_ending t place groups ≡ first_ending s place groups)
    × (reached t place groups ≡ reached s place groups)

abbrev Here : (Member → Verdict) → (Member → Verdict) → ℕ → List Member → List (List Member) → Option Ending
    → Option Ending → Type 0
Here s t place group groups o p =
    (or_later p (first_ending t (place + 1) groups) ≡ or_later o (first_ending s (place + 1) groups))
    × ((group ∷ or_reached p (reached t (place + 1) groups)) ≡ (group ∷ or_reached o (reached s (place + 1) groups)))

same_behind : (s t : Member → Verdict) (place : ℕ) (group : List Member) (groups : List (List Member))
    (o : Option Ending)
    → Agree s t (flat (or_reached o (reached s (place + 1) groups)))
    → (Agree s t (flat (reached s (place + 1) groups)) → Same s t (place + 1) groups)
    → Here s t place group groups o o
same_behind s t place group groups (Some e) a rec = (refl, refl)
same_behind s t place group groups None a rec = let r = rec a in (r.0, ap (λ gs. group ∷ gs) r.1)

same_search : (s t : Member → Verdict) (place : ℕ) (groups : List (List Member))
    → Agree s t (flat (reached s place groups)) → Same s t place groups
same_search s t place [] a = (refl, refl)
same_search s t place (group ∷ groups) a =
    let later = flat (or_reached (ending_at s place group) (reached s (place + 1) groups)) in
    let here = ending_same s t place group (front s t group later a) in
    subst (λ p. Here s t place group groups (ending_at s place group) p) here
    (same_behind s t place group groups (ending_at s place group) (behind s t group later a)
    (same_search s t (place + 1) groups))

fit_step : {P : Type 0} (s t : Member → Verdict) (b : Bool) (m : Member) (kept : List Member)
    → (Agree s t kept → P) → Agree s t (cond b (m ∷ kept) kept) → (where_fit b (s m) ≡ where_fit b (t m)) × P
fit_step s t true m kept later a = (a.0, later a.1)
fit_step s t false m kept later a = (refl, later a)

agree_fit : (target : Option Target) (s t : Member → Verdict) (members : List Member)
    → Agree s t (filter (is_fit target) members) → Agree (for_target target s) (for_target target t) members
agree_fit target s t [] a = tt
agree_fit target s t (m ∷ ms) a = fit_step s t (is_fit target m) m (filter (is_fit target) ms)
    (agree_fit target s t ms) a

-- members that are not for the target fail by all answers
pub same_answers : (target : Option Target) (s t : Member → Verdict) (place : ℕ) (groups : List (List Member)) →
    Agree s t (flat (fitting target (reached (for_target target s) place groups)))
    → Same (for_target target s) (for_target target t) place groups
same_answers target s t place groups a =
    same_search (for_target target s) (for_target target t) place groups
    (agree_fit target s t (flat (reached (for_target target s) place groups))
    (subst (Agree s t) (flat-fitting target (reached (for_target target s) place groups)) a))
