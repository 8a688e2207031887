-- Answers that are kept from earlier groups are those that the definitions read.
use Rattle.std.proofs.Common.{◌≡◌, ◌∙◌, refl, sym, ap, subst, inl, inr, ℕ, ◌+◌, Bool, true, false, cond, List, [], ◌∷◌}
use Rattle.std.proofs.Common.{◌++◌, map, length, arith}
use Rattle.std.specs.Prelude.{◌&&◌, ◌||◌, if◌then◌else◌, Option, Some, None}
use Rattle.std.specs.List.{filter, list_any, list_all, filter_map, cons_option}
use Rattle.std.proofs.lemmas.Bool.{false≢true, or_cases}
use Rattle.cnb_world.specs.Runs.{Ran}
use Rattle.cnb_toml.specs.declared.target.Target.{Target}
use Rattle.cnb_toml.specs.declared.names.Key.{Key}
use Rattle.cnb_toml.specs.Keys.{same_key}
use Rattle.order_expand.specs.declared.member.Member.{Member}
use Rattle.detect_core.specs.declared.chosen.Verdict.{Verdict}
use Rattle.detect_core.specs.Answer.{is_pass, is_fit, where_fit, alive_row, alive_of, key_of, recorded, answer_of}
use Rattle.detect_core.specs.Answer.{answer_or_error, build_plan, says}
use Rattle.detect_core.specs.Detection.{Ending, ending_of_rows, ending_at, first_ending, fitting, reached, members_of}
use Rattle.detect_core.specs.Kept.{row_of, kept_for, verdict_or_error, verdict_for, kept_says}
use Rattle.detect_core.proofs.FittingLemmas.{any_put, any_put_here, flat-fitting}
use Rattle.detect_core.proofs.MemberLemmas.{same_key-same, any-met, keys_of_members, flat}

-- what is kept of some children is what they recorded
kept-recorded : (ran : List Ran) (key : Key) → verdict_for (map row_of ran) key
    ≡ answer_or_error build_plan (recorded ran key)
kept-recorded [] key = refl
kept-recorded (r ∷ ran) key =
    elim (same_key key (key_of r)) as (λ b. verdict_or_error
    (cond b (Some (answer_of build_plan r.probed)) (kept_for (map row_of ran) key))
    ≡ answer_or_error build_plan (if b then Some r.probed else recorded ran key)) [
      | true ↦ refl
      | false ↦ kept-recorded ran key
    ]

pub kept_says-says : (target : Option Target) (ran : List Ran)
    → kept_says target (map row_of ran) ≡ says target build_plan ran
kept_says-says target ran = λ i member. where_fit (is_fit target member) (kept-recorded ran member.key i)

-- two ways of answering that agree on some members
abbrev pub AgreeOn : (Member → Verdict) → (Member → Verdict) → List Member → Type 0
AgreeOn s t [] = Unit {0}
AgreeOn s t (m ∷ ms) = (s m ≡ t m) × AgreeOn s t ms

agree_front : (s t : Member → Verdict) (xs ys : List Member) → AgreeOn s t (xs ++ ys) → AgreeOn s t xs
agree_front s t [] ys a = tt
agree_front s t (x ∷ xs) ys a = (a.0, agree_front s t xs ys a.1)

agree_behind : (s t : Member → Verdict) (xs ys : List Member) → AgreeOn s t (xs ++ ys) → AgreeOn s t ys
agree_behind s t [] ys a = a
agree_behind s t (x ∷ xs) ys a = agree_behind s t xs ys a.1

all_same : (f : Member → Verdict → Bool) (s t : Member → Verdict) (group : List Member) → AgreeOn s t group
    → list_all (λ m. f m (s m)) group ≡ list_all (λ m. f m (t m)) group
all_same f s t [] a = refl
all_same f s t (m ∷ ms) a = λ i. f m (a.0 i) && all_same f s t ms a.1 i

pub any_same : (f : Member → Verdict → Bool) (s t : Member → Verdict) (group : List Member) → AgreeOn s t group
    → list_any (λ m. f m (s m)) group ≡ list_any (λ m. f m (t m)) group
any_same f s t [] a = refl
any_same f s t (m ∷ ms) a = λ i. f m (a.0 i) || any_same f s t ms a.1 i

rows_same : (s t : Member → Verdict) (group : List Member) → AgreeOn s t group
    → filter_map (λ m. alive_row m (s m)) group ≡ filter_map (λ m. alive_row m (t m)) group
rows_same s t [] a = refl
rows_same s t (m ∷ ms) a = λ i. cons_option (alive_row m (a.0 i)) (rows_same s t ms a.1 i)

alive_same : (s t : Member → Verdict) (group : List Member) → AgreeOn s t group → alive_of s group ≡ alive_of t group
alive_same s t group a =
    let all = all_same (λ m v. m.optional || is_pass v) s t group a in
    let any = any_same (λ m v. is_pass v) s t group a in
    let rows = rows_same s t group a in
    λ i. if all i && any i then Some (rows i) else None

ending_same : (s t : Member → Verdict) (place : ℕ) (group : List Member) → AgreeOn s t group
    → ending_at s place group ≡ ending_at t place group
ending_same s t place group a = ap (ending_of_rows place) (alive_same s t group a)

pub first_ending_same : (s t : Member → Verdict) (place : ℕ) (groups : List (List Member))
    → AgreeOn s t (flat groups) → first_ending s place groups ≡ first_ending t place groups
first_ending_same s t place [] a = refl
first_ending_same s t place (group ∷ groups) a =
    let here = ending_same s t place group (agree_front s t group (flat groups) a) in
    let later = first_ending_same s t (place + 1) groups (agree_behind s t group (flat groups) a) in
    λ i. elim (here i) [ Some ending ↦ Some ending | None ↦ later i ]

-- an answer that is recorded stays
recorded_kept : (known more : List Ran) (key : Key) → list_any (same_key key) (map key_of known) ≡ true
    → recorded (known ++ more) key ≡ recorded known key
recorded_kept [] more key h = absurd (false≢true h)
recorded_kept (ran ∷ rans) more key h = elim (or_cases (same_key key (key_of ran))
    (list_any (same_key key) (map key_of rans)) h) [
      | inl e ↦ subst (λ (b : Bool). cond b (Some ran.probed) (recorded (rans ++ more) key)
          ≡ cond b (Some ran.probed) (recorded rans key)) (sym e) refl
      | inr e ↦ ap (λ o. cond (same_key key (key_of ran)) (Some ran.probed) o) (recorded_kept rans more key e)
    ]

fit_or_fail : (b : Bool) (v w : Verdict) → (b ≡ true → v ≡ w) → where_fit b v ≡ where_fit b w
fit_or_fail true v w h = h refl
fit_or_fail false v w h = refl

agree_within : (target : Option Target) (known more : List Ran) (members : List Member) →
    ((key : Key) → list_any (λ m. same_key key m.key) (filter (is_fit target) members) ≡ true
    → list_any (same_key key) (map key_of known) ≡ true) →
    AgreeOn (says target build_plan (known ++ more)) (says target build_plan known) members
agree_within target known more [] within = tt
agree_within target known more (m ∷ ms) within =
    let kept = filter (is_fit target) ms in (
      fit_or_fail (is_fit target m) (answer_or_error build_plan (recorded (known ++ more) m.key))
          (answer_or_error build_plan (recorded known m.key))
          (λ fit. ap (answer_or_error build_plan) (recorded_kept known more m.key
          (within m.key (any_put_here (λ n. same_key m.key n.key) (is_fit target m) m kept fit
          (same_key-same m.key m.key refl))))),
      agree_within target known more ms (λ key h. within key
          (any_put (λ n. same_key key n.key) (is_fit target m) m kept h)),
    )

-- later answers change nothing for the groups whose members for the target were all asked
pub agree_kept : (target : Option Target) (known more : List Ran) (groups : List (List Member))
    → map key_of known ≡ keys_of_members (members_of (fitting target groups)) →
    AgreeOn (says target build_plan (known ++ more)) (says target build_plan known) (flat groups)
agree_kept target known more groups keys =
    agree_within target known more (flat groups)
    (λ key h. subst (λ (ks : List Key). list_any (same_key key) ks ≡ true) (sym keys)
    (any-met key (flat (fitting target groups)) ∙ (ap (list_any (λ m. same_key key m.key))
    (flat-fitting target groups) ∙ h)))

-- the end of a search over groups in two parts
abbrev pub or_later : Option Ending → Option Ending → Option Ending
or_later ending later = elim ending [ Some e ↦ Some e | None ↦ later ]

abbrev pub or_reached : Option Ending → List (List Member) → List (List Member)
or_reached ending later = elim ending [ Some e ↦ [] | None ↦ later ]

ending_step : (o x y z : Option Ending) → or_later o x ≡ None → (x ≡ None → y ≡ z) → or_later o y ≡ z
ending_step (Some e) x y z h f = cc
ending_step None x y z h f = f h

pub first_ending-append : (s : Member → Verdict) (place : ℕ) (done groups : List (List Member))
    → first_ending s place done ≡ None →
    first_ending s place (done ++ groups) ≡ first_ending s (place + length done) groups
first_ending-append s place [] groups none = ap (λ p. first_ending s p groups) (omega arith)
first_ending-append s place (group ∷ done) groups none =
    ending_step (ending_at s place group) (first_ending s (place + 1) done)
    (first_ending s (place + 1) (done ++ groups)) (first_ending s (place + length (group ∷ done)) groups) none
    (λ h. first_ending-append s (place + 1) done groups h ∙ ap (λ p. first_ending s p groups) (omega arith))

reached_step : (o x : Option Ending) (y z : List (List Member)) → or_later o x ≡ None → (x ≡ None → y ≡ z)
    → or_reached o y ≡ z
reached_step (Some e) x y z h f = cc
reached_step None x y z h f = f h

pub reached-append : (s : Member → Verdict) (place : ℕ) (done groups : List (List Member))
    → first_ending s place done ≡ None →
    reached s place (done ++ groups) ≡ done ++ reached s (place + length done) groups
reached-append s place [] groups none = ap (λ p. reached s p groups) (omega arith)
reached-append s place (group ∷ done) groups none = ap (λ gs. group ∷ gs)
    (reached_step (ending_at s place group) (first_ending s (place + 1) done)
    (reached s (place + 1) (done ++ groups)) (done ++ reached s (place + length (group ∷ done)) groups) none
    (λ h. reached-append s (place + 1) done groups h ∙ ap (λ p. done ++ reached s p groups) (omega arith)))
