-- The handed-in variables without the lifecycle's own, one after another.
use Rattle.std.proofs.Common.{◌≡◌, ◌∙◌, refl, sym, ap, subst, ℕ, zero, suc, ◌+◌, ◌<◌, Bool, true, false, not, List, []}
use Rattle.std.proofs.Common.{◌∷◌, ◌++◌, take, get_or, length, arith, append-nil}
use Rattle.std.specs.Prelude.{codes, nat_eq, slice_get, if◌then◌else◌, Some}
use Rattle.std.specs.declared.cmp.Ordering.{Ordering}
use Rattle.std.specs.declared.cmp.Ordering.TheVariants.{Less, Equal, Greater}
use Rattle.std.specs.Cmp.Lexicographic.{slice_cmp}
use Rattle.std.specs.List.{filter, list_all, starts_with}
use Rattle.std.specs.Option.{option_map}
use Rattle.std.specs.Ordering.{nat_cmp, is_lt, ordering_reverse}
use Rattle.std.proofs.lemmas.Bool.{false≢true, and_parts, and_from}
use Rattle.std.proofs.lemmas.Cmp.{nat_list_cmp_total}
use Rattle.std.proofs.lemmas.List.{take_more}
use Rattle.std.proofs.lemmas.List.Elements.{filter-append}
use Rattle.std.proofs.lemmas.Option.{slice_get-get_or}
use Rattle.cnb_world.specs.declared.env.Variable.{Variable}
use Rattle.cnb_world.specs.Env.{with_value, set_before, is_ascending}
use Rattle.cnb_env.specs.Base.{is_own, base_env}

abbrev is_behind : List ℕ → Variable → Bool
is_behind name v = is_lt (slice_cmp nat_cmp v.name name)

turned : (o : Ordering) → is_lt o ≡ true → ordering_reverse o ≡ Greater
turned Less h = refl
turned Equal h = absurd (false≢true h)
turned Greater h = absurd (false≢true h)

greater : (name : List ℕ) (v : Variable) → is_behind name v ≡ true → slice_cmp nat_cmp name v.name ≡ Greater
greater name v h = nat_list_cmp_total.antisymm name v.name ∙ turned (slice_cmp nat_cmp v.name name) h

-- a name that stands behind all others is added at the end
with_value-last : (env : List Variable) (name value : List ℕ) → list_all (is_behind name) env ≡ true →
    with_value name value env ≡ env ++ record { name = name; value = value } ∷ []
with_value-last [] name value h = refl
with_value-last (v ∷ vs) name value h =
    let parts = and_parts (is_behind name v) (list_all (is_behind name) vs) h in
    ap (λ o. set_before o name value v vs (with_value name value vs)) (greater name v parts.0)
    ∙ ap (λ ws. v ∷ ws) (with_value-last vs name value parts.1)

test_at : (p : Variable → Bool) (env : List Variable) (at : ℕ) (d : Variable) → list_all p env ≡ true
    → at < length env → p (get_or env at d) ≡ true
test_at p [] at d h lt = absurd (omega arith)
test_at p (v ∷ vs) zero d h lt = (and_parts (p v) (list_all p vs) h).0
test_at p (v ∷ vs) (suc at) d h lt = test_at p vs at d (and_parts (p v) (list_all p vs) h).1 (omega arith)

all_behind : (env : List Variable) (at : ℕ) (d : Variable) → is_ascending env ≡ true → at < length env
    → list_all (is_behind (get_or env at d).name) (take at env) ≡ true
all_behind [] at d h lt = absurd (omega arith)
all_behind (v ∷ vs) zero d h lt = refl
all_behind (v ∷ vs) (suc at) d h lt =
    let parts = and_parts (list_all (λ w. is_lt (slice_cmp nat_cmp v.name w.name)) vs) (is_ascending vs) h in
    and_from (is_behind (get_or vs at d).name v) (list_all (is_behind (get_or vs at d).name) (take at vs))
    (test_at (λ w. is_lt (slice_cmp nat_cmp v.name w.name)) vs at d parts.0 (omega arith))
    (all_behind vs at d parts.1 (omega arith))

filter_step : (p q : Variable → Bool) (b : Bool) (v : Variable) (kept : List Variable) → p v ≡ true
    → list_all p kept ≡ true → list_all p (if b then v ∷ kept else kept) ≡ true
filter_step p q true v kept h k = and_from (p v) (list_all p kept) h k
filter_step p q false v kept h k = k

all-filter : (p q : Variable → Bool) (env : List Variable) → list_all p env ≡ true → list_all p (filter q env) ≡ true
all-filter p q [] h = refl
all-filter p q (v ∷ vs) h =
    let parts = and_parts (p v) (list_all p vs) h in
    filter_step p q (q v) v (filter q vs) parts.0 (all-filter p q vs parts.1)

one_more : (env : List Variable) (at : ℕ) (d : Variable) → at < length env →
    base_env (take (at + 1) env) ≡ base_env (take at env) ++
    (if not (is_own (get_or env at d)) then get_or env at d ∷ [] else [])
one_more env at d lt =
    ap base_env (take_more env at d lt) ∙ filter-append (λ v. not (is_own v)) (take at env) (get_or env at d ∷ [])

some_is : {X : Type 0} (a b : X) → Some a ≡ Some b → a ≡ b
some_is a b e = cc

field_at : (field : Variable → List ℕ) (env : List Variable) (at : ℕ) (d : Variable) (found : List ℕ)
    → at < length env → option_map field (slice_get env at) ≡ Some found → field (get_or env at d) ≡ found
field_at field env at d found lt h = some_is (field (get_or env at d)) found
    (ap (option_map field) (sym (slice_get-get_or env at d lt)) ∙ h)

-- one of the lifecycle's own is left out
pub own_variable : (env base : List Variable) (at : ℕ) (name : List ℕ) → at < length env
    → option_map (λ v. v.name) (slice_get env at) ≡ Some name →
    starts_with nat_eq name (codes "CNB_") ≡ true → base ≡ base_env (take at env) → base ≡ base_env (take (at + 1) env)
own_variable env base at name lt named own so_far =
    let d : Variable = record { name = name; value = [] } in
    let is : is_own (get_or env at d) ≡ true = ap (λ n. starts_with nat_eq n (codes "CNB_"))
    (field_at (λ v. v.name) env at d name lt named) ∙ own in
    so_far ∙ (sym (append-nil (base_env (take at env))) ∙ sym
    (one_more env at d lt ∙ ap (λ b. base_env (take at env) ++ (if not b then get_or env at d ∷ [] else []))
    is))

-- any other is added behind those so far
pub other_variable : (env base : List Variable) (at : ℕ) (name value : List ℕ) → is_ascending env ≡ true
    → at < length env →
    option_map (λ v. v.name) (slice_get env at) ≡ Some name
    → option_map (λ v. v.value) (slice_get env at) ≡ Some value →
    starts_with nat_eq name (codes "CNB_") ≡ false → base ≡ base_env (take at env)
    → with_value name value base ≡ base_env (take (at + 1) env)
other_variable env base at name value ascends lt named valued own so_far =
    let d : Variable = record { name = name; value = value } in
    let v = get_or env at d in
    let name_is : v.name ≡ name = field_at (λ w. w.name) env at d name lt named in
    let value_is : v.value ≡ value = field_at (λ w. w.value) env at d value lt valued in
    let is : is_own v ≡ false = ap (λ n. starts_with nat_eq n (codes "CNB_")) name_is ∙ own in
    let behind : list_all (is_behind name) (base_env (take at env)) ≡ true =
    all-filter (is_behind name) (λ w. not (is_own w)) (take at env)
    (subst (λ (n : List ℕ). list_all (is_behind n) (take at env) ≡ true) name_is
    (all_behind env at d ascends lt)) in
    ap (with_value name value) so_far ∙ (with_value-last (base_env (take at env)) name value behind
    ∙ sym (one_more env at d lt ∙ (ap (λ b. base_env (take at env) ++ (if not b then v ∷ [] else [])) is
    ∙ (λ i. base_env (take at env) ++ record { name = name_is i; value = value_is i } ∷ []))))
