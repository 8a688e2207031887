-- How many answered buildpacks were met in their order, one member and one group after another.
use Rattle.std.proofs.Common.{◌≡◌, ℕ, zero, suc, ◌+◌, ◌<◌, ◌≤◌, Bool, true, false, cond, not, List, [], ◌∷◌, ◌++◌}
use Rattle.std.proofs.Common.{length, take, get_or, refl, sym, ◌∙◌, ap, subst, inl, inr, Option, Some, None, arith}
use Rattle.std.proofs.Common.{append_assoc, append-nil}
use Rattle.std.specs.Prelude.{◌&&◌, ◌||◌, ◌==◌, nat_lt, if◌then◌else◌, position}
use Rattle.std.specs.List.{filter, list_any, position_or_len}
use Rattle.std.proofs.lemmas.Bool.{false≢true, cases_Bool, ltb-true, ltb-false, eqb-true, eq-eqb, false_from_ne_true}
use Rattle.std.proofs.lemmas.Bool.{both_ways}
use Rattle.std.proofs.lemmas.List.{map-append, take_all}
use Rattle.std.proofs.lemmas.List.Sums.{fold_more}
use Rattle.cnb_toml.specs.declared.names.Key.{Key}
use Rattle.cnb_toml.specs.Keys.{same_key}
use Rattle.cnb_toml.specs.declared.target.Target.{Target}
use Rattle.order_expand.specs.declared.member.Member.{Member}
use Rattle.detect_core.specs.Answer.{is_fit}
use Rattle.detect_core.specs.Asking.{unmet}
use Rattle.detect_core.specs.Detection.{fitting, members_of}
use Rattle.detect_core.proofs.MemberLemmas.{same_key-true, same_key-same, members-push, keys_of_members}
use Rattle.detect_record.specs.Asked.{IsMet, met_behind, put_key, put_member, put_members}
use Rattle.detect_record.specs.Proving.{asked_in, same_keys}

-- ---- one key

abbrev put_if : Bool → List Key → Key → List Key
put_if b keys key = if b then keys else keys ++ key ∷ []

put_cons : (x : Key) (xs : List Key) (key : Key) → same_key key x ≡ false → put_key (x ∷ xs) key ≡ x ∷ put_key xs key
put_cons x xs key e =
    ap (λ b. put_if (b || list_any (same_key key) xs) (x ∷ xs) key) e
    ∙ elim (list_any (same_key key) xs) as (λ b. put_if b (x ∷ xs) key ≡ x ∷ put_if b xs key)
    [ true ↦ refl | false ↦ refl ]

abbrev first : Key → List Key → ℕ
first key keys = position_or_len (same_key key) keys

first_here : (key x : Key) (xs : List Key) → same_key key x ≡ true → first key (x ∷ xs) ≡ 0
first_here key x xs e = ap (λ b. cond (not b) (1 + first key xs) 0) e

first_later : (key x : Key) (xs : List Key) → same_key key x ≡ false → first key (x ∷ xs) ≡ 1 + first key xs
first_later key x xs e = ap (λ b. cond (not b) (1 + first key xs) 0) e

-- a key that is met before
met_before : (key : Key) (keys : List Key) (met : ℕ) → first key keys < met → first key keys < length keys
    → put_key (take met keys) key ≡ take met keys
met_before key [] met lt within = absurd (omega (arith, within))
met_before key (x ∷ keys) zero lt within = absurd (omega (arith, lt))
met_before key (x ∷ keys) (suc met) lt within = elim (cases_Bool (same_key key x)) [
  | inl e ↦ ap (λ b. put_if (b || list_any (same_key key) (take met keys)) (x ∷ take met keys) key) e
  | inr e ↦ let later = first_later key x keys e in
      put_cons x (take met keys) key e ∙ ap (λ ks. x ∷ ks) (met_before key keys met (omega (arith, lt, later))
      (omega (arith, within, later)))
]

-- the next key
met_next : (key : Key) (keys : List Key) (met : ℕ) → first key keys ≡ met → met < length keys
    → put_key (take met keys) key ≡ take (met + 1) keys
met_next key [] met is within = absurd (omega (arith, within))
met_next key (x ∷ keys) zero is within = elim (cases_Bool (same_key key x)) [
  | inl e ↦ ap (λ k. k ∷ []) (same_key-true key x e)
  | inr e ↦ absurd (omega (arith, is, first_later key x keys e))
]
met_next key (x ∷ keys) (suc met) is within = elim (cases_Bool (same_key key x)) [
  | inl e ↦ absurd (omega (arith, is, first_here key x keys e))
  | inr e ↦ let later = first_later key x keys e in
      let same : suc met + 1 ≡ suc (met + 1) = omega arith in
      put_cons x (take met keys) key e
      ∙ (ap (λ ks. x ∷ ks) (met_next key keys met (omega (arith, is, later)) (omega (arith, within)))
      ∙ ap (λ n. take n (x ∷ keys)) (sym same))
]

-- any other key is none of the first, nor the next
not_met : (key : Key) (keys : List Key) (met : ℕ) → met < first key keys
    → list_any (same_key key) (take (met + 1) keys) ≡ false
not_met key [] met lt = absurd (omega (arith, lt))
not_met key (x ∷ keys) zero lt = elim (cases_Bool (same_key key x)) [
  | inl e ↦ absurd (omega (arith, lt, first_here key x keys e))
  | inr e ↦ ap (λ b. b || false) e
]
not_met key (x ∷ keys) (suc met) lt = elim (cases_Bool (same_key key x)) [
  | inl e ↦ absurd (omega (arith, lt, first_here key x keys e))
  | inr e ↦
      let same : suc met + 1 ≡ suc (met + 1) = omega arith in
      ap (λ n. list_any (same_key key) (take n (x ∷ keys))) same
      ∙ (ap (λ b. b || list_any (same_key key) (take (met + 1) keys)) e
      ∙ not_met key keys met (omega (arith, lt, first_later key x keys e)))
]

none_met : (key : Key) (keys : List Key) (met : ℕ) → length keys ≤ first key keys
    → list_any (same_key key) (take met keys) ≡ false
none_met key [] zero le = refl
none_met key [] (suc met) le = refl
none_met key (x ∷ keys) zero le = refl
none_met key (x ∷ keys) (suc met) le = elim (cases_Bool (same_key key x)) [
  | inl e ↦ absurd (omega (arith, le, first_here key x keys e))
  | inr e ↦ ap (λ b. b || list_any (same_key key) (take met keys)) e
      ∙ none_met key keys met (omega (arith, le, first_later key x keys e))
]

false_left : (a b : Bool) → (a || b) ≡ false → a ≡ false
false_left true b e = e
false_left false b e = refl

false_right : (a b : Bool) → (a || b) ≡ false → b ≡ false
false_right true b e = absurd (false≢true (sym e))
false_right false b e = e

and_false : (a b : Bool) → b ≡ false → (a && b) ≡ false
and_false true b e = e
and_false false b e = refl

unlike : (a b : Key) → same_key a b ≡ false → same_key b a ≡ false
unlike a b e = false_from_ne_true (same_key b a)
    (λ h. both_ways (same_key a b) e (same_key-same a b (sym (same_key-true b a h))))

-- then no answered keys begin with the first ones and that key
differ : (key : Key) (keys : List Key) (met : ℕ) (more : List Key)
    → list_any (same_key key) (take (met + 1) keys) ≡ false →
    same_keys keys (put_key (take met keys) key ++ more) ≡ false
differ key [] zero more none = refl
differ key [] (suc met) more none = refl
differ key (x ∷ keys) zero more none =
    ap (λ b. b && same_keys keys more) (unlike key x (false_left (same_key key x) false none))
differ key (x ∷ keys) (suc met) more none =
    let same : suc met + 1 ≡ suc (met + 1) = omega arith in
    let none_of : (same_key key x || list_any (same_key key) (take (met + 1) keys)) ≡ false =
    ap (λ n. list_any (same_key key) (take n (x ∷ keys))) (sym same) ∙ none in
    let here = false_left (same_key key x) (list_any (same_key key) (take (met + 1) keys)) none_of in
    let later = false_right (same_key key x) (list_any (same_key key) (take (met + 1) keys)) none_of in
    ap (λ ks. same_keys (x ∷ keys) (ks ++ more)) (put_cons x (take met keys) key here)
    ∙ and_false (same_key x x) (same_keys keys (put_key (take met keys) key ++ more)) (differ key keys met more later)

still : (keys asked : List Key) (key : Key) → IsMet keys asked None → IsMet keys (put_key asked key) None
still keys asked key none = elim (list_any (same_key key) asked)
    as (λ b. (more : List Key) → same_keys keys (put_if b asked key ++ more) ≡ false) [
      | true ↦ none
      | false ↦ λ more. ap (same_keys keys) (append_assoc asked (key ∷ []) more) ∙ none (key ∷ more)
    ]

abbrev place_if : Bool → ℕ → Option ℕ
place_if b place = cond b (Some place) None

abbrev behind_if : Bool → Bool → ℕ → Option ℕ
behind_if before here met = if before then Some met else (if here then Some (met + 1) else None)

ne_of : (a b : ℕ) → (a == b) ≡ false → a ≡ b → ⊥
ne_of a b e same = both_ways (a == b) e (ap (λ n. a == n) (sym same) ∙ eq-eqb a a refl)

-- where the key is answered
step_at : (keys : List Key) (key : Key) (met : ℕ) → met ≤ length keys → first key keys < length keys →
    IsMet keys (put_key (take met keys) key) (behind_if (nat_lt (first key keys) met) (first key keys == met) met)
step_at keys key met most within = elim (cases_Bool (nat_lt (first key keys) met)) [
  | inl before ↦ subst (λ b. IsMet keys (put_key (take met keys) key) (behind_if b (first key keys == met) met))
      (sym before)
      (met_before key keys met (ltb-true (first key keys) met before) within, most)
  | inr later ↦ subst (λ b. IsMet keys (put_key (take met keys) key) (behind_if b (first key keys == met) met))
      (sym later)
      (elim (cases_Bool (first key keys == met)) [
        | inl here ↦ let is = eqb-true (first key keys) met here in
            subst (λ b. IsMet keys (put_key (take met keys) key) (behind_if false b met)) (sym here)
            (met_next key keys met is (omega (arith, is, within)), omega (arith, is, within))
        | inr other ↦ subst (λ b. IsMet keys (put_key (take met keys) key) (behind_if false b met)) (sym other)
            (λ more. differ key keys met more (not_met key keys met
            (omega (arith, ltb-false (first key keys) met later, ne_of (first key keys) met other))))
      ])
]

-- one key more
pub met_step : (keys asked : List Key) (key : Key) (met : Option ℕ) → IsMet keys asked met
    → IsMet keys (put_key asked key) (met_behind met (position (same_key key) keys))
met_step keys asked key None is = still keys asked key is
met_step keys asked key (Some met) is =
    subst (λ ks. IsMet keys (put_key ks key) (met_behind (Some met) (position (same_key key) keys))) (sym is.0)
    (elim (cases_Bool (nat_lt (first key keys) (length keys))) [
      | inl within ↦ subst (λ b. IsMet keys (put_key (take met keys) key)
          (met_behind (Some met) (place_if b (first key keys)))) (sym within)
          (step_at keys key met is.1 (ltb-true (first key keys) (length keys) within))
      | inr none ↦ subst (λ b. IsMet keys (put_key (take met keys) key)
          (met_behind (Some met) (place_if b (first key keys)))) (sym none)
          (λ more. differ key keys met more (none_met key keys (met + 1)
          (ltb-false (first key keys) (length keys) none)))
    ])

-- ---- the members of a group

pub put_fit : (target : Option Target) (keys : List Key) (member : Member) → is_fit target member ≡ true
    → put_member target keys member ≡ put_key keys member.key
put_fit target keys member e = ap (λ b. if b then put_key keys member.key else keys) e

pub put_unfit : (target : Option Target) (keys : List Key) (member : Member) → is_fit target member ≡ false
    → put_member target keys member ≡ keys
put_unfit target keys member e = ap (λ b. if b then put_key keys member.key else keys) e

abbrev unmet_if : Bool → List Key → Member → List Member → List Member
unmet_if b keys member members = if b then unmet keys members else member ∷ unmet (keys ++ member.key ∷ []) members

abbrev fit_if : Option Target → Bool → Member → List Member → List Member
fit_if target b member members = if b then member ∷ filter (is_fit target) members else filter (is_fit target) members

put_one : (target : Option Target) (keys : List Key) (member : Member) (members : List Member) (b : Bool) →
    ((ks : List Key) → put_members target ks members ≡ ks ++ keys_of_members
    (unmet ks (filter (is_fit target) members))) →
    put_members target (put_if b keys member.key) members ≡ keys
    ++ keys_of_members (unmet_if b keys member (filter (is_fit target) members))
put_one target keys member members true later = later keys
put_one target keys member members false later =
    later (keys ++ member.key ∷ []) ∙ append_assoc keys (member.key ∷ [])
    (keys_of_members (unmet (keys ++ member.key ∷ []) (filter (is_fit target) members)))

put_are_unmet : (target : Option Target) (keys : List Key) (members : List Member) →
    put_members target keys members ≡ keys ++ keys_of_members (unmet keys (filter (is_fit target) members))
put_are_unmet target keys [] = sym (append-nil keys)
put_are_unmet target keys (member ∷ members) =
    elim (is_fit target member) as (λ b. put_members target (if b then put_key keys member.key else keys) members
    ≡ keys ++ keys_of_members (unmet keys (fit_if target b member members))) [
      | true ↦ put_one target keys member members (list_any (same_key member.key) keys)
          (λ ks. put_are_unmet target ks members)
      | false ↦ put_are_unmet target keys members
    ]

-- what one group more asks
pub asked_push : (target : Option Target) (groups : List (List Member)) (group : List Member) →
    asked_in target (groups ++ group ∷ []) ≡ put_members target (asked_in target groups) group
asked_push target groups group =
    let done = fitting target groups in
    let more = unmet (asked_in target groups) (filter (is_fit target) group) in
    ap (λ gs. keys_of_members (members_of gs)) (map-append (filter (is_fit target)) groups (group ∷ []))
    ∙ (ap keys_of_members (members-push done (filter (is_fit target) group))
    ∙ (map-append (λ (m : Member). m.key) (members_of done) more
    ∙ sym (put_are_unmet target (asked_in target groups) group)))

-- ---- all of them

same_here : (keys : List Key) → same_keys keys keys ≡ true
same_here [] = refl
same_here (x ∷ keys) = ap (λ b. b && same_keys keys keys) (same_key-same x x refl) ∙ same_here keys

shorter : (keys : List Key) (met : ℕ) → met < length keys → same_keys keys (take met keys) ≡ false
shorter [] met lt = absurd (omega (arith, lt))
shorter (x ∷ keys) zero lt = refl
shorter (x ∷ keys) (suc met) lt = and_false (same_key x x) (same_keys keys (take met keys))
    (shorter keys met (omega (arith, lt)))

pub all_met : (keys asked : List Key) (met count : ℕ) → count ≡ length keys → IsMet keys asked (Some met)
    → (met == count) ≡ same_keys keys asked
all_met keys asked met count c is = elim (cases_Bool (met == count)) [
  | inl e ↦ let all = eqb-true met count e ∙ c in
      e ∙ sym (ap (same_keys keys) (is.0 ∙ take_all met keys (omega (arith, all))) ∙ same_here keys)
  | inr e ↦ e ∙ sym (ap (same_keys keys) is.0 ∙ shorter keys met (omega (arith, is.1, c, ne_of met count e)))
]

pub none_all_met : (keys asked : List Key) → IsMet keys asked None → false ≡ same_keys keys asked
none_all_met keys asked is = sym (ap (same_keys keys) (sym (append-nil asked)) ∙ is [])

pub met_start : (keys : List Key) → IsMet keys [] (Some 0)
met_start keys = (refl, omega arith)

-- the members of a group so far
pub met_more : (keys : List Key) (target : Option Target) (group : List Member) (number : ℕ) (member : Member)
    (met : Option ℕ) (asked : List Key) →
    number < length group → member ≡ get_or group number member
    → IsMet keys (put_member target (put_members target asked (take number group)) member) met →
    IsMet keys (put_members target asked (take (number + 1) group)) met
met_more keys target group number member met asked lt at is =
    subst (λ ks. IsMet keys ks met) (sym (fold_more (put_member target) asked group number member lt
    ∙ ap (put_member target (put_members target asked (take number group))) (sym at))) is
