-- Dropping later elements that are the same as an earlier one.
use Rattle.std.proofs.Common.{◌≡◌, ℕ, ◌+◌, ◌<◌, Bool, true, false, cond, not, ◌||◌, List, [], ◌∷◌, ◌++◌, map, refl, sym}
use Rattle.std.proofs.Common.{◌∙◌, ap, inl, inr, length, take, get_or, append-nil}
use Rattle.std.specs.List.{filter, list_any}
use Rattle.std.proofs.lemmas.Bool.{cases_Bool, false_from_ne_true, not_from_false, both_ways}
use Rattle.std.proofs.lemmas.List.{map-append}
use Rattle.std.proofs.lemmas.List.Elements.{filter-append}
use Rattle.std.proofs.lemmas.Map.Views.{any-filter_same}
use Rattle.std.proofs.lemmas.Slice.Eq.{bytes_eq-Decides}
use Rattle.order_expand.specs.declared.begun.MemberComponent.{MemberComponent}
use Rattle.order_expand.specs.declared.member.Member.{Member}
use Rattle.order_expand.specs.MemberComponent.{member_of}
use Rattle.order_expand.specs.Groups.{distinct, same_id}
use Rattle.order_expand.proofs.Walks.{take_next}

-- what is the same as something is the same as whatever that is the same as
abbrev IsTransitive : {X : Type 0} → (X → X → Bool) → Type 0
IsTransitive {X} same = (x y z : X) → same x y ≡ true → same y z ≡ true → same x z ≡ true

push_step : {X : Type 0} (p : X → Bool) (x y : X) (kept : List X) (b : Bool) (s : Bool) → p y ≡ not s
    → x ∷ filter p (cond b kept (kept ++ y ∷ [])) ≡ cond (s || b) (x ∷ filter p kept)
    (x ∷ filter p kept ++ y ∷ [])
push_step p x y kept true true e = refl
push_step p x y kept true false e = refl
push_step p x y kept false true e = ap (λ ys. x ∷ ys)
    (filter-append p kept (y ∷ []) ∙ (ap (λ b. filter p kept ++ cond b (y ∷ []) []) e
    ∙ append-nil (filter p kept)))
push_step p x y kept false false e = ap (λ ys. x ∷ ys)
    (filter-append p kept (y ∷ []) ∙ ap (λ b. filter p kept ++ cond b (y ∷ []) []) e)

-- one element more is kept unless one that is kept is the same
pub distinct_push : {X : Type 0} (same : X → X → Bool) → IsTransitive same → (xs : List X) (y : X) →
    distinct same (xs ++ y ∷ []) ≡ cond (list_any (λ x. same x y) (distinct same xs)) (distinct same xs)
    (distinct same xs ++ y ∷ [])
distinct_push same trans [] y = refl
distinct_push {X} same trans (x ∷ xs) y =
    let kept = distinct same xs in
    let p : X → Bool = λ z. not (same x z) in
    let met : X → Bool = λ z. same z y in
    ap (λ ys. x ∷ filter p ys) (distinct_push same trans xs y)
    ∙ (push_step p x y kept (list_any met kept) (same x y) refl
    ∙ elim (cases_Bool (same x y)) as (λ _. cond (same x y || list_any met kept) (x ∷ filter p kept)
    (x ∷ filter p kept ++ y ∷ []) ≡ cond (same x y || list_any met (filter p kept)) (x ∷ filter p kept)
    (x ∷ filter p kept ++ y ∷ [])) [
      | inl e ↦ (λ i. cond (e i || list_any met kept) (x ∷ filter p kept) (x ∷ filter p kept ++ y ∷ []))
          ∙ sym (λ i. cond (e i || list_any met (filter p kept)) (x ∷ filter p kept)
          (x ∷ filter p kept ++ y ∷ []))
      | inr e ↦ ap (λ b. cond (same x y || b) (x ∷ filter p kept) (x ∷ filter p kept ++ y ∷ []))
          (sym (any-filter_same met p true (λ z h. not_from_false (same x z)
          (false_from_ne_true (same x z) (λ s. both_ways (same x y) e (trans x z y s h)))) kept))
    ])

pub same_id-trans : IsTransitive same_id
same_id-trans a b c p q =
    (bytes_eq-Decides a.key.id c.key.id).1 ((bytes_eq-Decides a.key.id b.key.id).0 p
    ∙ (bytes_eq-Decides b.key.id c.key.id).0 q)

-- where the members up to a place are done, a member that has no other's id is put at the end, and another is left out
pub done_push : (group : List MemberComponent) (i : ℕ) (d : MemberComponent) (done : List Member)
    → i < length group → d ≡ get_or group i d → done ≡ distinct same_id (map member_of (take i group)) →
    cond (list_any (λ m. same_id m (member_of d)) done) done (done ++ member_of d ∷ [])
    ≡ distinct same_id (map member_of (take (i + 1) group))
done_push group i d done h e so_far =
    ap (λ ms. cond (list_any (λ m. same_id m (member_of d)) ms) ms (ms ++ member_of d ∷ [])) so_far
    ∙ sym (ap (λ ds. distinct same_id (map member_of ds)) (take_next group i d h e)
    ∙ (ap (distinct same_id) (map-append member_of (take i group) (d ∷ []))
    ∙ distinct_push same_id same_id-trans (map member_of (take i group)) (member_of d)))
