-- The members that are for a target, and what is found among them.
use Rattle.std.proofs.Common.{◌≡◌, ◌∙◌, refl, sym, ap, Bool, true, false, cond, not, List, [], ◌∷◌, ◌++◌}
use Rattle.std.specs.Prelude.{◌||◌, Option, None}
use Rattle.std.specs.List.{filter, list_all, list_any}
use Rattle.std.proofs.lemmas.Bool.{and_parts, and_from, or_right, or_left}
use Rattle.std.proofs.lemmas.List.{map-append}
use Rattle.std.proofs.lemmas.List.Elements.{filter-append}
use Rattle.cnb_toml.specs.declared.target.Target.{Target}
use Rattle.order_expand.specs.declared.member.Member.{Member}
use Rattle.order_expand.specs.Groups.{distinct}
use Rattle.detect_core.specs.declared.chosen.Verdict.{Verdict}
use Rattle.detect_core.specs.Answer.{is_error, is_fit, where_fit}
use Rattle.detect_core.specs.Detection.{fitting, members_of, same_member}
use Rattle.detect_core.proofs.ListLemmas.{all_filter, filter_passes}
use Rattle.detect_core.proofs.MemberLemmas.{any-distinct, flat}

pub fitting-append : (target : Option Target) (xs ys : List (List Member))
    → fitting target (xs ++ ys) ≡ fitting target xs ++ fitting target ys
fitting-append target xs ys = map-append (filter (is_fit target)) xs ys

pub flat-fitting : (target : Option Target) (groups : List (List Member))
    → flat (fitting target groups) ≡ filter (is_fit target) (flat groups)
flat-fitting target [] = refl
flat-fitting target (group ∷ groups) =
    ap (λ ms. filter (is_fit target) group ++ ms) (flat-fitting target groups)
    ∙ sym (filter-append (is_fit target) group (flat groups))

all_of_none : (members : List Member) → filter (is_fit None) members ≡ members
all_of_none [] = refl
all_of_none (m ∷ ms) = ap (λ xs. m ∷ xs) (all_of_none ms)

-- where no target is known, every member is for it
pub fitting-none : (groups : List (List Member)) → fitting None groups ≡ groups
fitting-none [] = refl
fitting-none (group ∷ groups) = λ i. all_of_none group i ∷ fitting-none groups i

-- ---- tests of filtered members

pub any_put : (q : Member → Bool) (b : Bool) (m : Member) (ms : List Member) → list_any q ms ≡ true
    → list_any q (cond b (m ∷ ms) ms) ≡ true
any_put q true m ms h = or_right (q m) (list_any q ms) h
any_put q false m ms h = h

pub any_put_here : (q : Member → Bool) (b : Bool) (m : Member) (ms : List Member) → b ≡ true → q m ≡ true
    → list_any q (cond b (m ∷ ms) ms) ≡ true
any_put_here q b m ms e h = ap (λ c. list_any q (cond c (m ∷ ms) ms)) e ∙ or_left (q m) (list_any q ms) h

all-distinct : (p : Member → Bool) (members : List Member) → list_all p members ≡ true
    → list_all p (distinct same_member members) ≡ true
all-distinct p [] a = refl
all-distinct p (m ∷ ms) a =
    let parts = and_parts (p m) (list_all p ms) a in
    let other : Member → Bool = λ n. not (same_member m n) in
    and_from (p m) (list_all p (filter other (distinct same_member ms))) parts.0
    (all_filter other p (distinct same_member ms) (all-distinct p ms parts.1))

module _ (target : Option Target) (answer : Member → Verdict) where
  abbrev errs : Member → Bool
  errs m = is_error (where_fit (is_fit target m) (answer m))

  any_where_all : (members : List Member) → list_all (is_fit target) members ≡ true
      → list_any errs members ≡ list_any (λ m. is_error (answer m)) members
  any_where_all [] a = refl
  any_where_all (m ∷ ms) a =
      let parts = and_parts (is_fit target m) (list_all (is_fit target) ms) a in
      λ i. is_error (where_fit (parts.0 i) (answer m)) || any_where_all ms parts.1 i

  any_filtered : (members : List Member) → list_any (λ m. is_error (answer m)) (filter (is_fit target) members)
      ≡ list_any errs members
  any_filtered [] = refl
  any_filtered (m ∷ ms) =
      let kept = filter (is_fit target) ms in
      elim (is_fit target m)
      as (λ b. list_any (λ n. is_error (answer n)) (cond b (m ∷ kept) kept)
      ≡ (is_error (where_fit b (answer m)) || list_any errs ms)) [
        | true ↦ ap (λ b. is_error (answer m) || b) (any_filtered ms)
        | false ↦ any_filtered ms
      ]

  -- Of members that are not for the target none ends with an error, so those that are asked err where any member does.
  pub any_asked : ((a b : Member) → a.key ≡ b.key → answer a ≡ answer b) → (groups : List (List Member)) →
      list_any errs (members_of (fitting target groups)) ≡ list_any errs (flat groups)
  any_asked respects groups =
      let kept = filter (is_fit target) (flat groups) in
      ap (λ ms. list_any errs (distinct same_member ms)) (flat-fitting target groups)
      ∙ (any_where_all (distinct same_member kept) (all-distinct (is_fit target) kept
      (filter_passes (is_fit target) (flat groups)))
      ∙ (any-distinct (λ m. is_error (answer m)) (λ a b e. ap is_error (respects a b e)) kept
      ∙ any_filtered (flat groups)))
