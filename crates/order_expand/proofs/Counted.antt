-- What the size of an order's groups says of the order.
use Rattle.std.proofs.Common.{◌≡◌, ℕ, ◌<◌, ◌≤◌, Bool, cond, ◌||◌, List, [], ◌∷◌, refl, sym, ◌∙◌, ap, subst, inl, inr}
use Rattle.std.proofs.Common.{length, arith}
use Rattle.std.specs.Prelude.{max, nat_lt, Option, Some, None, Result, Ok, Err}
use Rattle.std.specs.List.{list_any}
use Rattle.std.proofs.lemmas.Bool.{lt-ltb, le-ltb, cases_lt}
use Rattle.bp_docs.specs.declared.descriptor.Entry.{Entry}
use Rattle.bp_docs.specs.declared.descriptor.Descriptor.{Descriptor}
use Rattle.steps.specs.Causes.{IsAnswer}
use Rattle.order_expand.specs.declared.member.Member.{Member}
use Rattle.order_expand.specs.declared.size.Size.{Size}
use Rattle.order_expand.specs.declared.order.OrderFault.{OrderFault}
use Rattle.order_expand.specs.declared.order.OrderFault.TheVariants.{Absent, Ambiguous, Api, Deep, ManyGroups}
use Rattle.order_expand.specs.declared.order.OrderFault.TheVariants.{LongGroup, Memory}
use Rattle.order_expand.specs.Check.{first_fault, met_entries, first_deep, fault_or_deep, deep_or_count, count_groups}
use Rattle.order_expand.specs.Check.{cause_of, checked}
use Rattle.order_expand.specs.Groups.{raw_groups, listed_groups, distinct, same_id}
use Rattle.order_expand.specs.Sizes.{longest, size_of}
use Rattle.order_expand.proofs.Sizes.{length_map, size_of-groups, size_of-longest}

pub length-listed : (catalog : List Descriptor) (order : List (List Entry))
    → length (listed_groups catalog order) ≡ length (raw_groups 17 catalog order)
unfolding listed_groups
length-listed catalog order = length_map (distinct same_id) (raw_groups 17 catalog order)

lt_max : (a b : ℕ) → (nat_lt 256 a || nat_lt 256 b) ≡ nat_lt 256 (max a b)
lt_max a b = elim (cases_lt 256 a) [
  | inl h ↦ ap (λ t. t || nat_lt 256 b) (lt-ltb 256 a h) ∙ sym (lt-ltb 256 (max a b) (omega arith))
  | inr h ↦ ap (λ t. t || nat_lt 256 b) (le-ltb 256 a h) ∙ elim (cases_lt 256 b) [
    | inl k ↦ lt-ltb 256 b k ∙ sym (lt-ltb 256 (max a b) (omega arith))
    | inr k ↦ le-ltb 256 b k ∙ sym (le-ltb 256 (max a b) (omega arith))
  ]
]

any_longer : (groups : List (List Member)) → list_any (λ group. nat_lt 256 (length group)) groups
    ≡ nat_lt 256 (longest groups)
any_longer [] = refl
any_longer (group ∷ groups) = ap (λ t. nat_lt 256 (length group) || t) (any_longer groups)
    ∙ lt_max (length group) (longest groups)

-- the answer by the number of groups and by whether one is too long
abbrev pub by_limits : ℕ → Bool → Result ℕ OrderFault
by_limits number is_long = cond (nat_lt 4096 number) (Err ManyGroups) (cond is_long (Err LongGroup) (Ok number))

pub count_by_limits : (catalog : List Descriptor) (order : List (List Entry))
    → count_groups catalog order ≡ by_limits (length (raw_groups 17 catalog order))
    (nat_lt 256 (longest (raw_groups 17 catalog order)))
count_by_limits catalog order = λ i. by_limits (length-listed catalog order i)
    (any_longer (raw_groups 17 catalog order) i)

pub many_groups : (catalog : List Descriptor) (order : List (List Entry)) (size : Size)
    → size ≡ size_of (raw_groups 17 catalog order) → 4096 < size.groups
    → count_groups catalog order ≡ Err ManyGroups
many_groups catalog order size e h =
    let raw = raw_groups 17 catalog order in
    let more : 4096 < length raw = omega (arith, size_of-groups size raw e) in
    count_by_limits catalog order ∙ ap (λ t. cond t (Err ManyGroups)
    (cond (nat_lt 256 (longest raw)) (Err LongGroup) (Ok (length raw)))) (lt-ltb 4096 (length raw) more)

pub long_group : (catalog : List Descriptor) (order : List (List Entry)) (size : Size)
    → size ≡ size_of (raw_groups 17 catalog order) → size.groups ≤ 4096 → 256 < size.longest
    → count_groups catalog order ≡ Err LongGroup
long_group catalog order size e h k =
    let raw = raw_groups 17 catalog order in
    let few : length raw ≤ 4096 = omega (arith, size_of-groups size raw e) in
    let long : 256 < longest raw = omega (arith, size_of-longest size raw e) in
    count_by_limits catalog order ∙ (λ i. cond (le-ltb 4096 (length raw) few i) (Err ManyGroups)
    (cond (lt-ltb 256 (longest raw) long i) (Err LongGroup) (Ok (length raw))))

pub groups_counted : (catalog : List Descriptor) (order : List (List Entry)) (size : Size)
    → size ≡ size_of (raw_groups 17 catalog order) → size.groups ≤ 4096 → size.longest ≤ 256
    → count_groups catalog order ≡ Ok size.groups
groups_counted catalog order size e h k =
    let raw = raw_groups 17 catalog order in
    let few : length raw ≤ 4096 = omega (arith, size_of-groups size raw e) in
    let short : longest raw ≤ 256 = omega (arith, size_of-longest size raw e) in
    let same : size.groups ≡ length raw = omega (arith, size_of-groups size raw e) in
    count_by_limits catalog order ∙ ((λ i. cond (le-ltb 4096 (length raw) few i) (Err ManyGroups)
    (cond (le-ltb 256 (longest raw) short i) (Err LongGroup) (Ok (length raw)))) ∙ ap Ok (sym same))

-- ---- the whole check

checks_err : (fault : OrderFault) (want : Result ℕ OrderFault) → want ≡ Err fault
    → IsAnswer {A = ℕ} cause_of (Err fault) want
checks_err (Absent id) want e = e
checks_err (Ambiguous id) want e = e
checks_err (Api id api) want e = e
checks_err (Deep id) want e = e
checks_err ManyGroups want e = e
checks_err LongGroup want e = e
checks_err Memory want e = tt

pub checked_faulty : (catalog : List Descriptor) (order : List (List Entry)) (fault : OrderFault)
    → Some fault ≡ first_fault catalog (met_entries catalog order)
    → IsAnswer {A = ℕ} cause_of (Err fault) (checked catalog order)
unfolding checked
checked_faulty catalog order fault e = subst (λ (o : Option OrderFault). IsAnswer {A = ℕ} cause_of (Err fault)
    (fault_or_deep catalog order o)) e (checks_err fault (Err fault) refl)

pub checked_sound : (catalog : List Descriptor) (order : List (List Entry)) (result : Result ℕ OrderFault)
    → None ≡ first_fault catalog (met_entries catalog order) →
    IsAnswer cause_of result (deep_or_count catalog order (first_deep catalog order))
    → IsAnswer cause_of result (checked catalog order)
unfolding checked
checked_sound catalog order result e h = subst
    (λ (o : Option OrderFault). IsAnswer cause_of result (fault_or_deep catalog order o)) e h
