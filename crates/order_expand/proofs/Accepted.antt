-- What stands where an order is accepted.
use Rattle.std.proofs.Common.{◌≡◌, ℕ, ◌≤◌, Bool, true, false, cond, List, [], ◌∷◌, refl, sym, ◌∙◌, ap, length, arith}
use Rattle.std.specs.Prelude.{nat_lt, Option, Some, None, IsSome, Result, Ok, Err, IfOk, OnOk, All}
use Rattle.std.specs.List.{filter}
use Rattle.std.proofs.lemmas.Bool.{ltb-false}
use Rattle.std.proofs.lemmas.List.Elements.{All-cons}
use Rattle.bp_docs.specs.declared.descriptor.Entry.{Entry}
use Rattle.bp_docs.specs.declared.descriptor.Descriptor.{Descriptor}
use Rattle.steps.specs.Causes.{IsAnswer}
use Rattle.order_expand.specs.declared.order.OrderFault.{OrderFault}
use Rattle.order_expand.specs.declared.order.OrderFault.TheVariants.{ManyGroups, LongGroup}
use Rattle.order_expand.specs.Check.{meaning_fault, entry_fault, first_fault, met_entries, first_deep, fault_or_deep}
use Rattle.order_expand.specs.Check.{deep_or_count, count_groups, cause_of, checked}
use Rattle.order_expand.specs.Groups.{may_mean, named, the_only, raw_groups, listed_groups}
use Rattle.order_expand.specs.Sizes.{longest}
use Rattle.order_expand.proofs.Counted.{count_by_limits, length-listed}
use Rattle.order_expand.proofs.Meeting.{or_else, first_fault-cons}

-- an order that is accepted has no faulty entry, none that nests too deep, and as many groups as it is said to have
pub record IsAccepted (catalog : List Descriptor) (order : List (List Entry)) (number : ℕ) : Type 0 where
  pub faultless : first_fault catalog (met_entries catalog order) ≡ None
  pub counted : count_groups catalog order ≡ Ok number

accepted_from : (catalog : List Descriptor) (order : List (List Entry)) (number : ℕ) (fault : Option OrderFault)
    (deep : Option Entry) →
    fault_or_deep catalog order fault ≡ Ok number → first_deep catalog order ≡ deep → (fault ≡ None)
    × (count_groups catalog order ≡ Ok number)
accepted_from catalog order number (Some fault) deep e d = cc
accepted_from catalog order number None (Some entry) e d = let deep = ap (deep_or_count catalog order) d in cc
accepted_from catalog order number None None e d = (refl, ap (deep_or_count catalog order) (sym d) ∙ e)

pub accepted : (catalog : List Descriptor) (order : List (List Entry)) (number : ℕ)
    → Ok number ≡ checked catalog order → IsAccepted catalog order number
unfolding checked
accepted catalog order number e =
    let parts = accepted_from catalog order number (first_fault catalog (met_entries catalog order))
    (first_deep catalog order) (sym e) refl in
    record { faultless = parts.0; counted = parts.1 }

-- ---- the number of groups

within_limits : (groups : ℕ) (few : Bool) (is_long : Bool) (number : ℕ) → nat_lt 4096 groups ≡ few
    → cond few (Err ManyGroups) (cond is_long (Err LongGroup) (Ok groups)) ≡ Ok number → (number ≡ groups)
    × (groups ≤ 4096)
within_limits groups true is_long number t e = cc
within_limits groups false true number t e = cc
within_limits groups false false number t e = (let same : groups ≡ number = cc in sym same, ltb-false 4096 groups t)

number_of_groups : (catalog : List Descriptor) (order : List (List Entry)) (number : ℕ)
    → Ok number ≡ checked catalog order → (number ≡ length (listed_groups catalog order)) × (number ≤ 4096)
number_of_groups catalog order number e =
    let raw = raw_groups 17 catalog order in
    let parts = within_limits (length raw) (nat_lt 4096 (length raw)) (nat_lt 256 (longest raw)) number refl
    (sym (count_by_limits catalog order) ∙ (accepted catalog order number e).counted) in
    (parts.0 ∙ sym (length-listed catalog order), omega (arith, parts.0, parts.1))

pub number_checked : (catalog : List Descriptor) (order : List (List Entry)) (result : Result ℕ OrderFault)
    → IsAnswer cause_of result (checked catalog order) → IfOk result
    (λ number. number ≡ length (listed_groups catalog order))
number_checked catalog order (Ok number) h = (number_of_groups catalog order number (sym h)).0
number_checked catalog order (Err fault) h = tt

pub few_checked : (catalog : List Descriptor) (order : List (List Entry)) (result : Result ℕ OrderFault)
    → IsAnswer cause_of result (checked catalog order) → IfOk result (λ number. number ≤ 4096)
few_checked catalog order (Ok number) h = (number_of_groups catalog order number (sym h)).1
few_checked catalog order (Err fault) h = tt

-- ---- what the entries name

faultless_one : (entry : Entry) (meant : List Descriptor) → meaning_fault entry meant ≡ None → IsSome (the_only meant)
faultless_one entry [] e = cc
faultless_one entry (d ∷ []) e = refl
faultless_one entry (d ∷ other ∷ more) e = cc

none_of_both : (o other : Option OrderFault) → or_else o other ≡ None → (o ≡ None) × (other ≡ None)
none_of_both (Some fault) other e = cc
none_of_both None other e = (refl, e)

all_named : (catalog : List Descriptor) (entries : List Entry) → first_fault catalog entries ≡ None
    → All (λ entry. IsSome (named catalog entry)) entries
all_named catalog [] e = λ k d h. absurd (omega arith)
all_named catalog (entry ∷ entries) e =
    let parts = none_of_both (entry_fault catalog entry) (first_fault catalog entries)
    (sym (first_fault-cons catalog entry entries) ∙ e) in
    All-cons (λ (entry : Entry). IsSome (named catalog entry)) entry entries
    (faultless_one entry (filter (may_mean entry) catalog) parts.0) (all_named catalog entries parts.1)

pub named_checked : (catalog : List Descriptor) (order : List (List Entry)) (result : Result ℕ OrderFault)
    → IsAnswer cause_of result (checked catalog order) → OnOk result
    (All (λ entry. IsSome (named catalog entry)) (met_entries catalog order))
named_checked catalog order (Ok number) h = all_named catalog (met_entries catalog order)
    (accepted catalog order number (sym h)).faultless
named_checked catalog order (Err fault) h = tt
