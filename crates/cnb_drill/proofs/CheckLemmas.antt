-- The drill's order is accepted, and stands for 4,096 groups.
use Rattle.std.proofs.Common.{◌≡◌, ◌∙◌, refl, ap, ℕ, zero, suc, ◌+◌, false, cond, List, [], ◌∷◌, map, length}
use Rattle.std.specs.Prelude.{nat_lt, ◌||◌, None, Ok, Err}
use Rattle.std.specs.List.{list_any, AllByRecursion}
use Rattle.std.proofs.lemmas.List.{length-map}
use Rattle.order_expand.specs.Groups.{listed_groups}
use Rattle.order_expand.specs.Check.{checked, first_fault, met_entries, first_deep, count_groups, fault_or_deep}
use Rattle.order_expand.specs.Check.{deep_or_count}
use Rattle.order_expand.specs.declared.order.OrderFault.TheVariants.{ManyGroups, LongGroup}
use Rattle.cnb_drill.proofs.Members.{members}
use Rattle.cnb_drill.specs.Order.{drill_catalog, drill_order}
use Rattle.cnb_drill.proofs.WordLemmas.{words, length-words}
use Rattle.cnb_drill.proofs.GroupLemmas.{raw_drill, listed_drill}
use Rattle.cnb_drill.proofs.AskedLemmas.{IsWord, are_words}

no_fault : first_fault drill_catalog (met_entries drill_catalog drill_order) ≡ None
unfolding drill_catalog drill_order
no_fault = refl

not_deep : first_deep drill_catalog drill_order ≡ None
unfolding drill_catalog drill_order
not_deep = refl

pub length-drill : length (listed_groups drill_catalog drill_order) ≡ 4096
length-drill = ap length listed_drill ∙ (length-map (words 4) (members 0) ∙ length-words 4)

length-group : (column places : ℕ) (word : List ℕ) → IsWord places word → length (members column word) ≡ suc places
length-group column zero [] h = refl
length-group column zero (digit ∷ digits) h = absurd h
length-group column (suc places) [] h = absurd h
length-group column (suc places) (digit ∷ digits) h = ap suc (length-group (column + 1) places digits h.1)

none_long : (ws : List (List ℕ)) → AllByRecursion (IsWord 4) ws
    → list_any (λ group. nat_lt 256 (length group)) (map (members 0) ws) ≡ false
none_long [] h = refl
none_long (w ∷ ws) h = λ i. nat_lt 256 (length-group 0 4 w h.0 i) || none_long ws h.1 i

counted : count_groups drill_catalog drill_order ≡ Ok 4096
counted =
    λ i. cond (nat_lt 4096 (length-drill i)) (Err ManyGroups)
    (cond ((ap (list_any (λ group. nat_lt 256 (length group))) raw_drill ∙ none_long (words 4) (are_words 4)) i)
    (Err LongGroup) (Ok (length-drill i)))

pub checked_drill : checked drill_catalog drill_order ≡ Ok 4096
unfolding checked
checked_drill =
    ap (fault_or_deep drill_catalog drill_order) no_fault
    ∙ (ap (deep_or_count drill_catalog drill_order) not_deep ∙ counted)
