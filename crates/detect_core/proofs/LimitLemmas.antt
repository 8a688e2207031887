-- How many listed groups a checked order has, and how long they are.
use Rattle.std.proofs.Common.{◌≡◌, ◌∙◌, refl, sym, subst, ℕ, suc, ◌+◌, ◌<◌, ◌≤◌, ◌^◌, Bool, true, false, not, List, []}
use Rattle.std.proofs.Common.{◌∷◌, ◌++◌, map, length, arith, length-append}
use Rattle.std.specs.Prelude.{◌&&◌, ◌||◌, nat_lt, if◌then◌else◌, Option, Some, None, IfSome, Ok, Err, IsOk}
use Rattle.std.specs.List.{filter, filter_map, list_all, list_any, cons_option}
use Rattle.std.proofs.lemmas.Bool.{false≢true, le-ltb, ltb-false}
use Rattle.std.proofs.lemmas.List.Folds.{list_any-append}
use Rattle.bp_docs.specs.declared.descriptor.Entry.{Entry}
use Rattle.bp_docs.specs.declared.descriptor.Descriptor.{Descriptor}
use Rattle.order_expand.specs.declared.member.Member.{Member}
use Rattle.order_expand.specs.declared.order.OrderFault.{OrderFault}
use Rattle.order_expand.specs.declared.order.OrderFault.TheVariants.{ManyGroups, LongGroup}
use Rattle.order_expand.specs.Check.{checked, fault_or_deep, deep_or_count, count_groups, first_fault, first_deep}
use Rattle.order_expand.specs.Check.{met_entries}
use Rattle.order_expand.specs.Groups.{distinct, same_id, raw_groups, listed_groups}
use Rattle.plan_resolve.specs.declared.rows.AliveRow.{AliveRow}
use Rattle.detect_core.specs.declared.chosen.Verdict.{Verdict}
use Rattle.detect_core.specs.declared.chosen.Verdict.TheVariants.{Pass, Fail, Error}
use Rattle.detect_core.specs.declared.judging.Judged.{Judged}
use Rattle.detect_core.specs.Answer.{is_pass, alive_row}
use Rattle.detect_core.specs.Judging.{IsJudged}
use Rattle.detect_core.specs.Searching.{AreWithin, is_long}

filter_step : {X : Type 0} (b : Bool) (x : X) (kept xs : List X) → length kept ≤ length xs
    → length (if b then x ∷ kept else kept) ≤ length (x ∷ xs)
filter_step true x kept xs h = omega arith
filter_step false x kept xs h = omega arith

pub filter-le : {X : Type 0} (p : X → Bool) (xs : List X) → length (filter p xs) ≤ length xs
filter-le p [] = omega arith
filter-le p (x ∷ xs) = filter_step (p x) x (filter p xs) xs (filter-le p xs)

distinct-le : {X : Type 0} (same : X → X → Bool) (xs : List X) → length (distinct same xs) ≤ length xs
distinct-le same [] = omega arith
distinct-le same (x ∷ xs) =
    let a : length (filter (λ y. not (same x y)) (distinct same xs))
    ≤ length (distinct same xs) = filter-le (λ y. not (same x y)) (distinct same xs) in
    let b : length (distinct same xs) ≤ length xs = distinct-le same xs in
    omega arith

or-parts : (a b : Bool) → (a || b) ≡ false → (a ≡ false) × (b ≡ false)
or-parts true b h = absurd (false≢true (sym h))
or-parts false b h = (refl, h)

none_long : (groups : List (List Member)) → list_any is_long groups ≡ false
    → list_any is_long (map (distinct same_id) groups) ≡ false
none_long [] h = refl
none_long (group ∷ groups) h =
    let parts = or-parts (is_long group) (list_any is_long groups) h in
    let short : length group ≤ 256 = ltb-false 256 (length group) parts.0 in
    let less : length (distinct same_id group) ≤ length group = distinct-le same_id group in
    (λ i. le-ltb 256 (length (distinct same_id group)) (omega arith) i || none_long groups parts.1 i)

counted : (catalog : List Descriptor) (order : List (List Entry)) (a b : Bool) (n : ℕ) →
    IsOk (if a then Err ManyGroups else if b then Err LongGroup else Ok n) → (a ≡ false) × (b ≡ false)
counted catalog order true b n h = absurd (false≢true h)
counted catalog order false true n h = absurd (false≢true h)
counted catalog order false false n h = (refl, refl)

not_deep : (catalog : List Descriptor) (order : List (List Entry)) (deep : Option Entry)
    → IsOk (deep_or_count catalog order deep) → IsOk (count_groups catalog order)
not_deep catalog order (Some entry) h = absurd (false≢true h)
not_deep catalog order None h = h

no_fault : (catalog : List Descriptor) (order : List (List Entry)) (fault : Option OrderFault)
    → IsOk (fault_or_deep catalog order fault) → IsOk (count_groups catalog order)
no_fault catalog order (Some fault) h = absurd (false≢true h)
no_fault catalog order None h = not_deep catalog order (first_deep catalog order) h

pub listed_within : (catalog : List Descriptor) (order : List (List Entry)) → IsOk (checked catalog order)
    → AreWithin (listed_groups catalog order)
unfolding checked listed_groups
listed_within catalog order h =
    let listed = map (distinct same_id) (raw_groups 17 catalog order) in
    let parts = counted catalog order (nat_lt 4096 (length listed))
    (list_any is_long (raw_groups 17 catalog order)) (length listed)
    (no_fault catalog order (first_fault catalog (met_entries catalog order)) h) in
    record { few = ltb-false 4096 (length listed) parts.0; short = none_long (raw_groups 17 catalog order) parts.1 }

-- a group among them
pub within_group : (done : List (List Member)) (group : List Member) (left : List (List Member))
    → AreWithin (done ++ group ∷ left) → length group ≤ 256
within_group done group left w =
    let behind = (or-parts (list_any is_long done) (list_any is_long (group ∷ left))
    (sym (list_any-append is_long done (group ∷ left)) ∙ w.short)).1 in
    ltb-false 256 (length group) (or-parts (is_long group) (list_any is_long left) behind).0

pub within_place : (done : List (List Member)) (group : List Member) (left : List (List Member))
    → AreWithin (done ++ group ∷ left) → length done + 1 ≤ 4096
within_place done group left w =
    let few : length (done ++ group ∷ left) ≤ 4096 = w.few in
    let parts : length (done ++ group ∷ left) ≡ length done + length (group ∷ left) = length-append done
    (group ∷ left) in
    omega arith

option_step : (member : Member) (verdict : Verdict) (rows : List AliveRow)
    → length (cons_option (alive_row member verdict) rows) ≤ suc (length rows)
option_step member (Pass options) rows = omega arith
option_step member Fail rows = omega arith
option_step member Error rows = omega arith

rows-le : (says : Member → Verdict) (group : List Member)
    → length (filter_map (λ m. alive_row m (says m)) group) ≤ length group
rows-le says [] = omega arith
rows-le says (m ∷ ms) =
    let a = option_step m (says m) (filter_map (λ n. alive_row n (says n)) ms) in
    let b : length (filter_map (λ n. alive_row n (says n)) ms) ≤ length ms = rows-le says ms in
    omega arith

alive_short : (all : Bool) (rows : List AliveRow) → length rows ≤ 256
    → IfSome (if all then Some rows else None) (λ alive. length alive < 2 ^ 32)
alive_short true rows h = omega arith
alive_short false rows h = tt

-- a judged group has no more rows than members
pub judged_rows : (says : Member → Verdict) (group : List Member) (judged : Judged) → IsJudged says group judged
    → length group ≤ 256 → IfSome judged.alive (λ rows. length rows < 2 ^ 32)
judged_rows says group judged j short =
    let rows = filter_map (λ m. alive_row m (says m)) group in
    let less : length rows ≤ length group = rows-le says group in
    subst (λ (alive : Option (List AliveRow)). IfSome alive (λ rows. length rows < 2 ^ 32)) (sym j.alive)
    (alive_short (list_all (λ m. m.optional || is_pass (says m)) group && list_any (λ m. is_pass (says m)) group)
    rows (omega arith))
