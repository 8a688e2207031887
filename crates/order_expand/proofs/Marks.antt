-- Marks of the descriptors that were met.
use Rattle.std.proofs.Common.{◌≡◌, ℕ, zero, suc, ◌+◌, Bor, Bool, true, false, not, cond, ◌||◌, List, [], ◌∷◌, ◌++◌, map}
use Rattle.std.proofs.Common.{refl, sym, ◌∙◌, ap, subst, length, set, arith}
use Rattle.std.specs.Prelude.{Option, Some}
use Rattle.std.specs.List.{list_any, slice_get}
use Rattle.std.proofs.lemmas.Bool.{and_parts, or_left}
use Rattle.std.proofs.lemmas.List.{length-reverse}
use Rattle.cnb_toml.specs.declared.names.Key.{Key}
use Rattle.cnb_toml.specs.Keys.{same_key}
use Rattle.bp_docs.specs.declared.descriptor.Entry.{Entry}
use Rattle.bp_docs.specs.declared.descriptor.Descriptor.{Descriptor}
use Rattle.order_expand.specs.Catalog.{has_key, has_distinct_keys}
use Rattle.order_expand.specs.Check.{order_of_body, entry_count, entries_of, entries_behind}
use Rattle.order_expand.specs.Met.{waiting_in, marks_of, unmet_count}
use Rattle.order_expand.proofs.Keys.{same_key-true, same_key-refl, same_key-swap, neither, not_true, key_not_among}
use Rattle.order_expand.proofs.Sizes.{length_map}

-- ---- marks and keys

met_or_same : (met : List Key) (a b : Key) (t : Bool) → t ≡ same_key a b → list_any (same_key b) met ≡ true
    → list_any (same_key a) met ≡ (t || list_any (same_key a) met)
met_or_same met a b true e h = subst (λ (k : Key). list_any (same_key k) met ≡ true) (sym (same_key-true a b (sym e))) h
met_or_same met a b false e h = refl

-- meeting a descriptor again changes no mark
pub met_again : (met : List Key) (catalog : List Descriptor) (key : Key) → list_any (same_key key) met ≡ true
    → marks_of met catalog ≡ marks_of (key ∷ met) catalog
met_again met [] key h = refl
met_again met (x ∷ xs) key h = λ i. met_or_same met x.key key (same_key x.key key) refl h i ∷ met_again met xs key h i

-- a key that no descriptor has changes no mark
marks_of_others : (met : List Key) (xs : List Descriptor) (key : Key) → has_key xs key ≡ false
    → marks_of met xs ≡ marks_of (key ∷ met) xs
marks_of_others met [] key n = refl
marks_of_others met (x ∷ xs) key n =
    let apart = neither (same_key key x.key) (has_key xs key) n in
    λ i. (sym (same_key-swap key x.key apart.0) i || list_any (same_key x.key) met)
    ∷ marks_of_others met xs key apart.1 i

-- meeting a descriptor sets its own mark alone
pub mark_set : (met : List Key) (catalog : List Descriptor) (place : ℕ) (d : Descriptor)
    → has_distinct_keys catalog ≡ true → slice_get catalog place ≡ Some d →
    set (marks_of met catalog) place true ≡ marks_of (d.key ∷ met) catalog
mark_set met [] place d h e = cc
mark_set met (x ∷ xs) zero d h e =
    let parts = and_parts (not (has_key xs x.key)) (has_distinct_keys xs) h in
    let same : x ≡ d = cc in
    subst (λ (y : Descriptor). set (marks_of met (x ∷ xs)) zero true ≡ marks_of (y.key ∷ met) (x ∷ xs)) same
    (λ i. sym (or_left (same_key x.key x.key) (list_any (same_key x.key) met) (same_key-refl x.key)) i
    ∷ marks_of_others met xs x.key (not_true (has_key xs x.key) parts.0) i)
mark_set met (x ∷ xs) (suc place) d h e =
    let parts = and_parts (not (has_key xs x.key)) (has_distinct_keys xs) h in
    let apart = key_not_among xs x.key place d (not_true (has_key xs x.key) parts.0) e in
    λ i. (sym apart i || list_any (same_key x.key) met) ∷ mark_set met xs place d parts.1 e i

-- ---- what is left to meet

pub unmet_count-set : (marks : List Bool) (catalog : List Descriptor) (place : ℕ) (d : Descriptor)
    → slice_get marks place ≡ Some false → slice_get catalog place ≡ Some d →
    entry_count (order_of_body d.body) + unmet_count (set marks place true) catalog ≡ unmet_count marks catalog
unmet_count-set [] catalog place d m e = cc
unmet_count-set (mark ∷ marks) [] place d m e = cc
unmet_count-set (mark ∷ marks) (x ∷ xs) zero d m e =
    let same : d ≡ x = cc in
    let unmarked : false ≡ mark = cc in
    subst (λ (y : Descriptor). entry_count (order_of_body y.body) + (0 + unmet_count marks xs)
    ≡ unmet_count (mark ∷ marks) (x ∷ xs)) (sym same)
    (subst (λ (t : Bool). entry_count (order_of_body x.body) + (0 + unmet_count marks xs)
    ≡ cond t 0 (entry_count (order_of_body x.body)) + unmet_count marks xs) unmarked (omega arith))
unmet_count-set (mark ∷ marks) (x ∷ xs) (suc place) d m e =
    let behind = unmet_count-set marks xs place d m e in
    let here = cond mark 0 (entry_count (order_of_body x.body)) in
    omega (arith, behind)

pub length-waiting_in : (entries : List (Bor Entry)) → length (waiting_in entries) ≡ length entries
length-waiting_in entries = length-reverse (map (λ (e : Bor Entry). e.now) entries)
    ∙ length_map (λ (e : Bor Entry). e.now) entries

-- ---- the entries behind one that is met

pub none_behind : (met : List Key) (d : Descriptor) (o : Option Descriptor) (waiting : List Entry)
    → list_any (same_key d.key) met ≡ true → Some d ≡ o → waiting ≡ entries_behind met o ++ waiting
none_behind met d o waiting h n = subst (λ (o : Option Descriptor). waiting ≡ entries_behind met o ++ waiting) n
    (sym (ap (λ t. cond t [] (entries_of (order_of_body d.body)) ++ waiting) h))

pub some_behind : (met : List Key) (d : Descriptor) (o : Option Descriptor) (waiting : List Entry)
    → list_any (same_key d.key) met ≡ false → Some d ≡ o →
    entries_of (order_of_body d.body) ++ waiting ≡ entries_behind met o ++ waiting
some_behind met d o waiting h n =
    subst (λ (o : Option Descriptor). entries_of (order_of_body d.body) ++ waiting ≡ entries_behind met o
    ++ waiting) n (sym (ap (λ t. cond t [] (entries_of (order_of_body d.body)) ++ waiting) h))
