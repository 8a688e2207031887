-- Keys, and catalogs in which no two are the same.
use Rattle.std.proofs.Common.{◌≡◌, ℕ, zero, suc, Bool, true, false, not, ◌||◌, List, [], ◌∷◌, ◌++◌, refl, sym, ◌∙◌, ap}
use Rattle.std.proofs.Common.{subst}
use Rattle.std.specs.Prelude.{Some}
use Rattle.std.specs.List.{slice_get}
use Rattle.std.specs.Str.{bytes_eq}
use Rattle.std.proofs.lemmas.Bool.{and_parts, and_from, false_from_ne_true, both_ways}
use Rattle.std.proofs.lemmas.List.Folds.{list_any-append}
use Rattle.std.proofs.lemmas.Slice.Eq.{bytes_eq-Decides}
use Rattle.cnb_toml.specs.declared.names.Key.{Key}
use Rattle.cnb_toml.specs.Keys.{same_key}
use Rattle.bp_docs.specs.declared.descriptor.Descriptor.{Descriptor}
use Rattle.order_expand.specs.Catalog.{has_key, has_distinct_keys}

pub same_key-true : (a b : Key) → same_key a b ≡ true → a ≡ b
same_key-true a b h =
    let parts = and_parts (bytes_eq a.id b.id) (bytes_eq a.version b.version) h in
    let p = (bytes_eq-Decides a.id b.id).0 parts.0 in
    let q = (bytes_eq-Decides a.version b.version).0 parts.1 in
    λ i. record { id = p i; version = q i }

pub same_key-refl : (a : Key) → same_key a a ≡ true
same_key-refl a = and_from (bytes_eq a.id a.id) (bytes_eq a.version a.version)
    ((bytes_eq-Decides a.id a.id).1 refl) ((bytes_eq-Decides a.version a.version).1 refl)

pub same_key-swap : (a b : Key) → same_key a b ≡ false → same_key b a ≡ false
same_key-swap a b e = false_from_ne_true (same_key b a)
    (λ h. both_ways (same_key a b) e (subst (λ (k : Key). same_key a k ≡ true) (sym (same_key-true b a h))
    (same_key-refl a)))

pub neither : (a b : Bool) → (a || b) ≡ false → (a ≡ false) × (b ≡ false)
neither true b e = cc
neither false b e = (refl, e)

pub not_true : (b : Bool) → not b ≡ true → b ≡ false
not_true true e = cc
not_true false e = refl

-- a key that a list has not is no descriptor's
pub key_not_among : (xs : List Descriptor) (key : Key) (place : ℕ) (d : Descriptor) → has_key xs key ≡ false
    → slice_get xs place ≡ Some d → same_key key d.key ≡ false
key_not_among [] key place d n e = cc
key_not_among (x ∷ xs) key zero d n e =
    let same : x ≡ d = cc in
    subst (λ (y : Descriptor). same_key key y.key ≡ false) same (neither (same_key key x.key) (has_key xs key) n).0
key_not_among (x ∷ xs) key (suc place) d n e = key_not_among xs key place d
    (neither (same_key key x.key) (has_key xs key) n).1 e

-- one descriptor more, of a new key
pub distinct_push : (xs : List Descriptor) (d : Descriptor) → has_distinct_keys xs ≡ true
    → has_key xs d.key ≡ false → has_distinct_keys (xs ++ d ∷ []) ≡ true
distinct_push [] d h n = refl
distinct_push (x ∷ xs) d h n =
    let parts = and_parts (not (has_key xs x.key)) (has_distinct_keys xs) h in
    let apart = neither (same_key d.key x.key) (has_key xs d.key) n in
    let new : has_key (xs ++ d ∷ []) x.key ≡ false =
    list_any-append (λ (y : Descriptor). same_key x.key y.key) xs (d ∷ [])
    ∙ (λ i. not_true (has_key xs x.key) parts.0 i || (same_key-swap d.key x.key apart.0 i || false)) in
    and_from (not (has_key (xs ++ d ∷ []) x.key)) (has_distinct_keys (xs ++ d ∷ [])) (ap not new)
    (distinct_push xs d parts.1 apart.1)
