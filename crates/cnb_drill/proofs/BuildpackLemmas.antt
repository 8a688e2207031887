-- The names of the drill's buildpacks are ids, and no two are the same.
use Rattle.std.proofs.Common.{◌≡◌, ◌∙◌, refl, sym, ap, ℕ, zero, suc, ◌+◌, ◌<◌, true, false, [], ◌∷◌, ◌++◌, map}
use Rattle.std.proofs.Common.{append_assoc, append-nil, arith}
use Rattle.std.specs.Prelude.{codes}
use Rattle.std.specs.Fmt.{decimal}
use Rattle.std.proofs.lemmas.Fmt.{decimal_digit}
use Rattle.std.proofs.lemmas.Grind.{flat_map-append}
use Rattle.cnb_toml.specs.Names.{is_bp_id}
use Rattle.plan_resolve.specs.Trials.{numbers_below}
use Rattle.order_expand.specs.Catalog.{has_key}
use Rattle.cnb_drill.specs.Buildpacks.{column_of, component, component_key, composite, composite_key, tail_key}
use Rattle.cnb_drill.specs.Order.{columns_below}
use Rattle.cnb_drill.proofs.Digits.{by_eight}

pub by_four : (P : ℕ → Type 0) → P 0 → P 1 → P 2 → P 3 → (column : ℕ) → column < 4 → P column
by_four P p0 p1 p2 p3 zero h = p0
by_four P p0 p1 p2 p3 (suc zero) h = p1
by_four P p0 p1 p2 p3 (suc (suc zero)) h = p2
by_four P p0 p1 p2 p3 (suc (suc (suc zero))) h = p3
by_four P p0 p1 p2 p3 (suc (suc (suc (suc n)))) h = absurd (omega arith)

-- ---- ids, as they are written

pub component_text : (column digit : ℕ) → column < 4 → digit < 8
    → codes "drill/c" ++ (decimal column ++ 45 ∷ decimal digit) ≡ (component_key column digit).id
component_text column digit c d =
    let few : column < 10 = omega arith in
    let small : digit < 10 = omega arith in
    λ i. codes "drill/c" ++ (decimal_digit column few i ++ 45 ∷ decimal_digit digit small i)

pub composite_text : (column : ℕ) → column < 4 → codes "drill/k" ++ decimal column ≡ (composite_key column).id
composite_text column c =
    let few : column < 10 = omega arith in
    λ i. codes "drill/k" ++ decimal_digit column few i

AreIds : ℕ → Type 0
AreIds column = (digit : ℕ) → digit < 8 → is_bp_id (component_key column digit).id ≡ true

ids_0 : AreIds 0
unfolding AreIds
ids_0 = by_eight (λ digit. is_bp_id (component_key 0 digit).id ≡ true) refl refl refl refl refl refl refl refl

ids_1 : AreIds 1
unfolding AreIds
ids_1 = by_eight (λ digit. is_bp_id (component_key 1 digit).id ≡ true) refl refl refl refl refl refl refl refl

ids_2 : AreIds 2
unfolding AreIds
ids_2 = by_eight (λ digit. is_bp_id (component_key 2 digit).id ≡ true) refl refl refl refl refl refl refl refl

ids_3 : AreIds 3
unfolding AreIds
ids_3 = by_eight (λ digit. is_bp_id (component_key 3 digit).id ≡ true) refl refl refl refl refl refl refl refl

pub component_id : (column digit : ℕ) → column < 4 → digit < 8 → is_bp_id (component_key column digit).id ≡ true
unfolding AreIds
component_id column digit c d = by_four AreIds ids_0 ids_1 ids_2 ids_3 column c digit d

pub composite_id : (column : ℕ) → column < 4 → is_bp_id (composite_key column).id ≡ true
composite_id = by_four (λ column. is_bp_id (composite_key column).id ≡ true) refl refl refl refl

-- ---- keys that are new

pub new_composite : (column : ℕ) → column < 4 → has_key (columns_below column) (composite_key column) ≡ false
new_composite = by_four (λ column. has_key (columns_below column) (composite_key column) ≡ false) refl refl refl refl

AreNew : ℕ → Type 0
AreNew column =
    (digit : ℕ) → digit < 8 → has_key ((columns_below column ++ composite column ∷ [])
    ++ map (λ d. component (component_key column d)) (numbers_below digit)) (component_key column digit)
    ≡ false

new_0 : AreNew 0
unfolding AreNew
new_0 = by_eight (λ digit. has_key ((columns_below 0 ++ composite 0 ∷ [])
    ++ map (λ d. component (component_key 0 d)) (numbers_below digit)) (component_key 0 digit) ≡ false) refl refl
    refl refl refl refl refl refl

new_1 : AreNew 1
unfolding AreNew
new_1 = by_eight (λ digit. has_key ((columns_below 1 ++ composite 1 ∷ [])
    ++ map (λ d. component (component_key 1 d)) (numbers_below digit)) (component_key 1 digit) ≡ false) refl refl
    refl refl refl refl refl refl

new_2 : AreNew 2
unfolding AreNew
new_2 = by_eight (λ digit. has_key ((columns_below 2 ++ composite 2 ∷ [])
    ++ map (λ d. component (component_key 2 d)) (numbers_below digit)) (component_key 2 digit) ≡ false) refl refl
    refl refl refl refl refl refl

new_3 : AreNew 3
unfolding AreNew
new_3 = by_eight (λ digit. has_key ((columns_below 3 ++ composite 3 ∷ [])
    ++ map (λ d. component (component_key 3 d)) (numbers_below digit)) (component_key 3 digit) ≡ false) refl refl
    refl refl refl refl refl refl

pub new_component : (column digit : ℕ) → column < 4 → digit < 8 →
    has_key ((columns_below column ++ composite column ∷ [])
    ++ map (λ d. component (component_key column d)) (numbers_below digit)) (component_key column digit)
    ≡ false
unfolding AreNew
new_component column digit c d = by_four AreNew new_0 new_1 new_2 new_3 column c digit d

pub new_tail : has_key (columns_below 4) tail_key ≡ false
new_tail = refl

-- one column more
pub columns-next : (column : ℕ) → (columns_below column ++ composite column ∷ [])
    ++ map (λ d. component (component_key column d)) (numbers_below 8) ≡ columns_below (column + 1)
columns-next column =
    let next : suc column ≡ column + 1 = omega arith in
    append_assoc (columns_below column) (composite column ∷ [])
    (map (λ d. component (component_key column d)) (numbers_below 8))
    ∙ (ap (λ more. columns_below column ++ more) (sym (append-nil (column_of column)))
    ∙ (sym (flat_map-append column_of (numbers_below column) (column ∷ []))
    ∙ ap columns_below next))
