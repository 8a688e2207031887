-- The groups of an order, one level at a time.
use Rattle.std.proofs.Common.{◌≡◌, ℕ, zero, suc, ◌-◌, ◌<◌, List, [], map, refl, ap, arith}
use Rattle.std.specs.List.{flat_map}
use Rattle.bp_docs.specs.declared.descriptor.Entry.{Entry}
use Rattle.bp_docs.specs.declared.descriptor.Descriptor.{Descriptor}
use Rattle.order_expand.specs.Groups.{raw_groups, expanded}
use Rattle.order_expand.specs.Sizes.{size_of, sizes_at}

pub raw_groups_zero : (levels : ℕ) (catalog : List Descriptor) (order : List (List Entry)) → levels ≡ 0
    → raw_groups levels catalog order ≡ []
unfolding raw_groups
raw_groups_zero zero catalog order e = refl
raw_groups_zero (suc levels) catalog order e = absurd (omega arith)

pub raw_groups_above : (levels : ℕ) (catalog : List Descriptor) (order : List (List Entry)) → 0 < levels →
    raw_groups levels catalog order ≡ flat_map (expanded (raw_groups (levels - 1) catalog) catalog) order
unfolding raw_groups
raw_groups_above zero catalog order h = absurd (omega arith)
raw_groups_above (suc levels) catalog order h = ap (λ n. flat_map (expanded (raw_groups n catalog) catalog) order)
    (omega arith)

pub raw_groups_suc : (levels : ℕ) (catalog : List Descriptor) (order : List (List Entry)) →
    raw_groups (suc levels) catalog order ≡ flat_map (expanded (raw_groups levels catalog) catalog) order
unfolding raw_groups
raw_groups_suc levels catalog order = refl

pub raw_groups_of_none : (levels : ℕ) (catalog : List Descriptor) → raw_groups (suc levels) catalog [] ≡ []
unfolding raw_groups
raw_groups_of_none levels catalog = refl

-- the sizes down to no level are those of no groups
pub sizes_at-zero : (catalog : List Descriptor) → map (λ (descriptor : Descriptor). size_of []) catalog
    ≡ sizes_at 0 catalog
unfolding raw_groups
sizes_at-zero catalog = refl
