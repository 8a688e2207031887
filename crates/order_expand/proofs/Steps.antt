-- The steps through an order, one level at a time.
use Rattle.std.proofs.Common.{◌≡◌, ℕ, zero, suc, ◌+◌, ◌-◌, ◌<◌, List, refl, ap, arith}
use Rattle.bp_docs.specs.declared.descriptor.Entry.{Entry}
use Rattle.bp_docs.specs.declared.descriptor.Descriptor.{Descriptor}
use Rattle.order_expand.specs.Steps.{order_steps, groups_steps}

pub order_steps_zero : (levels : ℕ) (catalog : List Descriptor) (order : List (List Entry)) (behind : ℕ)
    → levels ≡ 0 → order_steps levels catalog order behind ≡ behind + 2
unfolding order_steps
order_steps_zero zero catalog order behind e = refl
order_steps_zero (suc levels) catalog order behind e = absurd (omega arith)

pub order_steps_above : (levels : ℕ) (catalog : List Descriptor) (order : List (List Entry)) (behind : ℕ) → 0 < levels →
    order_steps levels catalog order behind ≡ groups_steps (order_steps (levels - 1) catalog) catalog order behind
unfolding order_steps
order_steps_above zero catalog order behind h = absurd (omega arith)
order_steps_above (suc levels) catalog order behind h = ap
    (λ n. groups_steps (order_steps n catalog) catalog order behind) (omega arith)
