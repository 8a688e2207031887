use Rattle.std.proofs.Common.{sym, ◌∙◌, ap, List, ℕ}
use Rattle.std.specs.Prelude.{Some}
use Rattle.order_expand.specs.declared.order.OrderFault.TheVariants.{Absent, Ambiguous}
use Rattle.order_expand.proofs.Faults.{fault_of_ambiguous, fault_of_absent}
use Rattle.order_expand.proofs.fault.entry_fault.Goals as goal

pub returns-then-has_meant : goal.returns-then-has_meant
returns-then-has_meant c =
    ap (λ (id : List ℕ). Some (Ambiguous id)) c.in_ok-id.ensures
    ∙ fault_of_ambiguous c.args.catalog.now c.args.entry.now c.in_default.ensures.named
    (sym c.has_meant.ensures ∙ c.if-has_meant.true)

pub returns-else-has_meant : goal.returns-else-has_meant
returns-else-has_meant c =
    ap (λ (id : List ℕ). Some (Absent id)) c.in_ok-id.ensures
    ∙ fault_of_absent c.args.catalog.now c.args.entry.now (sym c.has_meant.ensures ∙ c.if-has_meant.false)
