use Rattle.std.proofs.Common.{sym, ◌∙◌, ap, List}
use Rattle.std.specs.List.{find, list_any}
use Rattle.std.specs.Prelude.{is_some}
use Rattle.bp_docs.specs.declared.descriptor.Body.{Body}
use Rattle.bp_docs.specs.declared.descriptor.Entry.{Entry}
use Rattle.order_expand.specs.Check.{entries_of, nests_deeper, order_of_body}
use Rattle.order_expand.proofs.Finds.{any_found_in_groups, is_some-copied}
use Rattle.order_expand.proofs.nesting.nests_above.Goals as goal

pub returns-in-Composite : goal.returns-in-Composite
returns-in-Composite c levels e =
    let p = nests_deeper levels c.args.catalog.now in
    c.is_some.ensures
    ∙ (is_some-copied c.deeper_in_order.result
    ∙ (ap is_some (c.deeper_in_order.ensures levels e
    ∙ ap (λ (order : List (List Entry)). find p (entries_of order)) c.as_slice.ensures)
    ∙ (sym (any_found_in_groups p c.in-Composite.order)
    ∙ ap (λ (body : Body). list_any (list_any p) (order_of_body body)) (sym c.in-Composite.is))))
