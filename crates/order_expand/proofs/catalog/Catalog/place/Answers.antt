use Rattle.std.proofs.Common.{◌≡◌, sym, ◌∙◌, ap, map, List}
use Rattle.bp_docs.specs.declared.descriptor.Descriptor.{Descriptor}
use Rattle.order_expand.specs.Fingerprints.{descriptor_fingerprint}
use Rattle.order_expand.specs.Places.{place_of}
use Rattle.order_expand.proofs.Places.{none_of_two, place_step, place_same}
use Rattle.order_expand.proofs.Tables.{beside, place_beside}
use Rattle.order_expand.proofs.catalog.Catalog.place.Goals as goal
use Rattle.order_expand.proofs.catalog.Catalog.place.Goals.{then-is_meant+else-is_some, else-is_meant}

pub at-print-requires : goal.at-print-requires
at-print-requires c =
    let rows = c.deref-descriptor-items.result.now in
    let table : c.as_slice.result.now ≡ map descriptor_fingerprint rows =
    c.as_slice.ensures.value ∙ (c.self.invariant.1 ∙ ap (map descriptor_fingerprint)
    (sym c.deref-descriptor-items.ensures.value)) in
    place_beside descriptor_fingerprint c.as_slice.result.now rows c.loop-place.place table c.loop-place-test.true

pub is_meant-requires-clause-print : goal.is_meant-requires-clause-print
is_meant-requires-clause-print c =
    let rows = c.deref-descriptor-items.result.now in
    let table : c.as_slice.result.now ≡ map descriptor_fingerprint rows =
    c.as_slice.ensures.value ∙ (c.self.invariant.1 ∙ ap (map descriptor_fingerprint)
    (sym c.deref-descriptor-items.ensures.value)) in
    beside descriptor_fingerprint c.as_slice.result.now rows c.loop-place.place c.descriptor-item.result
    c.at-print.result table
    c.loop-place-test.true c.descriptor-item.is c.at-print.ensures

pub returns-then-is_some : goal.returns-then-is_some
returns-then-is_some c =
    let items : c.deref-descriptor-items.result.now ≡ c.args.self.now = c.deref-descriptor-items.ensures.value
    ∙ c.self.view_is in
    none_of_two c.args.entry.now c.deref-descriptor-items.result.now c.loop-place.place c.descriptor-item.result
    c.loop-place.found c.loop-place-test.true c.descriptor-item.is
    c.loop-place.invariant (sym c.is_meant.ensures ∙ c.if-is_meant.true) (sym c.is_some.ensures ∙ c.if-is_some.true)
    ∙ ap (λ (xs : List Descriptor). place_of xs c.args.entry.now) items

pub loop-place-preserved : goal.loop-place-preserved
loop-place-preserved c =
    elim c.if-is_meant.branch [
      | then-is_meant+else-is_some w ↦ rw w.found-is (place_step c.args.entry.now
          c.deref-descriptor-items.result.now c.loop-place.place c.descriptor-item.result c.loop-place.found
          c.loop-place-test.true c.descriptor-item.is c.loop-place.invariant
          (sym c.is_meant.ensures ∙ w.if-is_meant.true) (sym w.is_some.ensures ∙ w.if-is_some.false))
      | else-is_meant w ↦ rw w.found-is (place_same c.args.entry.now c.deref-descriptor-items.result.now
          c.loop-place.place c.descriptor-item.result c.loop-place.found
          c.loop-place-test.true c.descriptor-item.is c.loop-place.invariant
          (sym c.is_meant.ensures ∙ w.if-is_meant.false))
    ]
