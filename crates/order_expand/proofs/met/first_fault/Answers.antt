use Rattle.std.proofs.Common.{◌≡◌, ◌+◌, ◌++◌, [], List, length, sym, ◌∙◌, ap, append-nil, arith}
use Rattle.std.specs.List.{list_any}
use Rattle.cnb_toml.specs.Keys.{same_key}
use Rattle.bp_docs.specs.declared.descriptor.Entry.{Entry}
use Rattle.bp_docs.specs.declared.descriptor.Descriptor.{Descriptor}
use Rattle.order_expand.specs.Check.{entries_of, entry_fault}
use Rattle.order_expand.specs.Met.{waiting_in, unmet_count}
use Rattle.order_expand.proofs.Marks.{length-waiting_in}
use Rattle.order_expand.proofs.Meeting.{meets_start, meets_faulty, meets_next, none_found, next_waiting}
use Rattle.order_expand.proofs.Sizes.{length_map}
use Rattle.order_expand.proofs.met.first_fault.Goals as goal

pub loop-entry-init : goal.loop-entry-init
loop-entry-init c = record {
  number = ap length c.in_ok-marks.ensures ∙ length_map (λ (d : Descriptor). list_any (same_key d.key) [])
      c.args.catalog.now;
  meets = meets_start c.args.catalog.now c.args.order.now c.in_ok-marks.marks.items
      (waiting_in c.add_order.new.waiting.items) c.in_ok-marks.ensures
      (c.in_ok-add_order.ensures ∙ (ap (λ (xs : List _). entries_of c.as_slice.result.now ++ waiting_in xs)
      c.new-waiting.ensures.items
      ∙ (append-nil (entries_of c.as_slice.result.now) ∙ ap (λ (order : List (List Entry)). entries_of order)
      c.as_slice.ensures)));
}

pub returns-then-is_some : goal.returns-then-is_some
returns-then-is_some c =
    meets_faulty c.args.catalog.now c.args.order.now c.loop-entry.marks.items
    (waiting_in c.loop-entry.waiting.items) (waiting_in c.pop.new.self.items) c.in-Some.entry.now
    c.in_ok-fault.fault
    c.loop-entry.invariant.meets (next_waiting c.loop-entry.waiting.items c.pop.new.self.items c.in-Some.entry
    c.in-Some.ensures.items) c.in_ok-fault.ensures (sym c.is_some.ensures ∙ c.if-is_some.true)

pub loop-entry-preserved : goal.loop-entry-preserved
loop-entry-preserved c = record {
  number = c.in_ok-meet.ensures.length;
  meets =
      let m = c.loop-entry.invariant.meets in
      let left : length (waiting_in c.meet.new.waiting.items) + unmet_count c.meet.new.marks.items
      c.args.catalog.now ≡ length (waiting_in c.pop.new.self.items) + unmet_count c.loop-entry.marks.items
      c.args.catalog.now =
      omega (
        arith,
        c.in_ok-meet.ensures.left,
        length-waiting_in c.meet.new.waiting.items,
        length-waiting_in
            c.pop.new.self.items,
      ) in
      meets_next c.args.catalog.now c.args.order.now c.loop-entry.marks.items c.meet.new.marks.items
      (waiting_in c.loop-entry.waiting.items) (waiting_in c.pop.new.self.items)
      (waiting_in c.meet.new.waiting.items) c.in-Some.entry.now m
      (next_waiting c.loop-entry.waiting.items c.pop.new.self.items c.in-Some.entry c.in-Some.ensures.items)
      (none_found c.in_ok-fault.fault (entry_fault c.args.catalog.now c.in-Some.entry.now) c.in_ok-fault.ensures
      (sym c.is_some.ensures ∙ c.if-is_some.false))
      (c.in_ok-meet.ensures.marks m.met m.marked) (c.in_ok-meet.ensures.waiting m.met m.marked) left;
}
