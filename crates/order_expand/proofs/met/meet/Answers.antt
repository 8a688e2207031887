use Rattle.std.proofs.Common.{◌≡◌, ◌+◌, Bool, true, false, List, length, set, sym, ◌∙◌, ap, arith, length-append}
use Rattle.std.specs.Prelude.{Option, Some}
use Rattle.std.specs.List.{list_any, slice_get}
use Rattle.cnb_toml.specs.Keys.{same_key}
use Rattle.bp_docs.specs.declared.descriptor.Descriptor.{Descriptor}
use Rattle.order_expand.specs.Check.{with_met, entries_of, order_of_body}
use Rattle.order_expand.specs.Groups.{named}
use Rattle.order_expand.specs.Met.{waiting_in, marks_of}
use Rattle.order_expand.proofs.Tables.{in_table, place_in_table}
use Rattle.order_expand.proofs.Marks.{met_again, mark_set, unmet_count-set, length-waiting_in, none_behind, some_behind}
use Rattle.order_expand.proofs.met.meet.Goals as goal

pub returns-then-at-clause-marks : goal.returns-then-at-clause-marks
returns-then-at-clause-marks c met e =
    let catalog = c.args.catalog.now in
    let descriptor = c.in-Some.found.descriptor.now in
    e ∙ (met_again met catalog descriptor.key
    (sym (in_table (λ (d : Descriptor). list_any (same_key d.key) met) c.as_slice.result.now catalog
    c.in-Some.found.place descriptor c.at.result
    (c.as_slice.ensures.value ∙ e) c.in-Some.ensures.place c.at.ensures) ∙ c.if-at.true)
    ∙ ap (λ (o : Option Descriptor). marks_of (with_met met o) catalog) c.in-Some.ensures.named)

pub returns-then-at-clause-waiting : goal.returns-then-at-clause-waiting
returns-then-at-clause-waiting c met e =
    let catalog = c.args.catalog.now in
    let descriptor = c.in-Some.found.descriptor.now in
    let waiting = waiting_in c.args.waiting.now.items in
    none_behind met descriptor (named catalog c.args.entry.now) waiting
    (sym (in_table (λ (d : Descriptor). list_any (same_key d.key) met) c.as_slice.result.now catalog
    c.in-Some.found.place descriptor c.at.result
    (c.as_slice.ensures.value ∙ e) c.in-Some.ensures.place c.at.ensures) ∙ c.if-at.true) c.in-Some.ensures.named

pub index_mut-requires : goal.index_mut-requires
index_mut-requires c =
    let within = place_in_table c.args.marks.now.items c.args.catalog.now c.in-Some.found.place
    c.in-Some.found.descriptor.now c.requires c.in-Some.ensures.place in
    omega arith

pub returns-clause-marks : goal.returns-clause-marks
returns-clause-marks c met e =
    let catalog = c.args.catalog.now in
    let descriptor = c.in-Some.found.descriptor.now in
    ap (λ (marks : List Bool). set marks c.in-Some.found.place true) e
    ∙ (mark_set met catalog c.in-Some.found.place descriptor c.in-Some.ensures.distinct c.in-Some.ensures.place
    ∙ ap (λ (o : Option Descriptor). marks_of (with_met met o) catalog) c.in-Some.ensures.named)

pub returns-clause-waiting : goal.returns-clause-waiting
returns-clause-waiting c met e =
    let catalog = c.args.catalog.now in
    let descriptor = c.in-Some.found.descriptor.now in
    c.in_ok-add_body.ensures
    ∙ some_behind met descriptor (named catalog c.args.entry.now) (waiting_in c.args.waiting.now.items)
    (sym (in_table (λ (d : Descriptor). list_any (same_key d.key) met) c.as_slice.result.now catalog
    c.in-Some.found.place descriptor c.at.result
    (c.as_slice.ensures.value ∙ e) c.in-Some.ensures.place c.at.ensures) ∙ c.if-at.false) c.in-Some.ensures.named

pub returns-clause-left : goal.returns-clause-left
returns-clause-left c =
    let body = c.in-Some.found.descriptor.now.body in
    let unmarked : slice_get c.args.marks.now.items c.in-Some.found.place ≡ Some false =
    ap (λ (marks : List Bool). slice_get marks c.in-Some.found.place) (sym c.as_slice.ensures.value)
    ∙ (c.at.ensures ∙ ap Some c.if-at.false) in
    let fewer = unmet_count-set c.args.marks.now.items c.args.catalog.now c.in-Some.found.place
    c.in-Some.found.descriptor.now unmarked c.in-Some.ensures.place in
    let more : length c.add_body.new.waiting.items ≡ length
    (entries_of (order_of_body body)) + length c.args.waiting.now.items =
    sym (length-waiting_in c.add_body.new.waiting.items) ∙ (ap length c.in_ok-add_body.ensures
    ∙ (length-append (entries_of (order_of_body body)) (waiting_in c.args.waiting.now.items)
    ∙ ap (λ n. length (entries_of (order_of_body body)) + n) (length-waiting_in c.args.waiting.now.items))) in
    omega (arith, fewer, more)
