use Rattle.std.proofs.Common.{◌≡◌, ◌∙◌, ◌<◌, arith, ap, sym, refl}
use Rattle.tree_canon.specs.Reading.{IsBytes}
use Rattle.tree_canon.specs.Scanning.{bytes_taken, field_width}
use Rattle.tree_canon.proofs.Scans.{HasTaken, part_taken, more_taken, more_width}
use Rattle.tree_canon.proofs.Held.{small_taken}
use Rattle.tree_canon.proofs.Takes.{is_none, is_some, StandsBefore, stands_direct, stands_kept, moved_ok, takes_ok}
use Rattle.tree_canon.proofs.Takes.{breaks_field}
use Rattle.tree_canon.proofs.Tells.{all_ok, told_ok, contents_told, nothing_told}
use Rattle.tree_canon.proofs.scanner.Scanner.take.Goals as goal
use Rattle.tree_canon.proofs.scanner.Scanner.take.Goals.{else-tell-via-then-tell+else-is_contents}
use Rattle.tree_canon.proofs.scanner.Scanner.take.Goals.{else-tell-via-else-tell}

pub returns-then-is_contents-clause-runs : goal.returns-then-is_contents-clause-runs
returns-then-is_contents-clause-runs c state h =
    let old = c.args.self.now in
    let mid = c.keep.new.self in
    let bytes = c.args.bytes.now in
    let t : HasTaken old mid bytes = record {
      at = c.in_ok-keep.ensures.rest.0;
      folders =
          c.in_ok-keep.ensures.rest.1;
      next = c.in_ok-keep.ensures.next;
      part = c.in_ok-keep.ensures.part;
    } in
    let lt : bytes_taken mid.next mid.part.items < field_width mid.next = omega
    (arith, c.requires.need, more_taken old mid bytes t, more_width old mid bytes t) in
    part_taken old mid bytes state h t lt

pub returns-then-is_contents-clause-told : goal.returns-then-is_contents-clause-told
returns-then-is_contents-clause-told c asked none seen given h =
    let old = c.args.self.now in
    let mid = c.keep.new.self in
    let bytes = c.args.bytes.now in
    let fits : IsBytes c.args.bytes.now = λ i. omega (arith, c.type_inv.bytes i) in
    let t : HasTaken old mid bytes = record {
      at = c.in_ok-keep.ensures.rest.0;
      folders =
          c.in_ok-keep.ensures.rest.1;
      next = c.in_ok-keep.ensures.next;
      part = c.in_ok-keep.ensures.part;
    } in
    let lt : bytes_taken mid.next mid.part.items < field_width mid.next = omega
    (arith, c.requires.need, more_taken old mid bytes t, more_width old mid bytes t) in
    contents_told old mid seen given bytes _ fits h none c.in_ok-keep.ensures.rest.2 t lt
    (c.if-is_contents.ensures.0 refl) (omega arith)

pub returns-then-bytes-need-clause-small : goal.returns-then-bytes-need-clause-small
returns-then-bytes-need-clause-small c =
    let old = c.args.self.now in
    let mid = c.keep.new.self in
    let bytes = c.args.bytes.now in
    let t : HasTaken old mid bytes = record {
      at = c.in_ok-keep.ensures.rest.0;
      folders =
          c.in_ok-keep.ensures.rest.1;
      next = c.in_ok-keep.ensures.next;
      part = c.in_ok-keep.ensures.part;
    } in
    small_taken old mid bytes c.requires.small t (omega
    (arith, c.requires.need, more_taken old mid bytes t, more_width old mid bytes t))

pub returns-then-bytes-need-clause-runs : goal.returns-then-bytes-need-clause-runs
returns-then-bytes-need-clause-runs c state h =
    let old = c.args.self.now in
    let mid = c.keep.new.self in
    let bytes = c.args.bytes.now in
    let t : HasTaken old mid bytes = record {
      at = c.in_ok-keep.ensures.rest.0;
      folders =
          c.in_ok-keep.ensures.rest.1;
      next = c.in_ok-keep.ensures.next;
      part = c.in_ok-keep.ensures.part;
    } in
    let lt : bytes_taken mid.next mid.part.items < field_width mid.next = omega
    (arith, c.requires.need, more_taken old mid bytes t, more_width old mid bytes t) in
    part_taken old mid bytes state h t lt

pub returns-then-bytes-need-clause-told : goal.returns-then-bytes-need-clause-told
returns-then-bytes-need-clause-told c asked none seen given h =
    let old = c.args.self.now in
    let mid = c.keep.new.self in
    let bytes = c.args.bytes.now in
    let fits : IsBytes c.args.bytes.now = λ i. omega (arith, c.type_inv.bytes i) in
    let t : HasTaken old mid bytes = record {
      at = c.in_ok-keep.ensures.rest.0;
      folders =
          c.in_ok-keep.ensures.rest.1;
      next = c.in_ok-keep.ensures.next;
      part = c.in_ok-keep.ensures.part;
    } in
    let lt : bytes_taken mid.next mid.part.items < field_width mid.next = omega
    (arith, c.requires.need, more_taken old mid bytes t, more_width old mid bytes t) in
    nothing_told old mid seen given bytes fits h none c.in_ok-keep.ensures.rest.2 t lt (λ contents.
    elim c.else-tell.branch [
      | else-tell-via-then-tell+else-is_contents w
          ↦ absurd (let yes = w.is_contents.ensures.1 contents in let no = w.if-is_contents.false in cc)
      | else-tell-via-else-tell w ↦ absurd (let no = w.if-tell.false in cc)
    ])

pub returns-then-is_empty-clause-runs : goal.returns-then-is_empty-clause-runs
returns-then-is_empty-clause-runs c =
    let old = c.args.self.now in
    let bytes = c.args.bytes.now in
    let e = c.take_field.ensures in
    let stands : StandsBefore old old bytes bytes = stands_direct old bytes
    (is_none _ old.part.items old.part.ok.0 (sym c.is_empty.ensures ∙ c.if-is_empty.true))
    (omega (arith, c.requires.need, c.requires.fits)) in
    takes_ok c.take_field.result old old c.take_field.new.self bytes bytes stands
    (moved_ok c.take_field.result old c.take_field.new.self bytes e.meets e.at e.place e.empty)

pub returns-then-is_empty-clause-bad : goal.returns-then-is_empty-clause-bad
returns-then-is_empty-clause-bad c state h at reason is =
    let old = c.args.self.now in
    let bytes = c.args.bytes.now in
    let stands : StandsBefore old old bytes bytes = stands_direct old bytes
    (is_none _ old.part.items old.part.ok.0 (sym c.is_empty.ensures ∙ c.if-is_empty.true))
    (omega (arith, c.requires.need, c.requires.fits)) in
    breaks_field old old bytes bytes stands at reason (c.take_field.ensures.bad at reason is) state h

pub returns-then-is_empty-clause-told : goal.returns-then-is_empty-clause-told
returns-then-is_empty-clause-told c =
    let old = c.args.self.now in
    let bytes = c.args.bytes.now in
    let e = c.take_field.ensures in
    let fits : IsBytes c.args.bytes.now = λ i. omega (arith, c.type_inv.bytes i) in
    let stands : StandsBefore old old bytes bytes = stands_direct old bytes
    (is_none _ old.part.items old.part.ok.0 (sym c.is_empty.ensures ∙ c.if-is_empty.true))
    (omega (arith, c.requires.need, c.requires.fits)) in
    told_ok c.take_field.result c.args.tell old old c.take_field.new.self bytes bytes fits stands
    (moved_ok c.take_field.result old c.take_field.new.self bytes e.meets e.at e.place e.empty) e.event e.owed

pub returns-clause-runs : goal.returns-clause-runs
returns-clause-runs c =
    let old = c.args.self.now in
    let mid = c.keep-2.new.self in
    let bytes = c.args.bytes.now in
    let e = c.take_field-2.ensures in
    let field = c.deref.result.now in
    let t : HasTaken old mid bytes = record {
      at = c.in_ok-keep-2.ensures.rest.0;
      folders =
          c.in_ok-keep-2.ensures.rest.1;
      next = c.in_ok-keep-2.ensures.next;
      part = c.in_ok-keep-2.ensures.part;
    } in
    let is : c.deref.result.now ≡ mid.part.items = c.deref.ensures.value
    ∙ ap (λ v. v.items) c.replace-part.ensures.value in
    let stands : StandsBefore old mid bytes field = stands_kept old mid bytes field
    (is_some _ old.part.items old.part.ok.0 (sym c.is_empty.ensures ∙ c.if-is_empty.false))
    (omega (arith, c.requires.need, c.requires.fits)) t is in
    takes_ok c.take_field-2.result old mid c.take_field-2.new.self bytes field stands
    (moved_ok c.take_field-2.result mid c.take_field-2.new.self field e.meets e.at e.place e.empty)

pub returns-clause-bad : goal.returns-clause-bad
returns-clause-bad c state h at reason wrong =
    let old = c.args.self.now in
    let mid = c.keep-2.new.self in
    let bytes = c.args.bytes.now in
    let field = c.deref.result.now in
    let t : HasTaken old mid bytes = record {
      at = c.in_ok-keep-2.ensures.rest.0;
      folders =
          c.in_ok-keep-2.ensures.rest.1;
      next = c.in_ok-keep-2.ensures.next;
      part = c.in_ok-keep-2.ensures.part;
    } in
    let is : c.deref.result.now ≡ mid.part.items = c.deref.ensures.value
    ∙ ap (λ v. v.items) c.replace-part.ensures.value in
    let stands : StandsBefore old mid bytes field = stands_kept old mid bytes field
    (is_some _ old.part.items old.part.ok.0 (sym c.is_empty.ensures ∙ c.if-is_empty.false))
    (omega (arith, c.requires.need, c.requires.fits)) t is in
    breaks_field old mid bytes field stands at reason (c.take_field-2.ensures.bad at reason wrong) state h

pub returns-clause-told : goal.returns-clause-told
returns-clause-told c =
    let old = c.args.self.now in
    let mid = c.keep-2.new.self in
    let bytes = c.args.bytes.now in
    let e = c.take_field-2.ensures in
    let field = c.deref.result.now in
    let fits : IsBytes c.args.bytes.now = λ i. omega (arith, c.type_inv.bytes i) in
    let t : HasTaken old mid bytes = record {
      at = c.in_ok-keep-2.ensures.rest.0;
      folders =
          c.in_ok-keep-2.ensures.rest.1;
      next = c.in_ok-keep-2.ensures.next;
      part = c.in_ok-keep-2.ensures.part;
    } in
    let is : c.deref.result.now ≡ mid.part.items = c.deref.ensures.value
    ∙ ap (λ v. v.items) c.replace-part.ensures.value in
    let stands : StandsBefore old mid bytes field = stands_kept old mid bytes field
    (is_some _ old.part.items old.part.ok.0 (sym c.is_empty.ensures ∙ c.if-is_empty.false))
    (omega (arith, c.requires.need, c.requires.fits)) t is in
    told_ok c.take_field-2.result c.args.tell old mid c.take_field-2.new.self bytes field fits stands
    (moved_ok c.take_field-2.result mid c.take_field-2.new.self field e.meets e.at e.place e.empty) e.event
    e.owed

pub returns-then-is_empty-clause-all : goal.returns-then-is_empty-clause-all
returns-then-is_empty-clause-all c = all_ok c.take_field.result c.args.tell _ _ c.args.self.now.next
    c.take_field.new.self.next c.args.bytes.now c.take_field.ensures.event c.take_field.ensures.place _

pub returns-clause-all : goal.returns-clause-all
returns-clause-all c = all_ok c.take_field-2.result c.args.tell _ _ c.keep-2.new.self.next
    c.take_field-2.new.self.next c.deref.result.now c.take_field-2.ensures.event c.take_field-2.ensures.place _
