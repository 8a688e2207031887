use Rattle.std.proofs.Common.{◌≡◌, ◌∙◌, ◌∷◌, drop, Some, ap, sym}
use Rattle.std.specs.Prelude.{slice_get}
use Rattle.detect_core.specs.Kept.{kept_says}
use Rattle.detect_record.specs.GroupTexts.{passed_whole}
use Rattle.detect_record.proofs.GroupTextLemmas.{group_here, groups_behind, item_put, item_refused}
use Rattle.detect_record.proofs.making_groups.put_passed_groups.Goals as goal

pub returns-in-Err-clause-put : goal.returns-in-Err-clause-put
returns-in-Err-clause-put c =
    let met : c.loop-number.walk ≡ c.in-Some.group ∷ c.next.new.self = rw c.in-Some.is at c.in_ok-group.ensures.ok in
    let left : drop c.loop-number.number c.args.walk.now ≡ c.in-Some.group
    ∷ c.next.new.self = sym c.loop-number.invariant.1 ∙ met in
    let here : slice_get c.args.walk.now c.loop-number.number ≡ Some c.as_slice.result.now =
    group_here c.args.walk.now c.loop-number.number c.in-Some.group c.next.new.self left
    ∙ ap Some (sym c.as_slice.ensures) in
    item_refused (passed_whole (kept_says c.args.target.now c.args.kept.now)) c.args.walk.now c.loop-number.number
    c.args.place c.as_slice.result.now c.args.text.now c.loop-number.text
    c.put_passed.new.text c.put_passed.new.text c.in-Err.fault here c.loop-number-test.true
    c.loop-number.invariant.0 c.in-Err.ensures

pub loop-number-preserved : goal.loop-number-preserved
loop-number-preserved c =
    let met : c.loop-number.walk ≡ c.in-Some.group ∷ c.next.new.self = rw c.in-Some.is at c.in_ok-group.ensures.ok in
    let left : drop c.loop-number.number c.args.walk.now ≡ c.in-Some.group
    ∷ c.next.new.self = sym c.loop-number.invariant.1 ∙ met in
    let here : slice_get c.args.walk.now c.loop-number.number ≡ Some c.as_slice.result.now =
    group_here c.args.walk.now c.loop-number.number c.in-Some.group c.next.new.self left
    ∙ ap Some (sym c.as_slice.ensures) in (
      item_put (passed_whole (kept_says c.args.target.now c.args.kept.now)) c.args.walk.now c.loop-number.number
          c.as_slice.result.now c.args.text.now c.loop-number.text c.put_passed.new.text
          here c.loop-number.invariant.0 c.in-Ok.ensures,
      groups_behind c.args.walk.now c.loop-number.number c.in-Some.group c.next.new.self left,
    )
