use Rattle.std.proofs.Common.{◌∙◌, ◌<◌, ◌++◌, append-nil, sym, ap, length, arith}
use Rattle.std.specs.Prelude.{Some, None}
use Rattle.detect_core.proofs.EndingLemmas.{one_more_place}
use Rattle.detect_core.proofs.ending.group_of.Goals as goal
use Rattle.detect_core.proofs.ending.group_of.Goals.{in-Some+in_ok-group_row+in_ok-push, in_default}

pub loop-place-preserved : goal.loop-place-preserved
loop-place-preserved c =
    let lt : c.loop-place.place-index < length c.args.places.now = omega arith in
    elim c.match-row_at.branch [
      | in-Some+in_ok-group_row+in_ok-push w ↦
          w.group-is ∙ (w.in_ok-push.ensures.ok ∙ (ap (λ rows. c.loop-place.group ++ rows)
          (sym w.in_ok-group_row.ensures)
          ∙ one_more_place c.args.rows.now c.args.places.now c.loop-place.place-index c.loop-place.group
          (Some w.in-Some.row.now) lt w.in-Some.ensures c.loop-place.invariant))
      | in_default w ↦
          w.group-is ∙ (sym (append-nil c.loop-place.group)
          ∙ one_more_place c.args.rows.now c.args.places.now c.loop-place.place-index c.loop-place.group None lt
          w.in_default.ensures c.loop-place.invariant)
    ]
