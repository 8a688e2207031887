use Rattle.std.proofs.Common.{◌≡◌, ◌<◌, ◌/◌, length, refl, arith, Some}
use Rattle.std.specs.Prelude.{slice_get}
use Rattle.std.proofs.lemmas.Option.{slice_get_read}
use Rattle.plan_resolve.proofs.ChoiceLemmas.{turn, choosing_start, choosing_step, choosing_end}
use Rattle.plan_resolve.proofs.choosing.chosen_trial.Goals as goal

pub bounds-options-left : goal.bounds-options-left
bounds-options-left c =
    let now = turn c.args.rows.now c.args.number c.loop-row.row-index c.loop-row.later c.loop-row.left
    c.loop-row.out.items c.row-item.result c.loop-row-test.true c.row-item.is c.loop-row.invariant in
    rw (c.as_slice-options.ensures, now.rest_is) now.index

pub loop-row-init : goal.loop-row-init
loop-row-init c = rw c.clear.ensures.items (choosing_start c.args.rows.now c.args.trials c.args.number
    c.requires.count c.requires.within)

pub loop-row-preserved : goal.loop-row-preserved
loop-row-preserved c =
    let row = c.row-item.result in
    let now = turn c.args.rows.now c.args.number c.loop-row.row-index c.loop-row.later c.loop-row.left
    c.loop-row.out.items row c.loop-row-test.true c.row-item.is c.loop-row.invariant in
    let within : c.loop-row.left / (c.loop-row.later / length row.options)
    < length row.options = rw now.rest_is now.index in
    let option : slice_get row.options (c.loop-row.left / (c.loop-row.later / length row.options))
    ≡ Some c.index-options-left.result =
    slice_get_read row.options (length row.options) (c.loop-row.left / (c.loop-row.later / length row.options))
    c.index-options-left.result refl within
    (rw c.as_slice-options.ensures at c.index-options-left.is) in
    rw (c.in_ok-push.ensures.items, c.chosen.ensures, c.as_slice-options.ensures)
    (choosing_step c.args.rows.now c.args.number c.loop-row.row-index c.loop-row.later c.loop-row.left
    c.loop-row.out.items row c.index-options-left.result c.loop-row-test.true c.row-item.is
    c.loop-row.invariant option)

pub returns-clause-trial : goal.returns-clause-trial
returns-clause-trial c =
    choosing_end c.args.rows.now c.args.number c.loop-row.row-index c.loop-row.later c.loop-row.left
    c.loop-row.out.items (omega arith) c.loop-row.invariant
