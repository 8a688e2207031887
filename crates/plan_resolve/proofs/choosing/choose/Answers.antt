use Rattle.std.proofs.Common.{◌≡◌, ◌+◌, ◌<◌, ◌/◌, ◌%◌, length, refl, arith, Some}
use Rattle.std.proofs.lemmas.Bool.{OnTrue_at}
use Rattle.std.specs.Prelude.{slice_get}
use Rattle.std.proofs.lemmas.Option.{slice_get_read}
use Rattle.plan_resolve.proofs.ChoiceLemmas.{turn, choosing_start, choosing_step, choosing_end, dead_choices}
use Rattle.plan_resolve.proofs.PrefixLemmas.{covers_empty}
use Rattle.plan_resolve.proofs.choosing.choose.Goals as goal

pub bounds-options-number : goal.bounds-options-number
bounds-options-number c =
    let now = turn c.args.rows.now c.args.number c.loop-row.row-index c.loop-row.later c.loop-row.number
    c.loop-row.prefix.rows.items c.row-item.result c.loop-row-test.true c.row-item.is
    c.loop-row.invariant.choosing in
    rw (c.as_slice-options.ensures, now.rest_is) now.index

pub loop-row-init : goal.loop-row-init
loop-row-init c = record {
  choosing = rw c.clear.ensures (choosing_start c.args.rows.now c.args.trials c.args.number c.requires.count
      c.requires.within);
  covers = covers_empty c.clear.new.self.rows.items c.clear.new.self.places.items c.clear.ensures;
}

pub loop-row-preserved : goal.loop-row-preserved
loop-row-preserved c =
    let row = c.row-item.result in
    let so_far = c.loop-row.invariant.choosing in
    let now = turn c.args.rows.now c.args.number c.loop-row.row-index c.loop-row.later c.loop-row.number
    c.loop-row.prefix.rows.items row c.loop-row-test.true c.row-item.is so_far in
    let within : c.loop-row.number / (c.loop-row.later / length row.options)
    < length row.options = rw now.rest_is now.index in
    let option : slice_get row.options (c.loop-row.number / (c.loop-row.later / length row.options))
    ≡ Some c.index-options-number.result =
    slice_get_read row.options (length row.options) (c.loop-row.number / (c.loop-row.later / length row.options))
    c.index-options-number.result refl within
    (rw c.as_slice-options.ensures at c.index-options-number.is) in
    record {
      choosing = rw (c.in_ok-is_dead.ensures.rows, c.chosen.ensures, c.as_slice-options.ensures)
          (choosing_step c.args.rows.now c.args.number c.loop-row.row-index c.loop-row.later c.loop-row.number
          c.loop-row.prefix.rows.items row c.index-options-number.result c.loop-row-test.true c.row-item.is
          so_far option);
      covers = c.in_ok-is_dead.ensures.covers;
    }

pub returns-then-is_dead-clause-dead : goal.returns-then-is_dead-clause-dead
returns-then-is_dead-clause-dead c =
    let row = c.row-item.result in
    let so_far = c.loop-row.invariant.choosing in
    let now = turn c.args.rows.now c.args.number c.loop-row.row-index c.loop-row.later c.loop-row.number
    c.loop-row.prefix.rows.items row c.loop-row-test.true c.row-item.is so_far in
    let within : c.loop-row.number / (c.loop-row.later / length row.options)
    < length row.options = rw now.rest_is now.index in
    let option : slice_get row.options (c.loop-row.number / (c.loop-row.later / length row.options))
    ≡ Some c.index-options-number.result =
    slice_get_read row.options (length row.options) (c.loop-row.number / (c.loop-row.later / length row.options))
    c.index-options-number.result refl within
    (rw c.as_slice-options.ensures at c.index-options-number.is) in
    let dead = rw (c.in_ok-is_dead.ensures.rows, c.chosen.ensures) at
    (OnTrue_at c.if-is_dead.true c.in_ok-is_dead.ensures.dead) in
    rw c.as_slice-options.ensures
    (dead_choices c.args.rows.now c.args.number (c.loop-row.row-index + 1) (c.loop-row.later / length row.options)
    (c.loop-row.number % (c.loop-row.later / length row.options)) _
    (choosing_step c.args.rows.now c.args.number c.loop-row.row-index c.loop-row.later c.loop-row.number
    c.loop-row.prefix.rows.items row c.index-options-number.result c.loop-row-test.true c.row-item.is so_far
    option)
    dead)

pub returns-clause-trial : goal.returns-clause-trial
returns-clause-trial c =
    choosing_end c.args.rows.now c.args.number c.loop-row.row-index c.loop-row.later c.loop-row.number
    c.loop-row.prefix.rows.items (omega arith) c.loop-row.invariant.choosing
