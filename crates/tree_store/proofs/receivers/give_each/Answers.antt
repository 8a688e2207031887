use Rattle.std.proofs.Common.{◌∙◌, arith}
use Rattle.std.proofs.lemmas.Result.{err_from_is_err_and}
use Rattle.tree_store.proofs.Receivings.{all_done, as_many_left, as_many_seen, each_ended, few_seen, one_done}
use Rattle.tree_store.proofs.receivers.give_each.Goals as goal

pub returns-in_err-give_at-clause-gives : goal.returns-in_err-give_at-clause-gives
returns-in_err-give_at-clause-gives g c =
    let exit = err_from_is_err_and c.from_residual.result c.from_residual.ensures.1 in
    rw exit.1 (each_ended _ _ _ _ _ _ _ _ _ (few_seen _ _ c.args.shelves.now.items c.requires)
    c.loop-number.invariant.first c.in_err-give_at.ensures)

pub loop-number-preserved : goal.loop-number-preserved
loop-number-preserved g c = record {
  within = omega (arith, c.loop-number-test.true);
  flags = as_many_left _ _ _ _ _ c.give_at.ensures.flag ∙ c.loop-number.invariant.flags;
  shelves = as_many_seen _ c.loop-number.shelves.items _ _ _ _ c.give_at.ensures.shelf
      ∙ c.loop-number.invariant.shelves;
  first = one_done _ _ _ _ _ _ _ _ _ c.loop-number.invariant.first c.in_ok-give_at.ensures;
}

pub returns-clause-gives : goal.returns-clause-gives
returns-clause-gives g c = all_done _ _ c.loop-number.number _ _ _ _ (omega (
  arith,
  c.loop-number-test.false,
  c.loop-number.invariant.within,
)) c.loop-number.invariant.first

pub returns-in_err-give_at-clause-numbered : goal.returns-in_err-give_at-clause-numbered
returns-in_err-give_at-clause-numbered g c =
    let flags = as_many_left _ _ _ _ _ c.give_at.ensures.flag in
    let shelves = as_many_seen _ c.loop-number.shelves.items _ _ _ _ c.give_at.ensures.shelf in
    omega (arith, c.requires, flags, shelves, c.loop-number.invariant.flags, c.loop-number.invariant.shelves)
