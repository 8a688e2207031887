use Rattle.std.proofs.Common.{sym, ◌∙◌, arith}
use Rattle.std.proofs.lemmas.List.{map-id}
use Rattle.std.proofs.lemmas.Result.{err_from_is_err_and}
use Rattle.std.proofs.lemmas.Iterator.Adapters.{YieldsList-from_vec}
use Rattle.std.proofs.lemmas.Iterator.Consumers.{YieldsList-end}
use Rattle.shelf_set.proofs.GatherLemmas.{keeping_none, keep_fails, keep_more, kept_all}
use Rattle.shelf_set.proofs.giving.keep_rows.Goals as goal

pub loop-row-init : goal.loop-row-init
loop-row-init g c = keeping_none _ _ c.new-kept.ensures

pub loop-row-preserved : goal.loop-row-preserved
loop-row-preserved g c = keep_more c.loop-row.yielded c.loop-row.kept _ c.in-Some.row c.keep_row.result
    c.in_ok-keep_row.field-0 _ _ _ c.loop-row.invariant c.in_ok-keep_row.was c.keep_row.ensures

pub returns-in_err-keep_row : goal.returns-in_err-keep_row
returns-in_err-keep_row g c =
    let exit = err_from_is_err_and c.from_residual.result c.from_residual.ensures.1 in
    rw (exit.1, exit.2) (keep_fails c.args.listed c.loop-row.yielded c.loop-row.kept _ c.in-Some.row
    c.keep_row.result _ _ _ _ c.loop-row.invariant c.in_err-keep_row.was c.keep_row.ensures)

pub returns : goal.returns
returns g c =
    let into = c.into_iter-row-iterator.ensures.into_iter_gives in
    let every = YieldsList-from_vec {s = c.into_iter-row-iterator.result} c.into_vec-row-items.result.items into.0
    (omega (arith, into.1, c.into_vec-row-items.result.ok.0)) in
    let done = YieldsList-end every c.loop-row.yielded c.loop-row.row-iterator c.loop-row.yielded_by c.next.result
    c.next.new.self c.in-None.is c.next.ensures.steps in
    kept_all _ c.loop-row.yielded _ _ _ c.loop-row.invariant
    (sym (map-id c.loop-row.yielded) ∙ done.0 ∙ c.into_vec-row-items.ensures)
