use Rattle.std.proofs.lemmas.Result.{err_from_is_err_and}
use Rattle.steps.specs.Outside.{seen}
use Rattle.cnb_restore.proofs.LayingLemmas.{held_so, not_held, seen_standing}
use Rattle.cnb_restore.proofs.layers.restore_held.Goals as goal

pub returns-in_err-path-clause-step : goal.returns-in_err-path-clause-step
returns-in_err-path-clause-step g c =
    let exit = err_from_is_err_and c.from_residual.result c.from_residual.ensures.1 in
    rw (exit.1, exit.2) (not_held c.args.folder.now c.args.row.now (seen g.W.World c.args.world.now) _
    (seen_standing _ _ _ c.args.caches.now.standing))

pub returns-clause-step : goal.returns-clause-step
returns-clause-step g c = held_so c.args.folder.now c.args.row.now _ _ _ _ _ c.in_ok-path.ensures.path
    c.searched.ensures c.restore_tree.ensures.step
