use Rattle.std.proofs.lemmas.Result.{err_from_is_err_and}
use Rattle.cnb_env.proofs.BlameLemmas.{folder_fails}
use Rattle.cnb_env.proofs.paths.standing.Goals as goal

pub returns-in_err-push_standing-clause-fails : goal.returns-in_err-push_standing-clause-fails
returns-in_err-push_standing-clause-fails g c =
    let exit = err_from_is_err_and c.from_residual-in_err-push_standing.result
    c.from_residual-in_err-push_standing.ensures.1 in
    rw (exit.1, exit.2) (folder_fails c.args.layers.now c.loop-layer.layer-index c.layer-item.result
    c.args.name.now c.in_ok-path.path c.loop-layer-test.true c.layer-item.is c.requires.part
    c.in_ok-path.ensures.0 _ c.in_err-push_standing.ensures.fails)
