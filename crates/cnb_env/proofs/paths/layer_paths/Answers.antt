use Rattle.std.proofs.Common.{Ok}
use Rattle.std.proofs.lemmas.Result.{err_from_is_err_and}
use Rattle.cnb_world.specs.Tree.{Tree}
use Rattle.cnb_env.specs.Layers.{IsOfLayers, with_paths}
use Rattle.cnb_env.proofs.BlameLemmas.{fails_same}
use Rattle.cnb_env.proofs.EachLemmas.{fails_reads}
use Rattle.cnb_env.proofs.paths.layer_paths.Goals as goal

pub returns-in_err-put_paths-clause-reads : goal.returns-in_err-put_paths-clause-reads
returns-in_err-put_paths-clause-reads g c =
    let exit = err_from_is_err_and c.from_residual-in_err-put_paths.result c.from_residual-in_err-put_paths.ensures.1 in
    rw (exit.1, exit.2) (fails_reads (IsOfLayers c.as_slice.result.now) _
    (λ (files : Tree). Ok (with_paths c.args.when files c.args.layers.now c.args.env.now)) _
    c.in_err-put_paths.ensures.fails)

pub returns-in_err-put_paths-clause-blames : goal.returns-in_err-put_paths-clause-blames
returns-in_err-put_paths-clause-blames g c =
    let exit = err_from_is_err_and c.from_residual-in_err-put_paths.result c.from_residual-in_err-put_paths.ensures.1 in
    rw (exit.1, exit.2) (fails_same c.as_slice.result.now c.args.layers.now c.as_slice.ensures _
    c.in_err-put_paths.ensures.fails)
