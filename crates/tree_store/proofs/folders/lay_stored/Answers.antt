use Rattle.std.proofs.lemmas.Result.{err_from_is_err_and}
use Rattle.tree_store.proofs.Stored.{no_path}
use Rattle.tree_store.proofs.folders.lay_stored.Goals as goal

pub returns-in_err-path : goal.returns-in_err-path
returns-in_err-path g c =
    let exit = err_from_is_err_and c.from_residual.result c.from_residual.ensures.1 in
    rw (exit.1, exit.2) (record {
      steps = (no_path g.W.World c.args.store.now c.args.digest.now c.args.root.now
          c.args.place.now c.args.world.now);
    })
