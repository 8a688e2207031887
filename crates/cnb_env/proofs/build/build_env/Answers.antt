use Rattle.std.specs.Option.{option_copied}
use Rattle.std.proofs.lemmas.Result.{err_from_is_err_and}
use Rattle.cnb_env.proofs.BuildLemmas.{build_made, build_refused}
use Rattle.cnb_env.proofs.build.build_env.Goals as goal

pub returns-in_err-apply_sets-clause-reads : goal.returns-in_err-apply_sets-clause-reads
returns-in_err-apply_sets-clause-reads g c =
    let exit = err_from_is_err_and c.from_residual-in_err-apply_sets.result
    c.from_residual-in_err-apply_sets.ensures.1 in
    rw (exit.1, exit.2) (build_refused c.args.base.now c.in_ok-env.env _ c.args.done.now
    (option_copied c.args.files) c.in_ok-env.ensures c.as_slice.ensures _ _ c.in_err-apply_sets.ensures.reads)

pub returns-clause-reads : goal.returns-clause-reads
returns-clause-reads g c =
    build_made c.args.base.now c.in_ok-env.env _ c.args.done.now
    (option_copied c.args.files) c.in_ok-env.ensures c.as_slice.ensures
    (g.W.World.tree c.args.world.now) _ _ c.in_ok-apply_sets.ensures.reads c.in_ok-apply_platform.ensures
