use Rattle.std.proofs.Common.{Ok}
use Rattle.std.specs.Option.{option_copied}
use Rattle.std.proofs.lemmas.Result.{err_from_is_err_and}
use Rattle.cnb_env.proofs.BuildLemmas.{launch_made, launch_refused}
use Rattle.cnb_env.proofs.launch.launch_env.Goals as goal

pub returns-in_err-apply_sets-clause-reads : goal.returns-in_err-apply_sets-clause-reads
returns-in_err-apply_sets-clause-reads g c =
    let exit = err_from_is_err_and c.from_residual-in_err-apply_sets.result
    c.from_residual-in_err-apply_sets.ensures.1 in
    rw (exit.1, exit.2) (launch_refused (g.W.World.tree c.args.world.now) c.args.base.now c.in_ok-env.env _
    c.args.sets.now c.in_ok-phase.phase (option_copied c.args.kind) _ c.in_ok-env.ensures c.as_slice.ensures
    c.in_ok-phase.ensures c.in_err-apply_sets.ensures.reads)

pub returns-clause-reads : goal.returns-clause-reads
returns-clause-reads g c =
    launch_made (g.W.World.tree c.args.world.now) c.args.base.now c.in_ok-env.env _ c.args.sets.now
    c.in_ok-phase.phase (option_copied c.args.kind) (Ok _) c.in_ok-env.ensures c.as_slice.ensures
    c.in_ok-phase.ensures c.in_ok-apply_sets.ensures.reads
