use Rattle.std.proofs.Common.{◌∙◌, Ok, ap}
use Rattle.std.proofs.lemmas.Result.{err_from_is_err_and}
use Rattle.cnb_launch.specs.Folders.{all_exec_folders}
use Rattle.cnb_launch.proofs.FolderLemmas.{folders_as}
use Rattle.cnb_launch.proofs.PlanLemmas.{execs_read, execs_refused}
use Rattle.cnb_launch.proofs.sets.execs_in.Goals as goal

pub returns-in_err-execs-clause-reads : goal.returns-in_err-execs-clause-reads
returns-in_err-execs-clause-reads g c =
    let exit = err_from_is_err_and c.from_residual-in_err-execs.result c.from_residual-in_err-execs.ensures.1 in
    rw (exit.1, exit.2) (execs_refused c.args.kind.now c.args.sets.now _ (g.W.World.tree c.args.world.now) _
    (c.as_slice-2.ensures ∙ c.in_ok-folders.ensures.folders
    ∙ ap (all_exec_folders c.args.kind.now) c.as_slice.ensures) c.in_err-execs.ensures.reads)

pub returns-in_err-execs-clause-blames : goal.returns-in_err-execs-clause-blames
returns-in_err-execs-clause-blames g c =
    let exit = err_from_is_err_and c.from_residual-in_err-execs.result c.from_residual-in_err-execs.ensures.1 in
    rw (exit.1, exit.2) (folders_as _ _ (c.as_slice-2.ensures ∙ c.in_ok-folders.ensures.folders
    ∙ ap (all_exec_folders c.args.kind.now) c.as_slice.ensures) _ c.in_err-execs.ensures.blames)

pub returns-clause-reads : goal.returns-clause-reads
returns-clause-reads g c =
    execs_read c.args.kind.now c.args.sets.now _ (g.W.World.tree c.args.world.now) (Ok c.in_ok-execs.execs)
    (c.as_slice-2.ensures ∙ c.in_ok-folders.ensures.folders
    ∙ ap (all_exec_folders c.args.kind.now) c.as_slice.ensures) c.in_ok-execs.ensures.reads
