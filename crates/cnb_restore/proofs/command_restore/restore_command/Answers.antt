use Rattle.std.proofs.lemmas.Result.{err_from_is_err_and}
use Rattle.steps.proofs.StepLemmas.{ended, mapped, mapped_fault, went}
use Rattle.shelf_set.proofs.CacheLemmas.{within}
use Rattle.cnb_restore.specs.Commands.{restores_command}
use Rattle.cnb_restore.proofs.command_restore.restore_command.Goals as goal

pub returns-in_err-analyzed : goal.returns-in_err-analyzed
unfolding restores_command
returns-in_err-analyzed g c =
    let exit = err_from_is_err_and c.from_residual.result c.from_residual.ensures.1 in
    rw (exit.1, exit.2) (record {
      steps = ended _ _ _ _ _
          (mapped_fault _ _ _ _ _ (within _ _ _ _ _ c.in_err-analyzed.ensures.step));
    })

pub returns-in_err-group : goal.returns-in_err-group
unfolding restores_command
returns-in_err-group g c =
    let exit = err_from_is_err_and c.from_residual-in_err-group.result c.from_residual-in_err-group.ensures.1 in
    rw (exit.1, exit.2) (record {
      steps = went _ _ _ _ _ _ _
          (mapped _ _ _ _ _ (within _ _ _ _ _ c.in_ok-analyzed.ensures.step))
          (ended _ _ _ _ _ (mapped_fault _ _ _ _ _ (within _ _ _ _ _ c.in_err-group.ensures.step)));
    })

pub returns : goal.returns
unfolding restores_command
returns g c =
    record {
      steps = went _ _ _ _ _ _ _ (mapped _ _ _ _ _ (within _ _ _ _ _ c.in_ok-analyzed.ensures.step))
          (went _ _ _ _ _ _ _ (mapped _ _ _ _ _ (within _ _ _ _ _ c.in_ok-group.ensures.step))
          c.restore_analyzed.ensures.steps);
    }
