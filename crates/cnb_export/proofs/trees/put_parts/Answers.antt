use Rattle.std.proofs.lemmas.Result.{err_from_is_err_and}
use Rattle.steps.proofs.StepLemmas.{ended, went}
use Rattle.cnb_export.specs.Trees.{puts_parts}
use Rattle.cnb_export.proofs.trees.put_parts.Goals as goal

pub returns-in_err-parts : goal.returns-in_err-parts
unfolding puts_parts
returns-in_err-parts g c =
    let exit = err_from_is_err_and c.from_residual.result c.from_residual.ensures.1 in
    rw (exit.1, exit.2) (record { step = ended _ _ _ _ _ c.in_err-parts.ensures.step })

pub returns : goal.returns
unfolding puts_parts
returns g c = record { step = went _ _ _ _ _ _ _ c.in_ok-parts.ensures.step c.put_each.ensures.step }
