use Rattle.std.proofs.lemmas.Result.{err_from_is_err_and}
use Rattle.cnb_detect.proofs.DetectLaws.{no_memory_to_choose}
use Rattle.cnb_create.proofs.TargetLemmas.{chooses_as}
use Rattle.cnb_create.proofs.choosing.choose_for.Goals as goal

pub returns-in_err-target-clause-steps : goal.returns-in_err-target-clause-steps
returns-in_err-target-clause-steps g c =
    let exit = err_from_is_err_and c.from_residual.result c.from_residual.ensures.1 in
    rw (exit.1, exit.2) (no_memory_to_choose _ _ _ _)

pub returns-clause-steps : goal.returns-clause-steps
returns-clause-steps g c = chooses_as _ _ _ _ _ _ _ c.in_ok-target.ensures c.choose_group.ensures.steps
