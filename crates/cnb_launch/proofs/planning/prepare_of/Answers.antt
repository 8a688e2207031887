use Rattle.std.proofs.lemmas.Result.{err_from_is_err_and}
use Rattle.steps.proofs.StepLemmas.{ended, given, given_fault, mapped, mapped_fault, went}
use Rattle.cnb_launch.specs.Planning.{prepares_of}
use Rattle.cnb_launch.proofs.PlanLemmas.{read_step}
use Rattle.cnb_launch.proofs.planning.prepare_of.Goals as goal

pub returns-in_err-chosen : goal.returns-in_err-chosen
unfolding prepares_of
returns-in_err-chosen g c =
    let exit = err_from_is_err_and c.from_residual.result c.from_residual.ensures.1 in
    rw (exit.1, exit.2) (record {
      step = ended _ _ _ _ _
          (given_fault _ _ _ _ c.in_err-chosen.ensures.answer c.in_err-chosen.ensures.given);
    })

pub returns-in_err-sets : goal.returns-in_err-sets
unfolding prepares_of
returns-in_err-sets g c =
    let exit = err_from_is_err_and c.from_residual-in_err-sets.result c.from_residual-in_err-sets.ensures.1 in
    rw (exit.1, exit.2) (record {
      step = went _ _ _ _ _ _ _ (given _ _ _ _ c.in_ok-chosen.ensures.answer)
          (ended _ _ _ _ _ (mapped_fault _ _ _ _ _ (read_step g.W.World _ _ _ _ _ _ c.in_err-sets.ensures.reads
          c.in_err-sets.ensures.leaves c.in_err-sets.ensures.blames c.in_err-sets.ensures.misused)));
    })

pub returns : goal.returns
unfolding prepares_of
returns g c =
    record {
      step = went _ _ _ _ _ _ _ (given _ _ _ _ c.in_ok-chosen.ensures.answer)
          (went _ _ _ _ _ _ _ (mapped _ _ _ _ _ (read_step g.W.World _ _ _ _ _ _ c.in_ok-sets.ensures.reads
          c.in_ok-sets.ensures.leaves tt c.in_ok-sets.ensures.misused)) c.prepare_in.ensures.step);
    }
