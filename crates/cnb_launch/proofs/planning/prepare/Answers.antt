use Rattle.std.proofs.lemmas.Result.{err_from_is_err_and}
use Rattle.steps.proofs.StepLemmas.{ended, mapped, mapped_fault, went}
use Rattle.cnb_launch.specs.Planning.{prepares}
use Rattle.cnb_launch.proofs.PlanLemmas.{read_step}
use Rattle.cnb_launch.proofs.planning.prepare.Goals as goal

pub returns-in_err-doc : goal.returns-in_err-doc
unfolding prepares
returns-in_err-doc g c =
    let exit = err_from_is_err_and c.from_residual.result c.from_residual.ensures.1 in
    rw (exit.1, exit.2) (record {
      step = ended _ _ _ _ _
          (mapped_fault _ _ _ _ _ (read_step g.W.World _ _ _ _ _ _ c.in_err-doc.ensures.reads
          c.in_err-doc.ensures.leaves c.in_err-doc.ensures.blames c.in_err-doc.ensures.misused));
    })

pub returns : goal.returns
unfolding prepares
returns g c =
    record {
      step = went _ _ _ _ _ _ _ (mapped _ _ _ _ _
          (read_step g.W.World _ _ _ _ _ _ c.in_ok-doc.ensures.reads c.in_ok-doc.ensures.leaves tt
          c.in_ok-doc.ensures.misused)) c.prepare_of.ensures.step;
    }
