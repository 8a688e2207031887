use Rattle.std.proofs.lemmas.Result.{err_from_is_err_and}
use Rattle.steps.proofs.StepLemmas.{ended, given, given_fault, mapped, mapped_fault, went}
use Rattle.cnb_layers.specs.declared.fault.ExportFault.TheVariants.{Store}
use Rattle.cnb_layers.specs.Settling.{looks_for_stored}
use Rattle.cnb_layers.proofs.settling.look_for_stored.Goals as goal

pub returns-in_err-stored : goal.returns-in_err-stored
unfolding looks_for_stored
returns-in_err-stored g c =
    let exit = err_from_is_err_and c.from_residual.result c.from_residual.ensures.1 in
    rw (exit.1, exit.2) (record {
      step = ended _ _ _ _ _
          (mapped_fault Store _ _ _ c.in_err-stored.field-0.0 c.in_err-stored.ensures.steps);
    })

pub returns-in_err-if_stored : goal.returns-in_err-if_stored
unfolding looks_for_stored
returns-in_err-if_stored g c =
    let exit = err_from_is_err_and c.from_residual-in_err-if_stored.result c.from_residual-in_err-if_stored.ensures.1 in
    rw (exit.1, exit.2) (record {
      step = went _ _ _ _ _ _ _ (mapped Store _ _ _ _ c.in_ok-stored.ensures.steps)
          ((given_fault _ _ _ c.in_err-if_stored.field-0.0 c.in_err-if_stored.ensures.answer
          c.in_err-if_stored.ensures.cause));
    })

pub returns : goal.returns
unfolding looks_for_stored
returns g c =
    record {
      step = went _ _ _ _ _ _ _ (mapped Store _ _ _ _ c.in_ok-stored.ensures.steps)
          ((given _ _ _ _ c.in_ok-if_stored.ensures.answer));
    }
