use Rattle.std.proofs.Common.{ap, refl, sym, Ok}
use Rattle.std.proofs.lemmas.Result.{err_from_is_err_and}
use Rattle.steps.proofs.StepLemmas.{ended, given, no_memory, went}
use Rattle.tree_store.specs.declared.fault.StoreFault.TheVariants as stored
use Rattle.cnb_layers.specs.declared.fault.ExportFault.TheVariants.{Store}
use Rattle.cnb_export.specs.Given.{reads_needed}
use Rattle.cnb_layers.proofs.ReadSteps.{given_answer}
use Rattle.cnb_export.proofs.given.find_group.Goals as goal

pub returns-in_err-path : goal.returns-in_err-path
unfolding reads_needed
returns-in_err-path g c =
    let exit = err_from_is_err_and c.from_residual.result c.from_residual.ensures.1 in
    rw (exit.1, exit.2) (record { step = ended _ _ _ _ _ (no_memory _ _ _ (Store stored.Memory) refl) })

pub returns-in_err-found : goal.returns-in_err-found
unfolding reads_needed
returns-in_err-found g c =
    let exit = err_from_is_err_and c.from_residual-in_err-found.result c.from_residual-in_err-found.ensures.1 in
    rw (exit.1, exit.2) (record {
      step = went _ _ _ _ _ _ _ (given _ _ _ _ (ap Ok (sym c.in_ok-path.ensures.0)))
          (ended _ _ _ _ _ c.in_err-found.ensures.step);
    })

pub returns : goal.returns
unfolding reads_needed
returns g c =
    record {
      step = went _ _ _ _ _ _ _ (given _ _ _ _ (ap Ok (sym c.in_ok-path.ensures.0)))
          (went _ _ _ _ _ _ _ c.in_ok-found.ensures.step
          (given_answer _ _ _ c.group_at.ensures.answer c.group_at.ensures.cause));
    }
