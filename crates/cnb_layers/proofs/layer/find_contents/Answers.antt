use Rattle.std.proofs.Common.{ap, refl, sym, Ok}
use Rattle.std.proofs.lemmas.Result.{err_from_is_err_and}
use Rattle.steps.proofs.StepLemmas.{ended, given, no_memory, went}
use Rattle.tree_store.specs.declared.fault.StoreFault.TheVariants as stored
use Rattle.cnb_layers.specs.declared.fault.ExportFault.TheVariants.{Store}
use Rattle.cnb_layers.specs.Layer.{finds_contents}
use Rattle.cnb_layers.proofs.layer.find_contents.Goals as goal

pub returns-in_err-path : goal.returns-in_err-path
unfolding finds_contents
returns-in_err-path g c =
    let exit = err_from_is_err_and c.from_residual.result c.from_residual.ensures.1 in
    rw (exit.1, exit.2) (record { step = ended _ _ _ _ _ (no_memory _ _ _ (Store stored.Memory) refl) })

pub returns-in_err-there : goal.returns-in_err-there
unfolding finds_contents
returns-in_err-there g c =
    let exit = err_from_is_err_and c.from_residual-in_err-there.result c.from_residual-in_err-there.ensures.1 in
    rw (exit.1, exit.2) (record {
      step = went _ _ _ _ _ _ _
          (given _ _ _ _ (ap Ok (sym c.in_ok-path.ensures.path))) (ended _ _ _ _ _ c.in_err-there.ensures.step);
    })

pub returns : goal.returns
unfolding finds_contents
returns g c =
    record {
      step = went _ _ _ _ _ _ _ (given _ _ _ _ (ap Ok (sym c.in_ok-path.ensures.path)))
          (went _ _ _ _ _ _ _ c.in_ok-there.ensures.step c.take_contents.ensures.step);
    }
