use Rattle.std.proofs.Common.{◌∙◌, ap, refl, true, Some}
use Rattle.std.proofs.lemmas.Result.{err_from_is_err_and}
use Rattle.steps.proofs.StepLemmas.{ended, went}
use Rattle.steps.specs.Steps.{yields}
use Rattle.cnb_layers.specs.Settling.{reuses, settled_as}
use Rattle.cnb_layers.proofs.settling.reuse.Goals as goal

pub returns-in_err-check_reused : goal.returns-in_err-check_reused
unfolding reuses
returns-in_err-check_reused g c =
    let exit = err_from_is_err_and c.from_residual.result c.from_residual.ensures.1 in
    rw (exit.1, exit.2) (record { step = ended _ _ _ _ _ c.in_err-check_reused.ensures.step })

pub returns : goal.returns
unfolding reuses yields
returns g c = record {
  step = went _ _ _ _ _ _ _ c.in_ok-check_reused.ensures.step
      (c.settled_as.ensures ∙ ap (settled_as (Some true)) c.digest_or-digest.ensures, refl);
}
