use Rattle.std.proofs.lemmas.Result.{err_from_is_err_and}
use Rattle.steps.proofs.StepLemmas.{ended, mapped, mapped_fault, went}
use Rattle.store_prune.specs.Verifies.{verifies}
use Rattle.store_prune.proofs.VerifyLaws.{verified_so}
use Rattle.store_prune.proofs.verifying.verify.Goals as goal

pub returns-in_err-image-clause-steps : goal.returns-in_err-image-clause-steps
unfolding verifies
returns-in_err-image-clause-steps g c =
    let exit = err_from_is_err_and c.from_residual.result c.from_residual.ensures.1 in
    rw (exit.1, exit.2) (ended _ _ _ _ _ (mapped_fault _ _ _ _ _ c.in_err-image.ensures.step))

pub returns-clause-steps : goal.returns-clause-steps
unfolding verifies
returns-clause-steps g c = went _ _ _ _ _ _ _ (mapped _ _ _ _ _ c.in_ok-image.ensures.step) c.check_image.ensures.steps

pub returns-clause-exactly : goal.returns-clause-exactly
returns-clause-exactly g c = verified_so c.args.store.now c.args.image.now _ _ _ (returns-clause-steps g c)

pub returns-in_err-image-clause-exactly : goal.returns-in_err-image-clause-exactly
returns-in_err-image-clause-exactly g c = verified_so c.args.store.now c.args.image.now _ _ _
    (returns-in_err-image-clause-steps g c)
