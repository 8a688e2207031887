use Rattle.std.proofs.lemmas.Result.{err_from_is_err_and}
use Rattle.steps.proofs.StepLemmas.{ended, mapped, mapped_fault, went}
use Rattle.cnb_launch.specs.Unpacking.{unpacks}
use Rattle.cnb_launch.proofs.unpacking.unpack.Goals as goal

pub returns-in_err-doc : goal.returns-in_err-doc
unfolding unpacks
returns-in_err-doc g c =
    let exit = err_from_is_err_and c.from_residual.result c.from_residual.ensures.1 in
    rw (exit.1, exit.2) (record { steps = ended _ _ _ _ _ (mapped_fault _ _ _ _ _ c.in_err-doc.ensures.step) })

pub returns : goal.returns
unfolding unpacks
returns g c =
    record { steps = went _ _ _ _ _ _ _ (mapped _ _ _ _ _ c.in_ok-doc.ensures.step) c.lay_image.ensures.steps }
