use Rattle.std.proofs.lemmas.Result.{err_from_is_err_and}
use Rattle.cnb_build.proofs.BuildSteps.{read_done, read_refused}
use Rattle.cnb_build.proofs.PlaceLemmas.{named_so}
use Rattle.cnb_build.proofs.given.read_target.Goals as goal

pub returns-in_err-target-clause-step : goal.returns-in_err-target-clause-step
returns-in_err-target-clause-step g c =
    let exit = err_from_is_err_and c.from_residual.result c.from_residual.ensures.1 in
    rw (exit.1, exit.2) (read_refused g.W.World _ _ _ c.in_err-target.field-0.0 _ _ c.in_err-target.ensures.reads
    c.in_err-target.ensures.leaves c.in_err-target.ensures.blames c.in_err-target.ensures.misused)

pub returns-clause-step : goal.returns-clause-step
returns-clause-step g c =
    read_done g.W.World _ _ _ c.in_ok-target.target _ _ c.in_ok-target.ensures.reads c.in_ok-target.ensures.leaves
    c.in_ok-target.ensures.misused

pub returns-clause-named : goal.returns-clause-named
returns-clause-named g c = named_so c.in_ok-target.target c.in_ok-target.ensures.named
