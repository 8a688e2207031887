use Rattle.std.proofs.lemmas.Result.{err_from_is_err_and}
use Rattle.cnb_build.proofs.BuildSteps.{read_done, read_refused}
use Rattle.cnb_build.proofs.reading.read_document.Goals as goal

pub returns-in_err-found : goal.returns-in_err-found
returns-in_err-found g c =
    let exit = err_from_is_err_and c.from_residual.result c.from_residual.ensures.1 in
    rw (exit.1, exit.2) (record {
      step = read_refused g.W.World _ _ _ c.in_err-found.field-0.0 _ _
          c.in_err-found.ensures.reads c.in_err-found.ensures.leaves
          c.in_err-found.ensures.blames c.in_err-found.ensures.misused;
    })

pub returns : goal.returns
returns g c =
    record {
      step = read_done g.W.World _ _ _ c.in_ok-found.found _ _ c.in_ok-found.ensures.reads
          c.in_ok-found.ensures.leaves c.in_ok-found.ensures.misused;
    }
