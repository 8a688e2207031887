use Rattle.std.proofs.lemmas.Result.{err_from_is_err_and}
use Rattle.cnb_build.proofs.BuildSteps.{read_done, read_refused}
use Rattle.cnb_create.proofs.building.read_files.Goals as goal

pub returns-in_err-files : goal.returns-in_err-files
returns-in_err-files g c =
    let exit = err_from_is_err_and c.from_residual.result c.from_residual.ensures.1 in
    rw (exit.1, exit.2) (record {
      step = read_refused g.W.World _ _ _ c.in_err-files.field-0.0 _ _
          c.in_err-files.ensures.reads c.in_err-files.ensures.leaves c.in_err-files.ensures.blames
          c.in_err-files.ensures.misused;
    })

pub returns : goal.returns
returns g c = record {
  step = (read_done g.W.World _ _ _ c.in_ok-files.files _ _ c.in_ok-files.ensures.reads
      c.in_ok-files.ensures.leaves c.in_ok-files.ensures.misused);
}
