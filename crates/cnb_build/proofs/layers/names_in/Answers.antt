use Rattle.std.proofs.lemmas.Result.{err_from_is_err_and}
use Rattle.doc_files.proofs.Blame.{fails_among}
use Rattle.cnb_build.proofs.BuildSteps.{read_done, read_refused}
use Rattle.cnb_build.proofs.layers.names_in.Goals as goal

pub returns-in_err-names : goal.returns-in_err-names
returns-in_err-names g c =
    let exit = err_from_is_err_and c.from_residual.result c.from_residual.ensures.1 in
    rw (exit.1, exit.2) (record {
      step = read_refused g.W.World _ _ _ c.in_err-names.field-0.0 _ _
          c.in_err-names.ensures.reads c.in_err-names.ensures.leaves
          (fails_among _ _ (λ blamed is. is) _ c.in_err-names.ensures.blames) c.in_err-names.ensures.misused;
    })

pub returns : goal.returns
returns g c =
    record {
      step = read_done g.W.World _ _ _ c.in_ok-names.names _ _ c.in_ok-names.ensures.reads
          c.in_ok-names.ensures.leaves c.in_ok-names.ensures.misused;
    }
