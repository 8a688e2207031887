use Rattle.std.proofs.lemmas.Result.{err_from_is_err_and}
use Rattle.std.proofs.Common.{List, Option}
use Rattle.cnb_env.specs.Layers.{IsOfSets, are_fit_sets, build_env}
use Rattle.cnb_env.specs.declared.files.EnvFile.{EnvFile}
use Rattle.cnb_env.specs.declared.layers.Phase.TheVariants.{Build}
use Rattle.cnb_build.proofs.BuildSteps.{read_done, read_refused, reads_same}
use Rattle.cnb_build.proofs.running.environment.Goals as goal

pub returns-in_err-env : goal.returns-in_err-env
returns-in_err-env g c =
    let exit = err_from_is_err_and c.from_residual.result c.from_residual.ensures.1 in
    rw (exit.1, exit.2) (record {
      step = reads_same (λ (chosen : Option (List EnvFile)). IsOfSets c.args.done.now)
          (λ chosen files. are_fit_sets Build files c.args.done.now)
          (λ chosen files. build_env c.args.done.now chosen c.args.base.now files) _ _ _ _ _
          c.files_for-files.ensures (read_refused g.W.World _ _ _ c.in_err-env.field-0.0 _ _
          c.in_err-env.ensures.reads c.in_err-env.ensures.leaves
          c.in_err-env.ensures.blames c.in_err-env.ensures.misused);
    })

pub returns : goal.returns
returns g c =
    record {
      step = reads_same (λ (chosen : Option (List EnvFile)). IsOfSets c.args.done.now)
          (λ chosen files. are_fit_sets Build files c.args.done.now)
          (λ chosen files. build_env c.args.done.now chosen c.args.base.now files) _ _ _ _ _
          c.files_for-files.ensures (read_done g.W.World _ _ _ c.in_ok-env.env _ _ c.in_ok-env.ensures.reads
          c.in_ok-env.ensures.leaves c.in_ok-env.ensures.misused);
    }
