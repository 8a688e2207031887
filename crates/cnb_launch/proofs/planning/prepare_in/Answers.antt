use Rattle.std.proofs.Common.{Ok, ap, refl, sym}
use Rattle.std.specs.Option.{option_copied}
use Rattle.std.proofs.lemmas.Result.{err_from_is_err_and}
use Rattle.steps.proofs.StepLemmas.{ended, given, mapped, mapped_fault, no_memory, went}
use Rattle.cnb_launch.specs.Planning.{prepares_in}
use Rattle.cnb_launch.specs.declared.fault.LaunchFault.TheVariants.{Memory}
use Rattle.cnb_launch.proofs.PlanLemmas.{env_refused, env_step, read_step}
use Rattle.cnb_launch.proofs.planning.prepare_in.Goals as goal

pub returns-in_err-start : goal.returns-in_err-start
unfolding prepares_in
returns-in_err-start g c =
    let exit = err_from_is_err_and c.from_residual.result c.from_residual.ensures.1 in
    rw (exit.1, exit.2) (record {
      step = ended _ _ _ _ _
          (mapped_fault _ _ _ _ _ (env_refused g.W.World c.args.chosen.kind
          (option_copied c.as_ref.result) c.args.sets.now c.args.env.now _ _ _ c.as_ref.ensures.value
          c.in_err-start.ensures.reads c.in_err-start.ensures.leaves c.in_err-start.ensures.blames
          c.in_err-start.ensures.misused));
    })

pub returns-in_err-execs : goal.returns-in_err-execs
unfolding prepares_in
returns-in_err-execs g c =
    let exit = err_from_is_err_and c.from_residual-in_err-execs.result c.from_residual-in_err-execs.ensures.1 in
    rw (exit.1, exit.2) (record {
      step = went _ _ _ _ _ _ _
          (mapped _ _ _ _ _ (env_step g.W.World c.args.chosen.kind
          (option_copied c.as_ref.result) c.args.sets.now c.args.env.now
          (Ok c.in_ok-start.start) _ _ c.as_ref.ensures.value c.in_ok-start.ensures.reads
          c.in_ok-start.ensures.leaves tt c.in_ok-start.ensures.misused))
          (ended _ _ _ _ _ (mapped_fault _ _ _ _ _ (read_step g.W.World _ _ _ _ _ _ c.in_err-execs.ensures.reads
          c.in_err-execs.ensures.leaves c.in_err-execs.ensures.blames c.in_err-execs.ensures.misused)));
    })

pub returns-in_err-prepared_of : goal.returns-in_err-prepared_of
unfolding prepares_in
returns-in_err-prepared_of g c =
    let exit = err_from_is_err_and c.from_residual-in_err-prepared_of.result
    c.from_residual-in_err-prepared_of.ensures.1 in
    rw (exit.1, exit.2) (record {
      step = went _ _ _ _ _ _ _
          (mapped _ _ _ _ _ (env_step g.W.World c.args.chosen.kind
          (option_copied c.as_ref.result) c.args.sets.now c.args.env.now
          (Ok c.in_ok-start.start) _ _ c.as_ref.ensures.value c.in_ok-start.ensures.reads
          c.in_ok-start.ensures.leaves tt c.in_ok-start.ensures.misused))
          (went _ _ _ _ _ _ _ (mapped _ _ _ _ _ (read_step g.W.World _ _ _ _ _ _ c.in_ok-execs.ensures.reads
          c.in_ok-execs.ensures.leaves tt c.in_ok-execs.ensures.misused)) (no_memory _ _ _ Memory refl));
    })

pub returns : goal.returns
unfolding prepares_in
returns g c =
    record {
      step = went _ _ _ _ _ _ _ (mapped _ _ _ _ _
          (env_step g.W.World c.args.chosen.kind (option_copied c.as_ref.result) c.args.sets.now c.args.env.now
          (Ok c.in_ok-start.start) _ _ c.as_ref.ensures.value c.in_ok-start.ensures.reads
          c.in_ok-start.ensures.leaves tt c.in_ok-start.ensures.misused))
          (went _ _ _ _ _ _ _ (mapped _ _ _ _ _ (read_step g.W.World _ _ _ _ _ _ c.in_ok-execs.ensures.reads
          c.in_ok-execs.ensures.leaves tt c.in_ok-execs.ensures.misused))
          (given _ _ _ _ (sym (ap Ok c.in_ok-prepared_of.ensures))));
    }
