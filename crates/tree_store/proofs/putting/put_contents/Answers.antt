use Rattle.std.proofs.Common.{◌≡◌, arith, subst}
use Rattle.std.proofs.lemmas.Result.{err_from_is_err_and}
use Rattle.tree_store.specs.Writing.{IsPart}
use Rattle.tree_store.proofs.Descents.{parts_joined}
use Rattle.tree_store.proofs.Written.{added_as, added_stop, added_then, added_value, leaves_stop, leaves_then}
use Rattle.tree_store.proofs.Written.{leaves_value}
use Rattle.tree_store.proofs.putting.put_contents.Goals as goal

pub loop-done-init : goal.loop-done-init
loop-done-init g c =
    record {
      within = c.in_ok-done.ensures.within;
      leaves = leaves_value tt c.in_ok-done.ensures.leaves;
      puts = λ store before bytes h apart file. added_value tt (λ more part. part)
          (c.in_ok-done.ensures.puts store before bytes h apart file);
    }

pub loop-done-preserved : goal.loop-done-preserved
loop-done-preserved g c =
    record {
      within = c.in_ok-next.ensures.within;
      leaves = leaves_then c.loop-done.invariant.leaves (leaves_value tt c.in_ok-next.ensures.leaves);
      puts = λ store before bytes h apart file. added_then
          (c.loop-done.invariant.puts store before bytes h apart file)
          (λ more part held. added_value tt (λ next last. parts_joined part last)
          (c.in_ok-next.ensures.puts store before _ held apart file));
    }

pub returns-in_err-done-clause-leaves : goal.returns-in_err-done-clause-leaves
returns-in_err-done-clause-leaves g c =
    let exit = err_from_is_err_and c.from_residual.result c.from_residual.ensures.1 in
    rw (exit.1, exit.2) (leaves_stop c.in_err-done.ensures.leaves)

pub returns-in_err-done-clause-puts : goal.returns-in_err-done-clause-puts
returns-in_err-done-clause-puts g c =
    λ store before bytes h apart file.
    let exit = err_from_is_err_and c.from_residual.result c.from_residual.ensures.1 in
    rw (exit.1, exit.2) (added_stop (λ free. free) (c.in_err-done.ensures.puts store before bytes h apart file))

pub returns-in_err-next-clause-leaves : goal.returns-in_err-next-clause-leaves
returns-in_err-next-clause-leaves g c =
    let exit = err_from_is_err_and c.from_residual-in_err-next.result c.from_residual-in_err-next.ensures.1 in
    rw (exit.1, exit.2) (leaves_then c.loop-done.invariant.leaves (leaves_stop c.in_err-next.ensures.leaves))

pub returns-in_err-next-clause-puts : goal.returns-in_err-next-clause-puts
returns-in_err-next-clause-puts g c =
    λ store before bytes h apart file.
    let exit = err_from_is_err_and c.from_residual-in_err-next.result c.from_residual-in_err-next.ensures.1 in
    rw (exit.1, exit.2) (added_then (c.loop-done.invariant.puts store before bytes h apart file)
    (λ more part held. added_stop (λ free. free) (c.in_err-next.ensures.puts store before _ held apart file)))

pub returns-clause-leaves : goal.returns-clause-leaves
returns-clause-leaves g c =
    leaves_then c.loop-done.invariant.leaves c.put_end.ensures.leaves

pub returns-clause-puts : goal.returns-clause-puts
returns-clause-puts g c =
    λ store before bytes h apart file.
    let end : c.loop-done.done ≡ c.args.len = omega (arith, c.loop-done-test.false, c.loop-done.invariant.within) in
    added_then (c.loop-done.invariant.puts store before bytes h apart file)
    (λ more part held. added_as (λ done next last. parts_joined
    (subst (λ n. IsPart before c.args.path.now 0 n more) end part) last) (λ fault free. free)
    (c.put_end.ensures.puts store before _ held apart file))
