use Rattle.std.proofs.lemmas.Result.{err_from_is_err_and}
use Rattle.tree_store.specs.Reading.{tree_in}
use Rattle.tree_store.proofs.Descents.{free_refuses, tree_put_of}
use Rattle.tree_store.proofs.Written.{added_as, added_stop, added_then, leaves_stop, leaves_then}
use Rattle.tree_store.proofs.putting.put_tree.Goals as goal

pub returns-in_err-add-clause-leaves : goal.returns-in_err-add-clause-leaves
returns-in_err-add-clause-leaves g c =
    let exit = err_from_is_err_and c.from_residual.result c.from_residual.ensures.1 in
    rw (exit.1, exit.2) (leaves_stop (c.in_err-add.ensures.leaves c.args.path.now))

pub returns-in_err-add-clause-puts : goal.returns-in_err-add-clause-puts
returns-in_err-add-clause-puts g c =
    let exit = err_from_is_err_and c.from_residual.result c.from_residual.ensures.1 in
    rw (exit.1, exit.2) (record {
      so = λ store before bytes h apart. added_stop
          (λ free. free_refuses before (tree_in c.args.path.now) _ free)
          ((c.in_err-add.ensures.adds c.args.path.now).so store before bytes h apart);
    })

pub returns-clause-leaves : goal.returns-clause-leaves
returns-clause-leaves g c =
    leaves_then (c.in_ok-add.ensures.leaves c.args.path.now) c.put_root.ensures.leaves

pub returns-clause-puts : goal.returns-clause-puts
returns-clause-puts g c =
    record {
      so = λ store before bytes h apart. added_then
          ((c.in_ok-add.ensures.adds c.args.path.now).so store before bytes h apart)
          (λ more is held. added_as (λ now next one. tree_put_of is one) (λ fault why. why)
          (c.put_root.ensures.puts.so store before _ held apart));
    }
