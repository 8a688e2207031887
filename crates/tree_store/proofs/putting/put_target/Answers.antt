use Rattle.std.proofs.Common.{◌∙◌, Err, refl}
use Rattle.std.proofs.lemmas.Result.{err_from_is_err_and}
use Rattle.tree_store.specs.Reading.{link_of}
use Rattle.tree_store.proofs.Descents.{free_refuses, link_put, node_bytes_as}
use Rattle.tree_store.proofs.Written.{added_stop, added_value, leaves_local, leaves_memory, leaves_stop, leaves_value}
use Rattle.tree_store.proofs.putting.put_target.Goals as goal

pub returns-in_err-size-clause-leaves : goal.returns-in_err-size-clause-leaves
returns-in_err-size-clause-leaves g c =
    let exit = err_from_is_err_and c.from_residual.result c.from_residual.ensures.1 in
    rw (exit.1, exit.2) (leaves_local c.args.path.now _ _ _ (Err _) refl c.in_err-size.ensures.counts)

pub returns-in_err-bytes-clause-leaves : goal.returns-in_err-bytes-clause-leaves
returns-in_err-bytes-clause-leaves g c =
    let exit = err_from_is_err_and c.from_residual-in_err-bytes.result c.from_residual-in_err-bytes.ensures.1 in
    rw (exit.1, exit.2) (leaves_memory c.args.path.now _ _ _ refl)

pub returns-in_err-add-clause-leaves : goal.returns-in_err-add-clause-leaves
returns-in_err-add-clause-leaves g c =
    let exit = err_from_is_err_and c.from_residual-in_err-add.result c.from_residual-in_err-add.ensures.1 in
    rw (exit.1, exit.2) (leaves_stop (c.in_err-add.ensures.leaves c.args.path.now))

pub returns-in_err-add-clause-puts : goal.returns-in_err-add-clause-puts
returns-in_err-add-clause-puts g c =
    let exit = err_from_is_err_and c.from_residual-in_err-add.result c.from_residual-in_err-add.ensures.1 in
    rw (exit.1, exit.2) (record {
      so = λ store before bytes h apart. added_stop
          (λ free. free_refuses before (λ files. link_of c.args.path.now c.args.levels c.args.size
          c.args.target.now) _ free) ((c.in_err-add.ensures.adds c.args.path.now).so store before bytes h apart);
    })

pub returns-clause-leaves : goal.returns-clause-leaves
returns-clause-leaves g c =
    leaves_value _ (c.in_ok-add.ensures.leaves c.args.path.now)

pub returns-clause-puts : goal.returns-clause-puts
returns-clause-puts g c =
    record {
      so = λ store before bytes h apart. added_value _
          (λ more is. node_bytes_as (is ∙ c.as_slice.ensures.value ∙ c.in_ok-bytes.ensures.bytes)
          (link_put c.args.path.now c.args.target.now c.args.levels c.args.size c.in_ok-size.size
          c.in_ok-size.ensures.reads c.in_ok-size.ensures.fit))
          ((c.in_ok-add.ensures.adds c.args.path.now).so store before bytes h apart);
    }
