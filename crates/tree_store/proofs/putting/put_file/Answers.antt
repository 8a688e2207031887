use Rattle.std.proofs.Common.{◌+◌, ◌++◌, ◌∙◌, ap, refl}
use Rattle.std.proofs.lemmas.Result.{err_from_is_err_and}
use Rattle.tree_store.specs.Reading.{node_at}
use Rattle.tree_store.specs.declared.fault.StoreFault.TheVariants.{Memory}
use Rattle.tree_store.proofs.Descents.{file_put, file_refused, free_refuses, free_where, has_length, node_bytes_as}
use Rattle.tree_store.proofs.Written.{added_none, added_stop, added_then, added_value, leaves_memory, leaves_room}
use Rattle.tree_store.proofs.Written.{leaves_stop, leaves_then, leaves_value}
use Rattle.tree_store.proofs.putting.put_file.Goals as goal

pub returns-in_err-size-clause-leaves : goal.returns-in_err-size-clause-leaves
returns-in_err-size-clause-leaves g c =
    let exit = err_from_is_err_and c.from_residual.result c.from_residual.ensures.1 in
    rw (exit.1, exit.2) (leaves_room c.args.path.now _ _ (c.args.size + (10 + c.args.len)) _ c.in_err-size.ensures)

pub returns-in_err-size-clause-puts : goal.returns-in_err-size-clause-puts
returns-in_err-size-clause-puts g c =
    λ levels some most.
    let exit = err_from_is_err_and c.from_residual.result c.from_residual.ensures.1 in
    rw (exit.1, exit.2) (record {
      so = λ store before bytes h apart. added_none
          (file_refused levels c.args.size c.args.exec c.args.len _ h apart c.requires.kind some
          c.in_err-size.ensures) refl;
    })

pub returns-in_err-head-clause-leaves : goal.returns-in_err-head-clause-leaves
returns-in_err-head-clause-leaves g c =
    let exit = err_from_is_err_and c.from_residual-in_err-head.result c.from_residual-in_err-head.ensures.1 in
    rw (exit.1, exit.2) (leaves_memory c.args.path.now _ _ _ refl)

pub returns-in_err-head-clause-puts : goal.returns-in_err-head-clause-puts
returns-in_err-head-clause-puts g c =
    λ levels some most.
    let exit = err_from_is_err_and c.from_residual-in_err-head.result c.from_residual-in_err-head.ensures.1 in
    rw (exit.1, exit.2) (record {
      so = λ store before bytes h apart. added_none
          (free_refuses before (λ files. node_at levels files c.args.path.now c.args.size) Memory refl) refl;
    })

pub returns-in_err-add-clause-leaves : goal.returns-in_err-add-clause-leaves
returns-in_err-add-clause-leaves g c =
    let exit = err_from_is_err_and c.from_residual-in_err-add.result c.from_residual-in_err-add.ensures.1 in
    rw (exit.1, exit.2) (leaves_stop (c.in_err-add.ensures.leaves c.args.path.now))

pub returns-in_err-add-clause-puts : goal.returns-in_err-add-clause-puts
returns-in_err-add-clause-puts g c =
    λ levels some most.
    let exit = err_from_is_err_and c.from_residual-in_err-add.result c.from_residual-in_err-add.ensures.1 in
    rw (exit.1, exit.2) (record {
      so = λ store before bytes h apart. added_stop
          (λ free. free_refuses before (λ files. node_at levels files c.args.path.now c.args.size) _ free)
          ((c.in_err-add.ensures.adds c.args.path.now).so store before bytes h apart);
    })

pub returns-in_err-put_contents-clause-leaves : goal.returns-in_err-put_contents-clause-leaves
returns-in_err-put_contents-clause-leaves g c =
    let exit = err_from_is_err_and c.from_residual-in_err-put_contents.result
    c.from_residual-in_err-put_contents.ensures.1 in
    rw (exit.1, exit.2) (leaves_then (c.in_ok-add.ensures.leaves c.args.path.now)
    (leaves_stop c.in_err-put_contents.ensures.leaves))

pub returns-in_err-put_contents-clause-puts : goal.returns-in_err-put_contents-clause-puts
returns-in_err-put_contents-clause-puts g c =
    λ levels some most.
    let exit = err_from_is_err_and c.from_residual-in_err-put_contents.result
    c.from_residual-in_err-put_contents.ensures.1 in
    rw (exit.1, exit.2) (record {
      so = λ store before bytes h apart. added_then
          ((c.in_ok-add.ensures.adds c.args.path.now).so store before bytes h apart)
          (λ more is held. added_stop (λ free. free_where before
          (λ files. node_at levels files c.args.path.now c.args.size) _ free)
          (c.in_err-put_contents.ensures.puts store before _ held apart
          (has_length c.args.exec c.args.len h apart c.requires.kind)));
    })

pub returns-clause-leaves : goal.returns-clause-leaves
returns-clause-leaves g c =
    leaves_then (c.in_ok-add.ensures.leaves c.args.path.now) (leaves_value _ c.in_ok-put_contents.ensures.leaves)

pub returns-clause-puts : goal.returns-clause-puts
returns-clause-puts g c =
    λ levels some most. record {
      so = λ store before bytes h apart. added_then
          ((c.in_ok-add.ensures.adds c.args.path.now).so store before bytes h apart)
          (λ more is held. added_value _ (λ next part. node_bytes_as
          (ap (λ m. m ++ next) (is ∙ c.as_slice.ensures.value ∙ c.in_ok-head.ensures.bytes))
          (file_put levels c.args.size c.in_ok-size.size c.args.exec c.args.len next h apart c.requires.kind
          some most c.in_ok-size.ensures part))
          (c.in_ok-put_contents.ensures.puts store before _ held apart
          (has_length c.args.exec c.args.len h apart c.requires.kind)));
    }
