use Rattle.std.proofs.Common.{◌++◌, Ok, ap, refl}
use Rattle.std.proofs.lemmas.Result.{err_from_is_err_and}
use Rattle.tree_store.proofs.Written.{added_none, added_stop, added_then, leaves_local, leaves_memory, leaves_stop}
use Rattle.tree_store.proofs.Written.{leaves_then, written_held}
use Rattle.tree_store.proofs.writing.Writer.add.Goals as goal

pub returns-in_err-make_room-clause-leaves : goal.returns-in_err-make_room-clause-leaves
returns-in_err-make_room-clause-leaves g c = λ path.
    let exit = err_from_is_err_and c.from_residual.result c.from_residual.ensures.1 in
    rw (exit.1, exit.2) (leaves_stop (c.in_err-make_room.ensures.leaves path))

pub returns-in_err-make_room-clause-adds : goal.returns-in_err-make_room-clause-adds
returns-in_err-make_room-clause-adds g c = λ path.
    let exit = err_from_is_err_and c.from_residual.result c.from_residual.ensures.1 in
    rw (exit.1, exit.2) (record {
      so = λ store before bytes h apart. added_stop (λ free. free)
          ((c.in_err-make_room.ensures.adds path).so store before bytes h apart);
    })

pub returns-in_err-hold-clause-leaves : goal.returns-in_err-hold-clause-leaves
returns-in_err-hold-clause-leaves g c = λ path.
    let exit = err_from_is_err_and c.from_residual-in_err-hold.result c.from_residual-in_err-hold.ensures.1 in
    rw (exit.1, exit.2) (leaves_then (c.in_ok-make_room.ensures.leaves path)
    (leaves_memory path _ _ _ (ap g.T.Target.state c.hold.ensures.stays)))

pub returns-in_err-hold-clause-adds : goal.returns-in_err-hold-clause-adds
returns-in_err-hold-clause-adds g c = λ path.
    let exit = err_from_is_err_and c.from_residual-in_err-hold.result c.from_residual-in_err-hold.ensures.1 in
    rw (exit.1, exit.2) (record {
      so = λ store before bytes h apart. added_then
          ((c.in_ok-make_room.ensures.adds path).so store before bytes h apart)
          (λ more is held. added_none refl refl);
    })

pub returns-clause-leaves : goal.returns-clause-leaves
returns-clause-leaves g c = λ path. leaves_then (c.in_ok-make_room.ensures.leaves path)
    (leaves_local path _ _ _ (Ok tt) (ap g.T.Target.state c.hold.ensures.stays) (λ n. refl))

pub returns-clause-adds : goal.returns-clause-adds
returns-clause-adds g c = λ path. record {
  so = λ store before bytes h apart. added_then ((c.in_ok-make_room.ensures.adds path).so store before bytes h apart)
      (λ more is held. record {
        added = (
          c.args.bytes.now,
          ap (λ m. m ++ c.args.bytes.now) is,
          written_held store
              (bytes ++ more) c.args.bytes.now before _ _ _ (ap g.T.Target.state c.hold.ensures.stays)
              c.in_ok-hold.ensures.holds
              c.hold.ensures.hashed held,
        );
        refused = tt;
        right = refl;
      });
}
