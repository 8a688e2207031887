use Rattle.std.proofs.Common.{Err, [], refl}
use Rattle.std.proofs.lemmas.Result.{err_from_is_err_and}
use Rattle.tree_store.proofs.Written.{added_none, leaves_at, written_on}
use Rattle.tree_store.proofs.writing.Writer.flush.Goals as goal

pub returns-in_err-append-clause-leaves : goal.returns-in_err-append-clause-leaves
returns-in_err-append-clause-leaves g c = λ path.
    let exit = err_from_is_err_and c.from_residual.result c.from_residual.ensures.1 in
    rw (exit.1, exit.2) (leaves_at _ _ {r = Err _} (c.in_err-append.ensures.leaves path))

pub returns-in_err-append-clause-adds : goal.returns-in_err-append-clause-adds
returns-in_err-append-clause-adds g c = λ path.
    let exit = err_from_is_err_and c.from_residual.result c.from_residual.ensures.1 in
    rw (exit.1, exit.2) (record {
      so = λ store before bytes h apart. added_none c.in_err-append.ensures.free
          (c.in_err-append.ensures.adds store before h.first h.gone).1;
    })

pub returns-clause-leaves : goal.returns-clause-leaves
returns-clause-leaves g c = λ path. leaves_at _ _ (c.in_ok-append.ensures.leaves path)

pub returns-clause-adds : goal.returns-clause-adds
returns-clause-adds g c = λ path. record {
  so = λ store before bytes h apart. record {
    added = (
      [],
      refl,
      written_on _ _ c.as_slice.result.now refl c.clear.ensures.items c.as_slice.ensures.value
          (λ first gone. (c.in_ok-append.ensures.adds store before first gone).0) h,
    );
    refused = tt;
    right = (c.in_ok-append.ensures.adds store before h.first h.gone).1;
  };
}
