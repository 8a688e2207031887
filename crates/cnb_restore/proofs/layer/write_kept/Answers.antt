use Rattle.std.proofs.Common.{refl, subst, sym}
use Rattle.std.proofs.lemmas.Result.{err_from_is_err_and}
use Rattle.steps.proofs.EndLaws.{write_ends}
use Rattle.steps.proofs.StepLemmas.{not_begun, write_refused, written_so}
use Rattle.cnb_restore.specs.Layers.{ReadsAsStore, writes_store}
use Rattle.cnb_restore.specs.declared.fault.RestoreFault.TheVariants.{Memory}
use Rattle.cnb_restore.proofs.layer.write_kept.Goals as goal

pub returns-in_err-bytes : goal.returns-in_err-bytes
unfolding writes_store
returns-in_err-bytes g c =
    let exit = err_from_is_err_and c.from_residual.result c.from_residual.ensures.1 in
    rw (exit.1, exit.2) (record { step = not_begun _ _ _ _ Memory refl })

pub returns-in_err-write_document : goal.returns-in_err-write_document
unfolding writes_store
returns-in_err-write_document g c =
    let exit = err_from_is_err_and c.from_residual-in_err-write_document.result
    c.from_residual-in_err-write_document.ensures.1 in
    rw (exit.1, exit.2) (record {
      step = write_refused g.W.World _ _ _ _ _ _ _
          c.in_err-write_document.ensures.cause (subst (ReadsAsStore c.args.row.now.meta)
          (sym c.as_slice.ensures) c.in_ok-bytes.ensures) c.in_err-write_document.ensures.err
          c.in_err-write_document.ensures.runs c.in_err-write_document.ensures.misused
          (record {
            ends = write_ends _ _ c.in_err-write_document.ensures.cause;
            files =
                c.in_err-write_document.ensures.files;
            children = c.in_err-write_document.ensures.children;
          });
    })

pub returns : goal.returns
unfolding writes_store
returns g c = record {
  step = written_so g.W.World _ _ _ _ _ _
      (subst (ReadsAsStore c.args.row.now.meta) (sym c.as_slice.ensures) c.in_ok-bytes.ensures)
      c.in_ok-write_document.ensures.ok c.in_ok-write_document.ensures.fit c.in_ok-write_document.ensures.runs
      c.in_ok-write_document.ensures.misused (record {
        ends = tt;
        files = c.in_ok-write_document.ensures.files;
        children =
            c.in_ok-write_document.ensures.children;
      });
}
