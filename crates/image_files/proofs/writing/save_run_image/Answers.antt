use Rattle.std.proofs.Common.{◌∙◌, refl, subst, sym}
use Rattle.std.proofs.lemmas.Result.{err_from_is_err_and}
use Rattle.steps.proofs.EndLaws.{write_ends}
use Rattle.steps.proofs.StepLemmas.{not_begun}
use Rattle.image_files.specs.Images.{ReadsAsRunImage, writes_run_image}
use Rattle.image_files.specs.declared.fault.ImageFault.TheVariants.{Memory}
use Rattle.image_files.proofs.WriteLemmas.{refused_at, saved_at}
use Rattle.image_files.proofs.writing.save_run_image.Goals as goal

pub returns-in_err-bytes : goal.returns-in_err-bytes
unfolding writes_run_image
returns-in_err-bytes g c =
    let exit = err_from_is_err_and c.from_residual.result c.from_residual.ensures.1 in
    rw (exit.1, exit.2) (record { step = not_begun _ _ _ _ Memory refl })

pub returns-in_err-folder : goal.returns-in_err-folder
unfolding writes_run_image
returns-in_err-folder g c =
    let exit = err_from_is_err_and c.from_residual-in_err-folder.result c.from_residual-in_err-folder.ensures.1 in
    rw (exit.1, exit.2) (record { step = not_begun _ _ _ _ Memory refl })

pub returns-in_err-document : goal.returns-in_err-document
unfolding writes_run_image
returns-in_err-document g c =
    let exit = err_from_is_err_and c.from_residual-in_err-document.result c.from_residual-in_err-document.ensures.1 in
    rw (exit.1, exit.2) (record { step = not_begun _ _ _ _ Memory refl })

pub returns-in_err-write_document : goal.returns-in_err-write_document
unfolding writes_run_image
returns-in_err-write_document g c =
    let exit = err_from_is_err_and c.from_residual-in_err-write_document.result
    c.from_residual-in_err-write_document.ensures.1 in
    rw (exit.1, exit.2) (record {
      step = refused_at g.W.World _ _ _ _
          (ReadsAsRunImage c.args.image.now) _ _ c.in_ok-folder.ensures.path
          (c.as_str.ensures ∙ c.in_ok-document.ensures.name) _ _
          (subst (ReadsAsRunImage c.args.image.now) (sym c.as_slice.ensures) c.in_ok-bytes.ensures)
          c.in_err-write_document.ensures.cause c.in_err-write_document.ensures.err
          c.in_err-write_document.ensures.runs c.in_err-write_document.ensures.misused
          (record {
            ends = write_ends _ _ c.in_err-write_document.ensures.cause;
            files =
                c.in_err-write_document.ensures.files;
            children = c.in_err-write_document.ensures.children;
          });
    })

pub returns : goal.returns
unfolding writes_run_image
returns g c = record {
  step =
      saved_at g.W.World _ _ _ _ (ReadsAsRunImage c.args.image.now) _ _ c.in_ok-folder.ensures.path
      (c.as_str.ensures ∙ c.in_ok-document.ensures.name) _
      (subst (ReadsAsRunImage c.args.image.now) (sym c.as_slice.ensures) c.in_ok-bytes.ensures)
      c.in_ok-write_document.ensures.ok c.in_ok-write_document.ensures.fit c.in_ok-write_document.ensures.runs
      c.in_ok-write_document.ensures.misused (record {
        ends = tt;
        files = c.in_ok-write_document.ensures.files;
        children =
            c.in_ok-write_document.ensures.children;
      });
}
