use Rattle.std.proofs.Common.{◌∙◌, ap, refl, subst, sym}
use Rattle.std.proofs.lemmas.Result.{err_from_is_err_and}
use Rattle.steps.proofs.EndLaws.{write_ends}
use Rattle.steps.proofs.StepLemmas.{not_begun, write_refused, written_so}
use Rattle.cnb_world.specs.Path.{joined}
use Rattle.steps.specs.Outside.{seen}
use Rattle.cnb_restore.specs.Faults.{cause_of}
use Rattle.cnb_restore.specs.Layers.{ReadsAsLayer, writes_layer}
use Rattle.image_files.specs.Paths.{document_name}
use Rattle.cnb_restore.proofs.RestoreLemmas.{document_as}
use Rattle.cnb_restore.specs.declared.fault.RestoreFault.TheVariants.{Memory}
use Rattle.cnb_restore.proofs.layer.write_layer_document.Goals as goal

pub returns-in_err-bytes : goal.returns-in_err-bytes
unfolding writes_layer
returns-in_err-bytes g c =
    let exit = err_from_is_err_and c.from_residual.result c.from_residual.ensures.1 in
    rw (exit.1, exit.2) (record { step = not_begun _ _ _ _ Memory refl })

pub returns-in_err-name : goal.returns-in_err-name
unfolding writes_layer
returns-in_err-name g c =
    let exit = err_from_is_err_and c.from_residual-in_err-name.result c.from_residual-in_err-name.ensures.1 in
    rw (exit.1, exit.2) (record { step = not_begun _ _ _ _ Memory refl })

pub returns-in_err-write_document : goal.returns-in_err-write_document
unfolding writes_layer
returns-in_err-write_document g c =
    let exit = err_from_is_err_and c.from_residual-in_err-write_document.result
    c.from_residual-in_err-write_document.ensures.1 in
    rw (exit.1, exit.2) (record {
      step = document_as c.args.folder.now c.as_str-2.result.now
          (document_name c.args.row.now.layer) (ReadsAsLayer c.args.row.now.meta)
          (seen g.W.World c.args.world.now) _ (seen g.W.World c.write_document.new.world)
          (c.as_str-2.ensures ∙ c.in_ok-name.ensures.name ∙ ap document_name c.as_str.ensures.text)
          (write_refused g.W.World cause_of (joined c.args.folder.now c.as_str-2.result.now)
          (ReadsAsLayer c.args.row.now.meta) c.as_slice.result.now _ _ _ c.in_err-write_document.ensures.cause
          (subst (ReadsAsLayer c.args.row.now.meta) (sym c.as_slice.ensures) c.in_ok-bytes.ensures)
          c.in_err-write_document.ensures.err c.in_err-write_document.ensures.runs
          c.in_err-write_document.ensures.misused (record {
            ends = write_ends _ _ c.in_err-write_document.ensures.cause;
            files =
                c.in_err-write_document.ensures.files;
            children = c.in_err-write_document.ensures.children;
          }));
    })

pub returns : goal.returns
unfolding writes_layer
returns g c = record {
  step = document_as c.args.folder.now c.as_str-2.result.now
      (document_name c.args.row.now.layer) (ReadsAsLayer c.args.row.now.meta) (seen g.W.World c.args.world.now) _
      (seen g.W.World c.write_document.new.world) (c.as_str-2.ensures ∙ c.in_ok-name.ensures.name
      ∙ ap document_name c.as_str.ensures.text) (written_so g.W.World cause_of
      (joined c.args.folder.now c.as_str-2.result.now) (ReadsAsLayer c.args.row.now.meta) c.as_slice.result.now _ _
      (subst (ReadsAsLayer c.args.row.now.meta) (sym c.as_slice.ensures) c.in_ok-bytes.ensures)
      c.in_ok-write_document.ensures.ok c.in_ok-write_document.ensures.fit c.in_ok-write_document.ensures.runs
      c.in_ok-write_document.ensures.misused (record {
        ends = tt;
        files = c.in_ok-write_document.ensures.files;
        children =
            c.in_ok-write_document.ensures.children;
      }));
}
