use Rattle.std.proofs.Common.{◌∙◌, ap, refl}
use Rattle.std.proofs.lemmas.Result.{err_from_is_err_and}
use Rattle.run_docs.specs.Group.{group_in}
use Rattle.run_docs.specs.Plan.{plan_in}
use Rattle.steps.proofs.StepLemmas.{ended, not_begun, went, write_refused, written_so, yielded}
use Rattle.cnb_detect.specs.declared.refusal.DetectRefusal.{DetectRefusal}
use Rattle.cnb_detect.specs.declared.refusal.DetectRefusal.TheVariants.{Memory}
use Rattle.cnb_detect.specs.Documents.{writes_choice}
use Rattle.steps.proofs.EndLaws.{write_ends}
use Rattle.cnb_detect.proofs.documents.write_choice.Goals as goal

pub returns-in_err-group_bytes : goal.returns-in_err-group_bytes
unfolding writes_choice
returns-in_err-group_bytes g c =
    let exit = err_from_is_err_and c.from_residual.result c.from_residual.ensures.1 in
    rw (exit.1, exit.2) (record { step = ended _ _ _ _ _ (not_begun _ _ _ _ Memory refl) })

pub returns-in_err-plan_bytes : goal.returns-in_err-plan_bytes
unfolding writes_choice
returns-in_err-plan_bytes g c =
    let exit = err_from_is_err_and c.from_residual-in_err-plan_bytes.result
    c.from_residual-in_err-plan_bytes.ensures.1 in
    rw (exit.1, exit.2) (record { step = ended _ _ _ _ _ (not_begun _ _ _ _ Memory refl) })

pub returns-in_err-write_document : goal.returns-in_err-write_document
unfolding writes_choice
returns-in_err-write_document g c =
    let exit = err_from_is_err_and c.from_residual-in_err-write_document.result
    c.from_residual-in_err-write_document.ensures.1 in
    rw (exit.1, exit.2) (record {
      step = ended _ _ _ _ _
          (write_refused g.W.World _ _ _ _ _ _ _ c.in_err-write_document.ensures.cause
          (ap group_in c.as_slice.ensures ∙ c.in_ok-group_bytes.ensures.reads_back c.requires.group)
          c.in_err-write_document.ensures.err c.in_err-write_document.ensures.runs
          c.in_err-write_document.ensures.misused (record {
            ends = write_ends _ _ c.in_err-write_document.ensures.cause;
            files =
                c.in_err-write_document.ensures.files;
            children = c.in_err-write_document.ensures.children;
          }));
    })

pub returns-in_err-write_document-2 : goal.returns-in_err-write_document-2
unfolding writes_choice
returns-in_err-write_document-2 g c =
    let exit = err_from_is_err_and c.from_residual-in_err-write_document-2.result
    c.from_residual-in_err-write_document-2.ensures.1 in
    rw (exit.1, exit.2) (record {
      step = went _ _ _ _ _ _ _
          (written_so g.W.World _ _ _ _ _ _ (ap group_in c.as_slice.ensures
          ∙ c.in_ok-group_bytes.ensures.reads_back c.requires.group) c.in_ok-write_document.ensures.ok
          c.in_ok-write_document.ensures.fit c.in_ok-write_document.ensures.runs
          c.in_ok-write_document.ensures.misused (record {
            ends = tt;
            files = c.in_ok-write_document.ensures.files;
            children =
                c.in_ok-write_document.ensures.children;
          })) (ended _ _ _ _ _
          (write_refused g.W.World _ _ _ _ _ _ _ c.in_err-write_document-2.ensures.cause
          (ap plan_in c.as_slice-2.ensures ∙ c.in_ok-plan_bytes.ensures.reads_back c.requires.plan)
          c.in_err-write_document-2.ensures.err c.in_err-write_document-2.ensures.runs
          c.in_err-write_document-2.ensures.misused (record {
            ends = write_ends _ _ c.in_err-write_document-2.ensures.cause;
            files =
                c.in_err-write_document-2.ensures.files;
            children = c.in_err-write_document-2.ensures.children;
          })));
    })

pub returns : goal.returns
unfolding writes_choice
returns g c = record {
  step = went _ _ _ _ _ _ _
      (written_so g.W.World _ _ _ _ _ _ (ap group_in c.as_slice.ensures
      ∙ c.in_ok-group_bytes.ensures.reads_back c.requires.group) c.in_ok-write_document.ensures.ok
      c.in_ok-write_document.ensures.fit c.in_ok-write_document.ensures.runs c.in_ok-write_document.ensures.misused
      (record {
        ends = tt;
        files = c.in_ok-write_document.ensures.files;
        children =
            c.in_ok-write_document.ensures.children;
      })) (went _ _ _ _ _ _ _
      (written_so g.W.World _ _ _ _ _ _ (ap plan_in c.as_slice-2.ensures
      ∙ c.in_ok-plan_bytes.ensures.reads_back c.requires.plan) c.in_ok-write_document-2.ensures.ok
      c.in_ok-write_document-2.ensures.fit c.in_ok-write_document-2.ensures.runs
      c.in_ok-write_document-2.ensures.misused (record {
        ends = tt;
        files = c.in_ok-write_document-2.ensures.files;
        children =
            c.in_ok-write_document-2.ensures.children;
      })) (yielded DetectRefusal _ _));
}
