use Rattle.std.proofs.Common.{◌∙◌, ap, length, refl, sym, List, Ok}
use Rattle.std.proofs.lemmas.Result.{err_from_is_err_and}
use Rattle.run_docs.specs.declared.plan.PlanEntry.{PlanEntry}
use Rattle.steps.proofs.EndLaws.{write_ends}
use Rattle.steps.proofs.StepLemmas.{ended, given, no_memory, went, write_refused, written_so, yielded}
use Rattle.cnb_detect.specs.Report.{choice_text}
use Rattle.cnb_detect.specs.declared.refusal.DetectRefusal.{DetectRefusal}
use Rattle.cnb_detect.specs.declared.refusal.DetectRefusal.TheVariants.{Memory}
use Rattle.cnb_record.specs.DetectsRecorded.{writes_recorded}
use Rattle.cnb_record.proofs.detection.write_recorded.Goals as goal

pub returns-in_err-text : goal.returns-in_err-text
unfolding writes_recorded
returns-in_err-text g c =
    let exit = err_from_is_err_and c.from_residual.result c.from_residual.ensures.1 in
    rw (exit.1, exit.2) (record { steps = ended _ _ _ _ _ (no_memory _ _ _ Memory refl) })

pub returns-in_err-write_choice : goal.returns-in_err-write_choice
unfolding writes_recorded
returns-in_err-write_choice g c =
    let exit = err_from_is_err_and c.from_residual-in_err-write_choice.result
    c.from_residual-in_err-write_choice.ensures.1 in
    rw (exit.1, exit.2) (record {
      steps = went _ _ _ _ _ _ _
          (given _ _ _ _ (ap Ok (sym (c.in_ok-text.ensures
          ∙ ap (λ (plan : List PlanEntry). choice_text c.args.found.now.chosen.group (length plan))
          c.as_slice-entries.ensures)))) (ended _ _ _ _ _ c.in_err-write_choice.ensures.step);
    })

pub returns-in_err-write_record : goal.returns-in_err-write_record
unfolding writes_recorded
returns-in_err-write_record g c =
    let exit = err_from_is_err_and c.from_residual-in_err-write_record.result
    c.from_residual-in_err-write_record.ensures.1 in
    rw (exit.1, exit.2) (record {
      steps = went _ _ _ _ _ _ _
          (given _ _ _ _ (ap Ok (sym (c.in_ok-text.ensures
          ∙ ap (λ (plan : List PlanEntry). choice_text c.args.found.now.chosen.group (length plan))
          c.as_slice-entries.ensures)))) (went _ _ _ _ _ _ _ c.in_ok-write_choice.ensures.step
          (ended _ _ _ _ _ (write_refused g.W.World _ _ _ _ _ _ _ c.in_err-write_record.ensures.cause
          c.as_slice.ensures c.in_err-write_record.ensures.err c.in_err-write_record.ensures.runs
          c.in_err-write_record.ensures.misused (record {
            ends = write_ends _ _ c.in_err-write_record.ensures.cause;
            files = c.in_err-write_record.ensures.files;
            children = c.in_err-write_record.ensures.children;
          }))));
    })

pub returns : goal.returns
unfolding writes_recorded
returns g c =
    record {
      steps = went _ _ _ _ _ _ _ (given _ _ _ _
          (ap Ok (sym (c.in_ok-text.ensures ∙ ap (λ (plan : List PlanEntry). choice_text
          c.args.found.now.chosen.group (length plan)) c.as_slice-entries.ensures))))
          (went _ _ _ _ _ _ _ c.in_ok-write_choice.ensures.step
          (went _ _ _ _ _ _ _ (written_so g.W.World _ _ _ _ _ _ c.as_slice.ensures c.in_ok-write_record.ensures.ok
          c.in_ok-write_record.ensures.fit c.in_ok-write_record.ensures.runs c.in_ok-write_record.ensures.misused
          (record {
            ends = tt;
            files = c.in_ok-write_record.ensures.files;
            children =
                c.in_ok-write_record.ensures.children;
          })) (yielded DetectRefusal _ _)));
    }
