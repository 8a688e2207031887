use Rattle.std.proofs.Common.{◌∙◌, ap, length, refl, sym, List, Ok}
use Rattle.std.proofs.lemmas.Result.{err_from_is_err_and}
use Rattle.steps.proofs.StepLemmas.{ended, given, no_memory, went, within, yielded}
use Rattle.run_docs.specs.declared.plan.PlanEntry.{PlanEntry}
use Rattle.cnb_detect.specs.declared.refusal.DetectRefusal.{DetectRefusal}
use Rattle.cnb_detect.specs.declared.refusal.DetectRefusal.TheVariants.{Memory}
use Rattle.cnb_detect.specs.declared.target.TargetSource.TheVariants.{Document}
use Rattle.cnb_detect.specs.Choice.{choice_in}
use Rattle.cnb_detect.specs.Detects.{detects}
use Rattle.cnb_detect.specs.Report.{choice_text}
use Rattle.cnb_detect.proofs.OutcomeLaws.{comes_to}
use Rattle.cnb_detect.proofs.detection.detect.Goals as goal

pub returns-in_err-chosen-clause-steps : goal.returns-in_err-chosen-clause-steps
unfolding detects
returns-in_err-chosen-clause-steps g c =
    let exit = err_from_is_err_and c.from_residual.result c.from_residual.ensures.1 in
    rw (exit.1, exit.2) (ended _ _ _ _ _ c.in_err-chosen.ensures.steps)

pub returns-in_err-text-clause-steps : goal.returns-in_err-text-clause-steps
unfolding detects
returns-in_err-text-clause-steps g c =
    let exit = err_from_is_err_and c.from_residual-in_err-text.result c.from_residual-in_err-text.ensures.1 in
    rw (exit.1, exit.2) (went _ _ _ _ _ (choice_in c.in_ok-chosen.chosen) _ c.in_ok-chosen.ensures.steps
    (ended _ _ _ _ _ (no_memory _ _ _ Memory refl)))

pub returns-in_err-write_choice-clause-steps : goal.returns-in_err-write_choice-clause-steps
unfolding detects
returns-in_err-write_choice-clause-steps g c =
    let exit = err_from_is_err_and c.from_residual-in_err-write_choice.result
    c.from_residual-in_err-write_choice.ensures.1 in
    rw (exit.1, exit.2) (went _ _ _ _ _ (choice_in c.in_ok-chosen.chosen) _ c.in_ok-chosen.ensures.steps
    (went _ _ _ _ _ _ _ (given _ _ _ _ (ap Ok (sym
    (c.in_ok-text.ensures ∙ ap (λ (plan : List PlanEntry). choice_text c.in_ok-chosen.chosen.group
    (length plan)) c.as_slice.ensures)))) (ended _ _ _ _ _
    (within _ _ _ _ _ c.in_err-write_choice.ensures.step))))

pub returns-clause-steps : goal.returns-clause-steps
unfolding detects
returns-clause-steps g c =
    went _ _ _ _ _ (choice_in c.in_ok-chosen.chosen) _ c.in_ok-chosen.ensures.steps
    (went _ _ _ _ _ _ _ (given _ _ _ _ (ap Ok (sym
    (c.in_ok-text.ensures ∙ ap (λ (plan : List PlanEntry). choice_text c.in_ok-chosen.chosen.group
    (length plan)) c.as_slice.ensures)))) (went _ _ _ _ _ _ _
    (within _ _ _ _ _ c.in_ok-write_choice.ensures.step) (yielded DetectRefusal _ _)))

pub returns-in_err-chosen-clause-outcome : goal.returns-in_err-chosen-clause-outcome
returns-in_err-chosen-clause-outcome g c = comes_to Document c.args.options.now c.args.env.now
    c.as_str-work.ensures.is_path _ _ _ (returns-in_err-chosen-clause-steps g c)

pub returns-in_err-text-clause-outcome : goal.returns-in_err-text-clause-outcome
returns-in_err-text-clause-outcome g c = comes_to Document c.args.options.now c.args.env.now
    c.as_str-work.ensures.is_path _ _ _ (returns-in_err-text-clause-steps g c)

pub returns-in_err-write_choice-clause-outcome : goal.returns-in_err-write_choice-clause-outcome
returns-in_err-write_choice-clause-outcome g c = comes_to Document c.args.options.now c.args.env.now
    c.as_str-work.ensures.is_path _ _ _ (returns-in_err-write_choice-clause-steps g c)

pub returns-clause-outcome : goal.returns-clause-outcome
returns-clause-outcome g c = comes_to Document c.args.options.now c.args.env.now c.as_str-work.ensures.is_path _ _
    _ (returns-clause-steps g c)
