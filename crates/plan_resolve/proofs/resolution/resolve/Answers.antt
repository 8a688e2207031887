use Rattle.std.proofs.Common.{sym, ◌∙◌, ap}
use Rattle.std.specs.Prelude.{nat_lt}
use Rattle.plan_resolve.specs.Choices.{choice_count}
use Rattle.plan_resolve.specs.Resolution.{passes_or_fails, resolution, resolution_answer}
use Rattle.plan_resolve.proofs.ResolutionLemmas.{count_none, count_some, resolution_many, resolution_tried, resolves}
use Rattle.plan_resolve.proofs.resolution.resolve.Goals as goal

pub returns-in_default : goal.returns-in_default
returns-in_default c =
    let rows = c.args.alive.now in
    ap resolution_answer (resolution_many rows (count_none (nat_lt 65536 (choice_count rows)) (choice_count rows)
    (rw (c.in_default.is, c.as_slice-rows.ensures) at c.trial_count.ensures)))

pub returns-in-Ok : goal.returns-in-Ok
returns-in-Ok c =
    let rows = c.args.alive.now in
    let count = count_some (nat_lt 65536 (choice_count rows)) c.in-Some.trials (choice_count rows)
    (rw (c.in-Some.is, c.as_slice-rows.ensures) at c.trial_count.ensures) in
    let passing = rw c.as_slice-rows.ensures at c.in-Ok.ensures in
    resolves c.in-Ok.passing (resolution rows) (resolution_tried rows count.0 ∙ ap passes_or_fails (sym passing))
