use Rattle.std.proofs.Common.{◌∙◌, ap, not, sym, subst, IsTrue, List}
use Rattle.std.specs.List.{filter}
use Rattle.run_docs.specs.Plan.{is_plan_doc}
use Rattle.run_docs.specs.declared.plan.PlanEntry.{PlanEntry}
use Rattle.cnb_build.specs.Plan.{is_closed}
use Rattle.cnb_build.proofs.PlanLemmas.{some_pending}
use Rattle.cnb_build.proofs.plan.pending_after.Goals as goal

pub returns-clause-kept : goal.returns-clause-kept
returns-clause-kept c =
    let is = c.in_ok-kept.ensures ∙ ap (λ unmet. filter (λ entry. not (is_closed c.args.key.now unmet entry))
    c.args.pending) c.as_slice-3.ensures in
    subst (λ (entries : List PlanEntry). IsTrue (is_plan_doc entries)) (sym is)
    (some_pending c.args.key.now c.args.unmet.now c.args.pending c.requires)
