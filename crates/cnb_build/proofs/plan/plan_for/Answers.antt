use Rattle.std.proofs.Common.{◌∙◌, ap, sym, subst, IsTrue, List}
use Rattle.std.proofs.lemmas.List.{take_all}
use Rattle.cnb_toml.specs.declared.meta.Need.{Need}
use Rattle.run_docs.specs.BuildpackPlan.{is_bp_plan}
use Rattle.cnb_build.specs.Plan.{plan_for}
use Rattle.cnb_build.proofs.PlanLemmas.{plan_for_kept}
use Rattle.cnb_build.proofs.plan.plan_for.Goals as goal

pub returns-clause-kept : goal.returns-clause-kept
returns-clause-kept c =
    let is = c.loop-entry.invariant ∙ ap (plan_for c.args.key.now)
    (take_all c.loop-entry.entry-index _ c.loop-entry-test.false ∙ c.as_slice-entry-items.ensures) in
    subst (λ (needs : List Need). IsTrue (is_bp_plan needs)) (sym is)
    (plan_for_kept c.args.key.now c.args.pending.now c.requires)
