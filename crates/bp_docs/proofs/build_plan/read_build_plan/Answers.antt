use Rattle.std.specs.Prelude.{IsTrue}
use Rattle.std.specs.List.{list_all}
use Rattle.cnb_toml.specs.declared.meta.Need.{Need}
use Rattle.cnb_toml.specs.Meta.{is_kept}
use Rattle.bp_docs.specs.declared.build_plan.PlanOption.{PlanOption}
use Rattle.bp_docs.specs.BuildPlan.{plan_within_limit}
use Rattle.bp_docs.proofs.BuildPlans.{answered, within_limit_kept}
use Rattle.bp_docs.proofs.build_plan.read_build_plan.Goals as goal

pub returns-clause-kept : goal.returns-clause-kept
returns-clause-kept c =
    answered c.plan_within_limit.result (plan_within_limit c.args.bytes.now)
    (λ options. IsTrue (list_all (λ (option : PlanOption). list_all
    (λ (need : Need). is_kept need.meta) option.needs) options))
    c.plan_within_limit.ensures (within_limit_kept c.args.bytes.now)
