use Rattle.std.proofs.Common.{◌≡◌, ◌<◌, sym, subst, rules, IsTrue, ℕ, List, length}
use Rattle.cnb_world.specs.Path.{beside, is_part}
use Rattle.cnb_env.specs.Buildpack.{plan_name_of}
use Rattle.cnb_env.proofs.PlanNameLemmas.{plan_beside_is_part, plan_name_is_part, plan_name_long}
use Rattle.cnb_env.proofs.buildpack.plan_name.Goals as goal

pub returns-clause-part : goal.returns-clause-part
returns-clause-part c =
    let is : c.from_string.result ≡ plan_name_of c.args.key.now = search rules in
    subst (λ (name : List ℕ). IsTrue (is_part name)) (sym is)
    (plan_name_is_part c.args.key.now c.as_str-id.ensures.is_id c.as_str-version.ensures.is_version
    c.in_ok-folder.ensures.part c.as_str-version.ensures.is_part)

pub returns-clause-beside : goal.returns-clause-beside
returns-clause-beside c =
    let is : c.from_string.result ≡ plan_name_of c.args.key.now = search rules in
    subst (λ (name : List ℕ). IsTrue (is_part (beside name))) (sym is)
    (plan_beside_is_part c.args.key.now c.as_str-id.ensures.is_id c.as_str-version.ensures.is_version
    c.in_ok-folder.ensures.part c.as_str-version.ensures.is_part)

pub returns-clause-long : goal.returns-clause-long
returns-clause-long c =
    let is : c.from_string.result ≡ plan_name_of c.args.key.now = search rules in
    subst (λ (name : List ℕ). 1 < length name) (sym is) (plan_name_long c.args.key.now)
