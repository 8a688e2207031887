-- The detect child of a buildpack (buildpack.md, "Detection"; platform.md, "Environment").
use Rattle.std.specs.Prelude.{ℕ, List, codes, if◌then◌else◌}
use Rattle.cnb_world.specs.declared.child.DetectJob.{DetectJob}
use Rattle.cnb_world.specs.declared.env.Variable.{Variable}
use Rattle.cnb_world.specs.Env.{with_value}
use Rattle.cnb_world.specs.Path.{joined}
use Rattle.cnb_toml.specs.declared.names.Key.{Key}
use Rattle.cnb_env.specs.Base.{base_env, with_target}
use Rattle.cnb_env.specs.Buildpack.{buildpack_folder, plan_name_of}
use Rattle.cnb_env.specs.Platform.{with_files}
use Rattle.order_expand.specs.declared.member.Member.{Member}
use Rattle.detect_core.specs.declared.chosen.DetectFrame.{DetectFrame}

-- where its child writes a Build Plan
abbrev pub build_plan_path : List ℕ → Key → List ℕ
build_plan_path work key = joined (joined work (codes "detect")) (plan_name_of key)

-- the handed-in environment, and the platform's files unless the buildpack clears them
abbrev pub given_env : DetectFrame → Member → List Variable
given_env frame member = if member.clear_env then base_env frame.env else with_files frame.files (base_env frame.env)

-- the same, the target, and the lifecycle's own variables
abbrev pub detect_env : DetectFrame → Member → List Variable
detect_env frame member =
    with_value (codes "CNB_BUILD_PLAN_PATH") (build_plan_path frame.work member.key)
    (with_value (codes "CNB_PLATFORM_DIR") frame.platform
    (with_value (codes "CNB_BUILDPACK_DIR") (buildpack_folder frame.buildpacks member.key)
    (with_target frame.target (given_env frame member))))

abbrev pub detect_job : DetectFrame → Member → DetectJob
detect_job frame member = record {
  id = member.key.id;
  version = member.key.version;
  program = joined (joined (buildpack_folder frame.buildpacks member.key) (codes "bin")) (codes "detect");
  platform = frame.platform;
  plan = build_plan_path frame.work member.key;
  env = detect_env frame member;
  dir = frame.app;
}
