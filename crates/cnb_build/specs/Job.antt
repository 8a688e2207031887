-- The child that builds a buildpack (buildpack.md, "Build"; "Environment").
use Rattle.std.specs.Prelude.{Bool, false, List, [], ◌∷◌, codes, if◌then◌else◌, Option, Some, None, Result, Ok, Err}
use Rattle.cnb_world.specs.Env.{with_value}
use Rattle.cnb_world.specs.Path.{joined}
use Rattle.cnb_world.specs.Runs.{is_code}
use Rattle.cnb_world.specs.declared.child.ChildJob.{ChildJob}
use Rattle.cnb_world.specs.declared.child.End.{End}
use Rattle.cnb_world.specs.declared.env.Variable.{Variable}
use Rattle.cnb_toml.specs.declared.names.Key.{Key}
use Rattle.cnb_env.specs.Base.{with_target}
use Rattle.cnb_env.specs.declared.files.EnvFile.{EnvFile}
use Rattle.cnb_build.specs.declared.fault.BuildFault.{BuildFault}
use Rattle.cnb_build.specs.declared.fault.BuildFault.TheVariants.{BuildFailed}
use Rattle.cnb_build.specs.declared.frame.BuildFrame.{BuildFrame}
use Rattle.cnb_build.specs.declared.places.Places.{Places}

-- the platform's files, unless the buildpack clears them
abbrev pub files_for : BuildFrame → Bool → Option (List EnvFile)
files_for frame clear_env = if clear_env then None else Some frame.files

-- an environment with the variables of the target and the lifecycle's own
abbrev pub with_own : BuildFrame → Places → List Variable → List Variable
with_own frame places env =
    with_value (codes "CNB_BP_PLAN_PATH") places.plan
    (with_value (codes "CNB_LAYERS_DIR") places.layers
    (with_value (codes "CNB_PLATFORM_DIR") frame.platform
    (with_value (codes "CNB_BUILDPACK_DIR") places.buildpack
    (with_target frame.target env))))

abbrev pub build_job : BuildFrame → Places → List Variable → ChildJob
build_job frame places env = record {
  program = joined (joined places.buildpack (codes "bin")) (codes "build");
  args = places.layers ∷ frame.platform ∷ places.plan ∷ [];
  env = with_own frame places env;
  dir = frame.app;
  side = false;
}

-- the child ended with 0
abbrev pub passed_by : Key → End → Result (Unit {0}) BuildFault
passed_by key end = if is_code 0 end.code then Ok tt else Err (BuildFailed key.id end.code)
