-- Where the files of a buildpack's build stand.
use Rattle.std.specs.Prelude.{ℕ, ◌≡◌, ◌≤◌, false, IsTrue, List, codes, length}
use Rattle.cnb_world.specs.Path.{beside, is_path, joined}
use Rattle.cnb_world.specs.Tree.{is_root}
use Rattle.cnb_toml.specs.declared.names.Key.{Key}
use Rattle.cnb_env.specs.Base.{is_named_target}
use Rattle.cnb_env.specs.Buildpack.{buildpack_folder, plan_name_of}
use Rattle.layer_paths.specs.Paths.{layers_folder}
use Rattle.cnb_build.specs.declared.frame.BuildFrame.{BuildFrame}
use Rattle.cnb_build.specs.declared.places.Left.{Left}
use Rattle.cnb_build.specs.declared.places.Places.{Places}

-- the file of its Buildpack Plan
abbrev pub buildpack_plan_path : BuildFrame → Key → List ℕ
buildpack_plan_path frame key = joined (joined frame.work (codes "plans")) (plan_name_of key)

-- the documents that a child may leave in a folder of layers
abbrev pub left_in : List ℕ → Left
left_in layers = record {
  unmet = joined layers (codes "build.toml");
  launch = joined layers
      (codes "launch.toml");
  store = joined layers (codes "store.toml");
}

abbrev pub places_of : BuildFrame → Key → Places
places_of frame key = record {
  buildpack = buildpack_folder frame.buildpacks key;
  descriptor = joined (buildpack_folder frame.buildpacks key) (codes "buildpack.toml");
  layers = layers_folder frame.layers key.id;
  plan = buildpack_plan_path frame key;
  unmet = joined (layers_folder frame.layers key.id) (codes "build.toml");
  launch = joined (layers_folder frame.layers key.id) (codes "launch.toml");
  store = joined (layers_folder frame.layers key.id) (codes "store.toml");
}

-- the folders of a frame have at most 4,096 bytes, and the texts of its target are names
pub record KeepsLimits (frame : BuildFrame) : Type 0 where
  pub buildpacks : length frame.buildpacks ≤ 4096
  pub app : length frame.app ≤ 4096
  pub platform : length frame.platform ≤ 4096
  pub layers : length frame.layers ≤ 4096
  pub work : length frame.work ≤ 4096
  pub target : IsTrue (is_named_target frame.target)

-- there is room for what stands in the folders, and a file can be written at the plan's path
pub record HasRoom (places : Places) : Type 0 where
  pub buildpack : length places.buildpack ≤ 8192
  pub layers : length places.layers ≤ 4352
  pub beside : IsTrue (is_path (beside places.plan))
  pub not_root : is_root places.plan ≡ false
