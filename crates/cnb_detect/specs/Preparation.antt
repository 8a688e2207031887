-- What a detection is made of, by the files.
use Rattle.std.specs.Prelude.{Bool, ◌&&◌, List, Option, Result, Ok}
use Rattle.cnb_world.specs.declared.env.Variable.{Variable}
use Rattle.cnb_world.specs.Tree.{Tree}
use Rattle.cnb_words.specs.declared.choice.ChoiceWords.{ChoiceWords}
use Rattle.cnb_toml.specs.declared.target.Target.{Target}
use Rattle.doc_files.specs.Faults.{read_cause}
use Rattle.order_files.specs.Catalog.{IsOfCatalog, catalog_in, is_fit_catalog}
use Rattle.order_files.specs.OrderFile.{order_file_in, is_fit_order_file}
use Rattle.cnb_env.specs.declared.files.EnvFile.{EnvFile}
use Rattle.cnb_env.specs.Files.{IsOfFolder, platform_env, platform_files_in, is_fit_platform}
use Rattle.order_expand.specs.Check.{checked, cause_of as order_cause}
use Rattle.detect_core.specs.declared.chosen.DetectFrame.{DetectFrame}
use Rattle.steps.specs.Causes.{Only}
use Rattle.steps.specs.Outside.{Seen}
use Rattle.steps.specs.Steps.{◌>>=◌, gives, map_err, reads}
use Rattle.cnb_detect.specs.declared.preparation.Prepared.{Prepared}
use Rattle.cnb_detect.specs.declared.refusal.DetectRefusal.{DetectRefusal}
use Rattle.cnb_detect.specs.declared.target.TargetSource.{TargetSource}
use Rattle.cnb_detect.specs.Refusals.{cause_of, of_read_fault, of_order_fault}
use Rattle.cnb_detect.specs.Target.{is_fit_source, takes_target}

-- what all detect children have in common
abbrev pub frame_of : ChoiceWords → List Variable → Option Target → List EnvFile → DetectFrame
frame_of options env target files = record {
  buildpacks = options.buildpacks;
  app = options.app;
  platform = options.platform;
  work = options.work;
  env = env;
  files = files;
  target = target;
}

-- the order, the buildpacks, the check of the order, the target, the platform's files
unfoldable pub prepares : TargetSource → ChoiceWords → List Variable → Seen → Result Prepared DetectRefusal → Seen
    → Type 0
prepares source options env = do
  order ← map_err of_read_fault (reads read_cause (Only options.order) (is_fit_order_file options.order)
      (order_file_in options.order))
  catalog ← map_err of_read_fault (reads read_cause (IsOfCatalog options.buildpacks) (is_fit_catalog options.buildpacks)
      (catalog_in options.buildpacks))
  groups ← map_err of_order_fault (gives order_cause (checked catalog order))
  target ← takes_target source options.work
  files ← map_err of_read_fault (reads read_cause (IsOfFolder (platform_env options.platform))
      (is_fit_platform options.platform) (platform_files_in options.platform))
  gives cause_of (Ok (record { order = order; catalog = catalog; frame = frame_of options env target files }))

-- what stands where these steps read is of the kind that they need
abbrev pub is_fit_preparation : TargetSource → ChoiceWords → Tree → Bool
is_fit_preparation source options files =
    is_fit_order_file options.order files && is_fit_catalog options.buildpacks files
    && is_fit_source source options.work files
    && is_fit_platform options.platform files
