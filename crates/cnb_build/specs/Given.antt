-- What a build is given by files (platform.md, "builder").
use Rattle.std.specs.Prelude.{ℕ, List, codes, Option, Some, None, Result, Ok, Err}
use Rattle.cnb_world.specs.Path.{joined}
use Rattle.cnb_world.specs.declared.env.Variable.{Variable}
use Rattle.cnb_toml.specs.declared.fault.DocFault.{DocFault}
use Rattle.cnb_toml.specs.declared.fault.DocFault.TheVariants.{Absent}
use Rattle.cnb_toml.specs.declared.target.Target.{Target}
use Rattle.cnb_words.specs.declared.build.BuildWords.{BuildWords}
use Rattle.cnb_env.specs.Files.{IsOfFolder, is_fit_platform, platform_env, platform_files_in}
use Rattle.cnb_env.specs.declared.files.EnvFile.{EnvFile}
use Rattle.image_files.specs.Target.{analyzed_document, is_fit_target, target_at}
use Rattle.run_docs.specs.Group.{foreign_among, group_in}
use Rattle.run_docs.specs.Plan.{plan_in}
use Rattle.run_docs.specs.declared.group.GroupRow.{GroupRow}
use Rattle.steps.specs.Causes.{Only}
use Rattle.steps.specs.Outside.{Seen}
use Rattle.steps.specs.Steps.{◌>>=◌, gives}
use Rattle.cnb_build.specs.declared.fault.BuildFault.{BuildFault}
use Rattle.cnb_build.specs.declared.fault.BuildFault.TheVariants.{Api, Document}
use Rattle.cnb_build.specs.declared.frame.BuildFrame.{BuildFrame}
use Rattle.cnb_build.specs.declared.given.Documents.{Documents}
use Rattle.cnb_build.specs.declared.given.Given.{Given}
use Rattle.cnb_build.specs.Reading.{reads_document, reads_files, value_at}
use Rattle.cnb_build.specs.Refusals.{cause_of}

-- what all builds have in common
abbrev pub frame_of : BuildWords → List Variable → Option Target → List EnvFile → BuildFrame
frame_of options env target files = record {
  buildpacks = options.buildpacks;
  app = options.app;
  platform = options.platform;
  layers = options.layers;
  work = options.work;
  env = env;
  files = files;
  target = target;
}

-- the documents of a work folder
abbrev pub documents_of : List ℕ → Documents
documents_of work = record { group = joined work (codes "group.toml"); plan = joined work (codes "plan.toml") }

-- a document that must be there
abbrev pub needed : {A : Type 0} → (List ℕ → Result A DocFault) → List ℕ → Option (List ℕ) → Result A BuildFault
needed form path None = Err (Document path Absent)
needed form path (Some bytes) = value_at path (form bytes)

unfoldable pub reads_needed : {A : Type 0} → (List ℕ → Result A DocFault) → List ℕ → Seen → Result A BuildFault
    → Seen → Type 0
reads_needed form path = do
  found ← reads_document path
  gives cause_of (needed form path found)

abbrev pub known_unless : Option GroupRow → Result (Unit {0}) BuildFault
known_unless None = Ok tt
known_unless (Some row) = Err (Api row.api)

-- such a buildpack refuses the group
abbrev pub known_apis : List GroupRow → Result (Unit {0}) BuildFault
known_apis group = known_unless (foreign_among group)

-- the group and the plan are read, the target, which may be none, and the platform's environment files
unfoldable pub reads_given : BuildWords → List Variable → Seen → Result Given BuildFault → Seen → Type 0
reads_given options env = do
  documents ← gives cause_of (Ok (documents_of options.work))
  group ← reads_needed group_in documents.group
  known ← gives cause_of (known_apis group)
  plan ← reads_needed plan_in documents.plan
  target ← reads_files (Only (analyzed_document options.work)) (is_fit_target options.work) (target_at options.work)
  files ← reads_files (IsOfFolder (platform_env options.platform)) (is_fit_platform options.platform)
      (platform_files_in options.platform)
  gives cause_of (Ok (record { group = group; plan = plan; frame = frame_of options env target files }))
