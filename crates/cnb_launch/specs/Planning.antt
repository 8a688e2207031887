-- What is run, and in which environment (platform.md, "launcher").
use Rattle.std.specs.Prelude.{ℕ, Bool, false, List, [], ◌∷◌, Option, None, Result, Ok}
use Rattle.cnb_world.specs.Tree.{Tree}
use Rattle.cnb_world.specs.declared.child.ChildJob.{ChildJob}
use Rattle.cnb_world.specs.declared.child.End.{End}
use Rattle.cnb_world.specs.declared.env.Variable.{Variable}
use Rattle.cnb_toml.specs.declared.names.Key.{Key}
use Rattle.cnb_env.specs.Layers.{IsOfSets, are_fit_launch_sets, launch_env}
use Rattle.doc_files.specs.Faults.{read_cause}
use Rattle.doc_files.specs.declared.fault.ReadFault.{ReadFault}
use Rattle.image_docs.specs.declared.launch_doc.LaunchDoc.{LaunchDoc}
use Rattle.steps.specs.Causes.{Only}
use Rattle.steps.specs.Outside.{Seen}
use Rattle.steps.specs.Steps.{◌>>=◌, gives, map_err, reads, runs_child, yields}
use Rattle.cnb_launch.specs.Choosing.{chosen_in}
use Rattle.cnb_launch.specs.Documents.{is_fit_doc, launch_doc_under}
use Rattle.cnb_launch.specs.Exec.{runs_all}
use Rattle.cnb_launch.specs.Faults.{cause_of, of_read_fault}
use Rattle.cnb_launch.specs.Folders.{IsOfFolders, all_exec_folders, all_in, are_fit, set_folders}
use Rattle.cnb_launch.specs.Places.{dir_in, launch_doc_path}
use Rattle.cnb_words.specs.declared.launch.Call.{Call}
use Rattle.cnb_launch.specs.declared.choosing.ChosenProcess.{ChosenProcess}
use Rattle.cnb_launch.specs.declared.fault.LaunchFault.{LaunchFault}
use Rattle.cnb_launch.specs.declared.folders.Wanted.TheVariants.{Folders, Files}
use Rattle.cnb_launch.specs.declared.planning.LaunchPlan.{LaunchPlan}
use Rattle.cnb_launch.specs.declared.planning.Prepared.{Prepared}

-- the layers of each buildpack, ascending
unfoldable pub sets_in : List ℕ → List Key → Tree → Result (List (List (List ℕ))) ReadFault
sets_in root keys files = all_in Folders (set_folders root keys) files

abbrev pub are_fit_layers : List ℕ → List Key → Tree → Bool
are_fit_layers root keys files = are_fit (set_folders root keys) files

-- the programs in the `exec.d` of all layers, folder by folder
unfoldable pub execs_in : Option (List ℕ) → List (List (List ℕ)) → Tree → Result (List (List (List ℕ))) ReadFault
execs_in kind sets files = all_in Files (all_exec_folders kind sets) files

abbrev pub are_fit_execs : Option (List ℕ) → List (List (List ℕ)) → Tree → Bool
are_fit_execs kind sets files = are_fit (all_exec_folders kind sets) files

abbrev pub prepared_of : List ℕ → ChosenProcess → List Variable → List (List (List ℕ)) → Prepared
prepared_of root chosen env execs = record {
  command = chosen.command;
  dir = dir_in root chosen.dir;
  workspace = dir_in root None;
  env = env;
  execs = execs;
}

-- the layers' environment files and the names of their programs, for the process that is run
unfoldable pub prepares_in : List ℕ → List Variable → ChosenProcess → List (List (List ℕ)) → Seen
    → Result Prepared LaunchFault → Seen → Type 0
prepares_in root env chosen sets = do
  start ← map_err of_read_fault (reads read_cause (IsOfSets sets)
      (λ files. are_fit_launch_sets chosen.kind files sets) (launch_env sets chosen.kind env))
  execs ← map_err of_read_fault (reads read_cause (IsOfFolders (all_exec_folders chosen.kind sets))
      (are_fit_execs chosen.kind sets) (execs_in chosen.kind sets))
  gives cause_of (Ok (prepared_of root chosen start execs))

-- the process, and the layers
unfoldable pub prepares_of : List ℕ → Call → List Variable → LaunchDoc → Seen → Result Prepared LaunchFault → Seen
    → Type 0
prepares_of root call env doc = do
  chosen ← gives cause_of (chosen_in doc call)
  sets ← map_err of_read_fault (reads read_cause (IsOfFolders (set_folders root doc.buildpacks))
      (are_fit_layers root doc.buildpacks) (sets_in root doc.buildpacks))
  prepares_in root env chosen sets

-- The document, the process, the layers, their environment files, the names of their programs: all of it is read before
-- the first program runs.
unfoldable pub prepares : List ℕ → Call → List Variable → Seen → Result Prepared LaunchFault → Seen → Type 0
prepares root call env = do
  doc ← map_err of_read_fault (reads read_cause (Only (launch_doc_path root)) (is_fit_doc root)
      (launch_doc_under root))
  prepares_of root call env doc

abbrev pub plan_of : Prepared → List Variable → LaunchPlan
plan_of prepared env = record { command = prepared.command; env = env; dir = prepared.dir }

-- what is run, behind the programs in `exec.d`
unfoldable pub plans : List ℕ → Call → List Variable → Seen → Result LaunchPlan LaunchFault → Seen → Type 0
plans root call env = do
  prepared ← prepares root call env
  ready ← runs_all prepared.workspace prepared.execs prepared.env
  yields (plan_of prepared ready)

-- the first word is the program
abbrev pub program_of : List (List ℕ) → List ℕ
program_of [] = []
program_of (program ∷ args) = program

abbrev pub args_of : List (List ℕ) → List (List ℕ)
args_of [] = []
args_of (program ∷ args) = args

abbrev pub launch_job : LaunchPlan → ChildJob
launch_job plan = record {
  program = program_of plan.command;
  args = args_of plan.command;
  env = plan.env;
  dir =
      plan.dir;
  side = false;
}

-- it is run once
unfoldable pub launches : List ℕ → Call → List Variable → Seen → Result End LaunchFault → Seen → Type 0
launches root call env = do
  plan ← plans root call env
  runs_child cause_of (launch_job plan)
