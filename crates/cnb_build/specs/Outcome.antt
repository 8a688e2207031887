-- What builds come to: which children ran, what each found, and what each left for those behind it.
use Rattle.std.specs.Prelude.{ℕ, ◌≡◌, ◌&&◌, ◌++◌, true, false, Bool, List, [], ◌∷◌, length, Option, Result, Ok, Err}
use Rattle.std.specs.Prelude.{IfSome, unwrap_or}
use Rattle.std.specs.Option.{option_map}
use Rattle.cnb_world.specs.Runs.{Run, is_code}
use Rattle.cnb_world.specs.Tree.{Tree, folder_made, item_at, kind_of}
use Rattle.cnb_world.specs.Whole.{written}
use Rattle.cnb_world.specs.declared.env.Variable.{Variable}
use Rattle.cnb_toml.specs.declared.fault.DocFault.{DocFault}
use Rattle.cnb_env.specs.Base.{base_env}
use Rattle.cnb_env.specs.Contents.{contents_of}
use Rattle.cnb_env.specs.Files.{is_absent}
use Rattle.cnb_env.specs.Layers.{build_env}
use Rattle.doc_files.specs.Reading.{document_at, names_at}
use Rattle.run_docs.specs.Build.{build_in}
use Rattle.run_docs.specs.BuildpackPlan.{bp_plan_in}
use Rattle.run_docs.specs.Launch.{launch_in}
use Rattle.run_docs.specs.Store.{store_in}
use Rattle.run_docs.specs.declared.group.GroupRow.{GroupRow}
use Rattle.run_docs.specs.declared.plan.PlanEntry.{PlanEntry}
use Rattle.steps.specs.Keeping.{folder_paths, is_free, touched}
use Rattle.steps.specs.Outside.{Seen}
use Rattle.steps.specs.Results.{◌>>=◌, with_fault}
use Rattle.cnb_build.specs.declared.fault.BuildFault.{BuildFault}
use Rattle.cnb_build.specs.declared.frame.BuildFrame.{BuildFrame}
use Rattle.cnb_build.specs.declared.frame.Built.{Built}
use Rattle.cnb_build.specs.declared.places.Places.{Places}
use Rattle.cnb_build.specs.Builds.{nothing_built, with_layers}
use Rattle.cnb_build.specs.Descriptor.{clears_in}
use Rattle.cnb_build.specs.Job.{build_job, files_for}
use Rattle.layer_paths.specs.Names.{layers_among}
use Rattle.layer_paths.specs.Paths.{layer_document}
use Rattle.cnb_build.specs.Layers.{found_with}
use Rattle.cnb_build.specs.Places.{places_of}
use Rattle.cnb_build.specs.Plan.{pending_after, plan_for}
use Rattle.cnb_build.specs.Reading.{value_at}
use Rattle.cnb_build.specs.Refusals.{of_read_fault}

-- ---- what files say

-- the document at a path
abbrev pub found_at : List ℕ → Tree → Result (Option (List ℕ)) BuildFault
found_at path files = with_fault of_read_fault (document_at files path)

-- whether a component clears the platform's variables
abbrev pub clears_at : List ℕ → Tree → Result Bool BuildFault
clears_at path files = found_at path files >>= clears_in path

-- a document, which is empty where it isn't there
abbrev pub read_as : {A : Type 0} → (List ℕ → Result A DocFault) → List ℕ → Tree → Result A BuildFault
read_as form path files = found_at path files >>= (λ found. value_at path (form (unwrap_or found [])))

abbrev pub names_unless : List ℕ → Bool → Tree → Result (List (List ℕ)) BuildFault
names_unless folder true files = Ok []
names_unless folder false files = with_fault of_read_fault (names_at files folder)

-- a layer's document, behind those of others
abbrev pub layer_at : List ℕ → List ℕ → List (List ℕ) → Tree → Result (List (List ℕ)) BuildFault
layer_at folder layer found files =
    with_fault of_read_fault (contents_of (item_at files (layer_document folder layer)))
    >>= found_with folder layer found

abbrev pub layers_behind : List ℕ → List (List ℕ) → List (List ℕ) → Tree → Result (List (List ℕ)) BuildFault
layers_behind folder [] found files = Ok found
layers_behind folder (layer ∷ layers) found files = layer_at folder layer found files
    >>= (λ more. layers_behind folder layers more files)

-- the folders of the layers that are there while later buildpacks are built
abbrev pub layers_at : List ℕ → Tree → Result (List (List ℕ)) BuildFault
layers_at folder files = names_unless folder (is_absent (kind_of (item_at files folder))) files
    >>= (λ names. layers_behind folder (layers_among names) [] files)

-- what is pending behind a build, by what its child left
abbrev pub pending_at : GroupRow → Places → List PlanEntry → Tree → Result (List PlanEntry) BuildFault
pending_at row places pending files = read_as build_in places.unmet files
    >>= (λ unmet. pending_after row.key unmet pending)

-- the layers that its child left, unless another document that it left is refused
abbrev pub left_at : Places → Tree → Result (List (List ℕ)) BuildFault
left_at places files = read_as launch_in places.launch files
    >>= (λ launch. read_as store_in places.store files >>= (λ store. layers_at places.layers files))

abbrev pub built_at : GroupRow → Places → Built → Tree → Result Built BuildFault
built_at row places built files = pending_at row places built.pending files
    >>= (λ pending. left_at places files >>= (λ layers. Ok (with_layers built.done layers pending)))

-- ---- children

-- A child of the build of a buildpack, behind others. It found what stood before the build, with the folder of its
-- layers made and its plan written; its environment is made of what it found.
pub record IsRunOf (frame : BuildFrame) (base : List Variable) (row : GroupRow) (places : Places) (built : Built)
    (before : Option Tree) (run : Run) : Type 0 where
  pub clear_env : Bool
  pub plan : List ℕ
  pub env : List Variable
  pub clears : IfSome before (λ files. clears_at places.descriptor files ≡ Ok clear_env)
  pub reads : bp_plan_in plan ≡ Ok (plan_for row.key built.pending)
  pub found : run.found ≡ option_map (λ files. written places.plan plan (folder_made places.layers files)) before
  pub environment : IfSome run.found (λ files. with_fault of_read_fault
      (build_env built.done (files_for frame clear_env) base files) ≡ Ok env)
  pub job : run.job ≡ build_job frame places env

-- The children of builds, one for each of the first buildpacks in order. Each but the last ended with 0, and what it
-- left says what is pending, and which layers there are, for those behind it.
abbrev pub AreRunsOf : BuildFrame → List Variable → List GroupRow → Built → Option Tree → List Run → Type 0
AreRunsOf frame base rows built before [] = Unit {0}
AreRunsOf frame base [] built before (run ∷ runs) = ⊥
AreRunsOf frame base (row ∷ rows) built before (run ∷ []) = IsRunOf frame base row
    (places_of frame row.key) built before run
AreRunsOf frame base (row ∷ rows) built before (run ∷ more ∷ runs) =
    IsRunOf frame base row (places_of frame row.key) built before run × (is_code 0 run.end.code ≡ true)
    × (next : Built) × IfSome run.left (λ files. built_at row (places_of frame row.key) built files ≡ Ok next)
    × AreRunsOf frame base rows next run.left (more ∷ runs)

-- what the last of them left, or what stood before
abbrev pub left_by : Option Tree → List Run → Option Tree
left_by before [] = before
left_by before (run ∷ runs) = left_by run.left runs

-- where all are built, each had a child, and what the last one left stands
abbrev pub RanAll : {A : Type 0} → Result A BuildFault → List GroupRow → Option Tree → List Run → Option Tree → Type 0
RanAll (Ok done) group before runs after = (length runs ≡ length group) × (after ≡ left_by before runs)
RanAll (Err fault) group before runs after = Unit {0}

-- The children that ran besides those before.
pub record RunsBuilds (frame : BuildFrame) (plan : List PlanEntry) (group : List GroupRow) (old : Seen)
    (result : Result (Unit {0}) BuildFault) (new : Seen) : Type 0 where
  pub rows : List Run
  pub runs : new.runs ≡ old.runs ++ rows
  pub are : AreRunsOf frame (base_env frame.env) group (nothing_built plan) old.files rows
  pub all : RanAll result group old.files rows new.files

-- the build of a buildpack touches neither this path nor a folder that comes to stand there
abbrev pub spares : List ℕ → BuildFrame → GroupRow → Bool
spares path frame row = is_free (folder_paths (places_of frame row.key).layers) path
    && is_free (touched (places_of frame row.key).plan) path
