-- The builds of a group, in the order of work (buildpack.md, "Phase #3: Build"; platform.md, "builder").
use Rattle.std.specs.Prelude.{ℕ, ◌≡◌, ◌++◌, Bool, List, [], ◌∷◌, Result, Ok}
use Rattle.cnb_world.specs.declared.env.Variable.{Variable}
use Rattle.cnb_env.specs.Base.{base_env}
use Rattle.cnb_env.specs.Layers.{IsOfSets, are_fit_sets, build_env}
use Rattle.cnb_env.specs.declared.layers.Phase.TheVariants.{Build}
use Rattle.run_docs.specs.Build.{build_in}
use Rattle.run_docs.specs.BuildpackPlan.{bp_plan_in}
use Rattle.run_docs.specs.Launch.{launch_in}
use Rattle.run_docs.specs.Store.{store_in}
use Rattle.run_docs.specs.declared.group.GroupRow.{GroupRow}
use Rattle.run_docs.specs.declared.plan.PlanEntry.{PlanEntry}
use Rattle.steps.specs.Each.{for_each}
use Rattle.steps.specs.Outside.{Seen}
use Rattle.steps.specs.Steps.{◌>>=◌, gives, makes_folder, runs_child, writes, yields}
use Rattle.cnb_build.specs.declared.fault.BuildFault.{BuildFault}
use Rattle.cnb_build.specs.declared.frame.BuildFrame.{BuildFrame}
use Rattle.cnb_build.specs.declared.frame.Built.{Built}
use Rattle.cnb_build.specs.declared.places.Places.{Places}
use Rattle.cnb_build.specs.Descriptor.{reads_descriptor}
use Rattle.cnb_build.specs.Job.{build_job, files_for, passed_by}
use Rattle.cnb_build.specs.Layers.{reads_layers}
use Rattle.cnb_build.specs.Places.{places_of}
use Rattle.cnb_build.specs.Plan.{pending_after, plan_for}
use Rattle.cnb_build.specs.Reading.{reads_as, reads_files}
use Rattle.cnb_build.specs.Refusals.{cause_of}

-- the descriptor is read, the folder of layers made, and the Buildpack Plan written
unfoldable pub prepares : GroupRow → Places → List PlanEntry → Seen → Result Bool BuildFault → Seen → Type 0
prepares row places pending = do
  clear_env ← reads_descriptor places.descriptor
  made ← makes_folder cause_of places.layers
  written ← writes cause_of places.plan (λ bytes. bp_plan_in bytes ≡ Ok (plan_for row.key pending))
  yields clear_env

-- its child runs, in the environment that the layers of earlier buildpacks give, and must end with 0
unfoldable pub runs_build : BuildFrame → List Variable → GroupRow → Places → Bool → List (List (List ℕ)) → Seen
    → Result (Unit {0}) BuildFault → Seen → Type 0
runs_build frame base row places clear_env done = do
  env ← reads_files (IsOfSets done) (λ files. are_fit_sets Build files done)
      (build_env done (files_for frame clear_env) base)
  end ← runs_child cause_of (build_job frame places env)
  gives cause_of (passed_by row.key end)

-- the entries of its plan are closed, but for what it left unmet
unfoldable pub closes : GroupRow → Places → List PlanEntry → Seen → Result (List PlanEntry) BuildFault → Seen → Type 0
closes row places pending = do
  unmet ← reads_as build_in places.unmet
  gives cause_of (pending_after row.key unmet pending)

-- what else it left is read
unfoldable pub reads_left : Places → Seen → Result (List (List ℕ)) BuildFault → Seen → Type 0
reads_left places = do
  launch ← reads_as launch_in places.launch
  store ← reads_as store_in places.store
  reads_layers places.layers

abbrev pub with_layers : List (List (List ℕ)) → List (List ℕ) → List PlanEntry → Built
with_layers done layers pending = record { pending = pending; done = done ++ layers ∷ [] }

-- what is done behind its child
unfoldable pub ends_build : GroupRow → Places → Built → Seen → Result Built BuildFault → Seen → Type 0
ends_build row places built = do
  pending ← closes row places built.pending
  layers ← reads_left places
  gives cause_of (Ok (with_layers built.done layers pending))

-- the build of a buildpack whose places are known
unfoldable pub builds_at : BuildFrame → List Variable → GroupRow → Built → Places → Seen → Result Built BuildFault
    → Seen → Type 0
builds_at frame base row built places = do
  clear_env ← prepares row places built.pending
  passed ← runs_build frame base row places clear_env built.done
  ends_build row places built

-- one buildpack is built, behind others
unfoldable pub builds_one : BuildFrame → List Variable → GroupRow → Built → Seen → Result Built BuildFault → Seen
    → Type 0
builds_one frame base row built = do
  places ← gives cause_of (Ok (places_of frame row.key))
  builds_at frame base row built places

-- before the first build the whole plan is pending, and no buildpack has layers
abbrev pub nothing_built : List PlanEntry → Built
nothing_built plan = record { pending = plan; done = [] }

-- the buildpacks of a group are built in order
unfoldable pub builds : BuildFrame → List PlanEntry → List GroupRow → Seen → Result (Unit {0}) BuildFault → Seen
    → Type 0
builds frame plan group = do
  base ← gives cause_of (Ok (base_env frame.env))
  built ← for_each (builds_one frame base) group (nothing_built plan)
  yields tt
