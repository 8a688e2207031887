-- What each call of a build on the outside keeps to, builds keep to.
use Rattle.std.proofs.Common.{◌≡◌, subst, ℕ, Bool, true, false, List, [], ◌∷◌, None, Some, Result, Ok, Err, inl, inr}
use Rattle.std.specs.List.{list_all}
use Rattle.std.proofs.lemmas.Bool.{and_parts}
use Rattle.cnb_words.specs.declared.build.BuildWords.{BuildWords}
use Rattle.cnb_world.specs.Tree.{Tree}
use Rattle.cnb_world.specs.declared.child.ChildJob.{ChildJob}
use Rattle.cnb_world.specs.declared.env.Variable.{Variable}
use Rattle.cnb_toml.specs.declared.fault.DocFault.{DocFault}
use Rattle.cnb_env.specs.Files.{is_absent}
use Rattle.run_docs.specs.Build.{build_in}
use Rattle.run_docs.specs.Group.{group_in}
use Rattle.run_docs.specs.Launch.{launch_in}
use Rattle.run_docs.specs.Plan.{plan_in}
use Rattle.run_docs.specs.Store.{store_in}
use Rattle.run_docs.specs.declared.group.GroupRow.{GroupRow}
use Rattle.run_docs.specs.declared.plan.PlanEntry.{PlanEntry}
use Rattle.steps.specs.Each.{for_each}
use Rattle.steps.specs.Outside.{Seen}
use Rattle.steps.specs.Steps.{◌>>=◌, gives, makes_folder, reads, runs_child, writes}
use Rattle.steps.proofs.EndLaws.{Links, Obeys, Relation, Rests, obeys_bind, obeys_each, obeys_gives, obeys_yields}
use Rattle.cnb_build.specs.declared.fault.BuildFault.{BuildFault}
use Rattle.cnb_build.specs.declared.frame.BuildFrame.{BuildFrame}
use Rattle.cnb_build.specs.declared.frame.Built.{Built}
use Rattle.cnb_build.specs.declared.places.Places.{Places}
use Rattle.cnb_build.specs.Builds.{builds, builds_at, builds_one, closes, ends_build, nothing_built, prepares}
use Rattle.cnb_build.specs.Builds.{reads_left, runs_build}
use Rattle.cnb_build.specs.Command.{commands_build}
use Rattle.cnb_build.specs.Descriptor.{reads_descriptor}
use Rattle.cnb_build.specs.Given.{reads_given, reads_needed}
use Rattle.cnb_build.specs.Layers.{names_if, reads_layer, reads_layers, reads_names}
use Rattle.cnb_build.specs.Places.{places_of}
use Rattle.cnb_build.specs.Reading.{reads_as}
use Rattle.cnb_build.specs.Refusals.{cause_of}

was_given : {A : Type 0} (a b : A) → (let r : Result A BuildFault = Ok a in r) ≡ Ok b → a ≡ b
was_given a b h = cc

module _ (R : Relation Seen) (links : Links R) (rests : Rests R)
    (read : (A : Type 0) (Among : List ℕ → Type 0) (fits : Tree → Bool) (want : Tree → Result A BuildFault)
    → Obeys R cause_of (reads cause_of Among fits want)) where
  -- a value that is known, and what is done with it
  known_obeys : {A B : Type 0} (value : A) (next : A → Seen → Result B BuildFault → Seen → Type 0)
      → Obeys R cause_of (next value) → Obeys R cause_of (gives cause_of (Ok value) >>= next)
  unfolding ◌>>=◌ gives
  known_obeys value next p old new (Ok result) (a, mid, given, later) =
      links None old mid new (obeys_gives R cause_of (Ok value) rests old mid (Ok a) given)
      (subst (λ v. Obeys R cause_of (next v)) (was_given value a given.1) p mid new (Ok result) later)
  known_obeys value next p old new (Err fault) (inl given) = obeys_gives R cause_of (Ok value) rests old new
      (Err fault) given
  known_obeys value next p old new (Err fault) (inr (a, mid, given, later)) =
      links (Some (cause_of fault)) old mid new (obeys_gives R cause_of (Ok value) rests old mid (Ok a) given)
      (subst (λ v. Obeys R cause_of (next v)) (was_given value a given.1) p mid new (Err fault) later)

  descriptor_obeys : (at : List ℕ) → Obeys R cause_of (reads_descriptor at)
  unfolding reads_descriptor
  descriptor_obeys at = obeys_bind R cause_of _ _ links (read _ _ _ _) (λ found. obeys_gives R cause_of _ rests)

  needed_obeys : {A : Type 0} (form : List ℕ → Result A DocFault) (at : List ℕ)
      → Obeys R cause_of (reads_needed form at)
  unfolding reads_needed
  needed_obeys form at = obeys_bind R cause_of _ _ links (read _ _ _ _) (λ found. obeys_gives R cause_of _ rests)

  given_obeys : (options : BuildWords) (env : List Variable) → Obeys R cause_of (reads_given options env)
  unfolding reads_given
  given_obeys options env =
      obeys_bind R cause_of _ _ links (obeys_gives R cause_of _ rests)
      (λ documents. obeys_bind R cause_of _ _ links (needed_obeys group_in documents.group)
      (λ group. obeys_bind R cause_of _ _ links (obeys_gives R cause_of _ rests)
      (λ known. obeys_bind R cause_of _ _ links (needed_obeys plan_in documents.plan)
      (λ plan. obeys_bind R cause_of _ _ links (read _ _ _ _)
      (λ target. obeys_bind R cause_of _ _ links (read _ _ _ _) (λ files. obeys_gives R cause_of _ rests))))))

  as_obeys : {A : Type 0} (form : List ℕ → Result A DocFault) (at : List ℕ) → Obeys R cause_of (reads_as form at)
  unfolding reads_as
  as_obeys form at = obeys_bind R cause_of _ _ links (read _ _ _ _) (λ found. obeys_gives R cause_of _ rests)

  names_if_obeys : (folder : List ℕ) (absent : Bool) → Obeys R cause_of (names_if folder absent)
  names_if_obeys folder true = obeys_yields R cause_of [] rests
  names_if_obeys folder false = read _ _ _ _

  names_obeys : (folder : List ℕ) → Obeys R cause_of (reads_names folder)
  unfolding reads_names
  names_obeys folder = obeys_bind R cause_of _ _ links (read _ _ _ _) (λ kind. names_if_obeys folder (is_absent kind))

  layer_obeys : (folder layer : List ℕ) (found : List (List ℕ)) → Obeys R cause_of (reads_layer folder layer found)
  unfolding reads_layer
  layer_obeys folder layer found = obeys_bind R cause_of _ _ links (read _ _ _ _)
      (λ document. obeys_gives R cause_of _ rests)

  layers_obeys : (folder : List ℕ) → Obeys R cause_of (reads_layers folder)
  unfolding reads_layers
  layers_obeys folder =
      obeys_bind R cause_of _ _ links (names_obeys folder)
      (λ names. obeys_bind R cause_of _ _ links (obeys_gives R cause_of _ rests)
      (λ layers. obeys_each R cause_of _ links rests (layer_obeys folder) layers []))

  closed_obeys : (row : GroupRow) (places : Places) (pending : List PlanEntry)
      → Obeys R cause_of (closes row places pending)
  unfolding closes
  closed_obeys row places pending = obeys_bind R cause_of _ _ links (as_obeys build_in places.unmet)
      (λ unmet. obeys_gives R cause_of _ rests)

  left_obeys : (places : Places) → Obeys R cause_of (reads_left places)
  unfolding reads_left
  left_obeys places =
      obeys_bind R cause_of _ _ links (as_obeys launch_in places.launch)
      (λ launch. obeys_bind R cause_of _ _ links (as_obeys store_in places.store)
      (λ store. layers_obeys places.layers))

  end_obeys : (row : GroupRow) (places : Places) (built : Built) → Obeys R cause_of (ends_build row places built)
  unfolding ends_build
  end_obeys row places built =
      obeys_bind R cause_of _ _ links (closed_obeys row places built.pending)
      (λ pending. obeys_bind R cause_of _ _ links (left_obeys places)
      (λ layers. obeys_gives R cause_of _ rests))

  module _ (run : (job : ChildJob) → Obeys R cause_of (runs_child cause_of job)) where
    run_obeys : (frame : BuildFrame) (base : List Variable) (row : GroupRow) (places : Places) (clear_env : Bool)
        (done : List (List (List ℕ))) → Obeys R cause_of (runs_build frame base row places clear_env done)
    unfolding runs_build
    run_obeys frame base row places clear_env done = obeys_bind R cause_of _ _ links (read _ _ _ _)
        (λ env. obeys_bind R cause_of _ _ links (run _) (λ end. obeys_gives R cause_of _ rests))

    module _ (frame : BuildFrame) (test : GroupRow → Bool)
        (make : (row : GroupRow) → test row ≡ true → Obeys R cause_of
        (makes_folder cause_of (places_of frame row.key).layers))
        (write : (row : GroupRow) (Says : List ℕ → Type 0) → test row ≡ true
        → Obeys R cause_of (writes cause_of (places_of frame row.key).plan Says)) where
      prepared_obeys : (row : GroupRow) (pending : List PlanEntry) → test row ≡ true
          → Obeys R cause_of (prepares row (places_of frame row.key) pending)
      unfolding prepares
      prepared_obeys row pending is =
          obeys_bind R cause_of _ _ links (descriptor_obeys (places_of frame row.key).descriptor)
          (λ clear_env. obeys_bind R cause_of _ _ links (make row is)
          (λ made. obeys_bind R cause_of _ _ links (write row _ is)
          (λ written. obeys_yields R cause_of clear_env rests)))

      at_obeys : (base : List Variable) (row : GroupRow) (built : Built) → test row ≡ true
          → Obeys R cause_of (builds_at frame base row built (places_of frame row.key))
      unfolding builds_at
      at_obeys base row built is =
          obeys_bind R cause_of _ _ links (prepared_obeys row built.pending is)
          (λ clear_env. obeys_bind R cause_of _ _ links
          (run_obeys frame base row (places_of frame row.key) clear_env built.done)
          (λ passed. end_obeys row (places_of frame row.key) built))

      one_obeys : (base : List Variable) (row : GroupRow) (built : Built) → test row ≡ true
          → Obeys R cause_of (builds_one frame base row built)
      unfolding builds_one
      one_obeys base row built is = known_obeys (places_of frame row.key) _ (at_obeys base row built is)

      rows_obey : (base : List Variable) (group : List GroupRow) (built : Built) → list_all test group ≡ true
          → Obeys R cause_of (for_each (builds_one frame base) group built)
      unfolding for_each
      rows_obey base [] built are = obeys_yields R cause_of built rests
      rows_obey base (row ∷ group) built are =
          let parts = and_parts (test row) (list_all test group) are in
          obeys_bind R cause_of _ _ links (one_obeys base row built parts.0) (λ next. rows_obey base group next parts.1)

      -- the builds of a group of which each row passes the test
      pub builds_obey : (plan : List PlanEntry) (group : List GroupRow) → list_all test group ≡ true
          → Obeys R cause_of (builds frame plan group)
      unfolding builds
      builds_obey plan group are = obeys_bind R cause_of _ _ links (obeys_gives R cause_of _ rests)
          (λ base. obeys_bind R cause_of _ _ links (rows_obey base group (nothing_built plan) are)
          (λ built. obeys_yields R cause_of tt rests))

  -- the command, where the builds do
  pub command_obeys : ((frame : BuildFrame) (plan : List PlanEntry) (group : List GroupRow)
      → Obeys R cause_of (builds frame plan group)) → (options : BuildWords) (env : List Variable)
      → Obeys R cause_of (commands_build options env)
  unfolding commands_build
  command_obeys all options env =
      obeys_bind R cause_of _ _ links (given_obeys options env)
      (λ given. obeys_bind R cause_of _ _ links (obeys_gives R cause_of _ rests)
      (λ text. obeys_bind R cause_of _ _ links (all given.frame given.plan given.group)
      (λ built. obeys_yields R cause_of text rests)))
