-- What follows from the steps of builds: which children ran, and what each left.
use Rattle.std.proofs.Common.{◌≡◌, ◌∙◌, refl, sym, ap, subst, ℕ, Bool, true, false, cond, List, [], ◌∷◌, ◌++◌}
use Rattle.std.proofs.Common.{append-nil, append_assoc, suc, Option, Some, None, Result, Ok, Err, inl, inr, ◌⊎◌}
use Rattle.std.specs.Prelude.{IfSome, unwrap_or}
use Rattle.std.specs.Option.{option_map}
use Rattle.cnb_world.specs.Runs.{Run, is_code}
use Rattle.cnb_world.specs.Tree.{Tree, can_list, folder_made, is_file_or_absent, item_at, kind_of}
use Rattle.cnb_world.specs.Whole.{written}
use Rattle.cnb_world.specs.declared.child.End.{End}
use Rattle.cnb_world.specs.declared.env.Variable.{Variable}
use Rattle.cnb_toml.specs.declared.fault.DocFault.{DocFault}
use Rattle.cnb_env.specs.Base.{base_env}
use Rattle.cnb_env.specs.Contents.{contents_of}
use Rattle.cnb_env.specs.Files.{is_absent}
use Rattle.cnb_env.specs.Layers.{are_fit_sets, build_env}
use Rattle.cnb_env.specs.declared.layers.Phase.TheVariants.{Build}
use Rattle.doc_files.specs.Reading.{names_at}
use Rattle.run_docs.specs.Build.{build_in}
use Rattle.run_docs.specs.BuildpackPlan.{bp_plan_in}
use Rattle.run_docs.specs.Launch.{launch_in}
use Rattle.run_docs.specs.Store.{store_in}
use Rattle.run_docs.specs.declared.group.GroupRow.{GroupRow}
use Rattle.run_docs.specs.declared.plan.PlanEntry.{PlanEntry}
use Rattle.steps.specs.Causes.{IsAnswer}
use Rattle.steps.specs.Each.{for_each}
use Rattle.steps.specs.Outside.{Seen}
use Rattle.steps.specs.Results as results
use Rattle.steps.specs.Results.{with_fault}
use Rattle.steps.specs.Steps.{◌>>=◌, Same, gives, makes_folder, reads, runs_child, writes, yields}
use Rattle.steps.proofs.ReadingLaws.{answers_where, refused_where}
use Rattle.cnb_build.specs.declared.fault.BuildFault.{BuildFault}
use Rattle.cnb_build.specs.declared.frame.BuildFrame.{BuildFrame}
use Rattle.cnb_build.specs.declared.frame.Built.{Built}
use Rattle.cnb_build.specs.declared.places.Places.{Places}
use Rattle.cnb_build.specs.Builds.{builds, builds_at, builds_one, closes, ends_build, nothing_built, prepares}
use Rattle.cnb_build.specs.Builds.{reads_left, runs_build, with_layers}
use Rattle.cnb_build.specs.Descriptor.{clears_in, reads_descriptor}
use Rattle.cnb_build.specs.Job.{build_job, files_for}
use Rattle.layer_paths.specs.Names.{layers_among}
use Rattle.layer_paths.specs.Paths.{layer_document}
use Rattle.cnb_build.specs.Layers.{found_with, names_if, reads_layer, reads_layers, reads_names}
use Rattle.cnb_build.specs.Outcome.{AreRunsOf, IsRunOf, RanAll, RunsBuilds, built_at, clears_at, found_at, layer_at}
use Rattle.cnb_build.specs.Outcome.{layers_at, layers_behind, left_at, left_by, names_unless, pending_at, read_as}
use Rattle.cnb_build.specs.Places.{places_of}
use Rattle.cnb_build.specs.Plan.{pending_after, plan_for}
use Rattle.cnb_build.specs.Reading.{reads_as, reads_document, value_at}
use Rattle.cnb_build.specs.Refusals.{cause_of, of_read_fault}

-- ---- steps that only read

-- the answer is what the files say, which are as before
pub record Says {A : Type 0} (want : Tree → Result A BuildFault) (old : Seen) (result : Result A BuildFault)
    (new : Seen) : Type 0 where
  pub same : Same old new
  pub answer : IfSome old.files (λ files. IsAnswer cause_of result (want files))

abbrev pub OnlySays : {A : Type 0} → (Tree → Result A BuildFault) → (Seen → Result A BuildFault → Seen → Type 0)
    → Type 0
OnlySays {A} want step = (old new : Seen) (result : Result A BuildFault) → step old result new
    → Says want old result new

both_same : (old mid new : Seen) → Same old mid → Same mid new → Same old new
both_same old mid new first second = record { files = second.files ∙ first.files; runs = second.runs ∙ first.runs }

then_says : {A B : Type 0} (first : Tree → Result A BuildFault) (next : A → Tree → Result B BuildFault)
    (old mid new : Seen) (a : A) (result : Result B BuildFault)
    → Says first old (Ok a) mid → Says (next a) mid result new
    → Says (λ files. results.and_then (first files) (λ b. next b files)) old result new
then_says first next old mid new a result h k = record {
  same = both_same old mid new h.same k.same;
  answer = answers_where cause_of old.files mid.files first next a result h.same.files h.answer k.answer;
}

says_then : {A B : Type 0} (want : Tree → Result A BuildFault) (later : A → Tree → Result B BuildFault)
    (first : Seen → Result A BuildFault → Seen → Type 0) (next : A → Seen → Result B BuildFault → Seen → Type 0)
    → OnlySays want first → ((a : A) → OnlySays (later a) (next a))
    → OnlySays (λ files. results.and_then (want files) (λ a. later a files)) (first >>= next)
unfolding ◌>>=◌
says_then want later first next p q old new (Ok value) (a, mid, h, k) = then_says want later old mid new a
    (Ok value) (p old mid (Ok a) h) (q a mid new (Ok value) k)
says_then want later first next p q old new (Err fault) (inl h) =
    let one = p old new (Err fault) h in
    record { same = one.same; answer = refused_where cause_of old.files want later fault one.answer }
says_then want later first next p q old new (Err fault) (inr (a, mid, h, k)) = then_says want later old mid new a
    (Err fault) (p old mid (Ok a) h) (q a mid new (Err fault) k)

says_files : {A : Type 0} (Among : List ℕ → Type 0) (fits : Tree → Bool) (want : Tree → Result A BuildFault)
    → OnlySays want (reads cause_of Among fits want)
unfolding reads
says_files Among fits want old new result h = record { same = h.same; answer = h.answer }

known_where : {A : Type 0} (want : Result A BuildFault) (o : Option Tree) (result : Result A BuildFault)
    → IsAnswer cause_of result want → IfSome o (λ files. IsAnswer cause_of result want)
known_where want None result h = tt
known_where want (Some files) result h = h

says_known : {A : Type 0} (want : Result A BuildFault) → OnlySays (λ files. want) (gives cause_of want)
unfolding gives
says_known want old new result h = record {
  same = record { files = ap (λ s. s.files) h.0; runs = ap (λ s. s.runs) h.0 };
  answer = known_where want old.files result h.1;
}

says_value : {A : Type 0} (value : A) → OnlySays (λ files. Ok value) (yields value)
unfolding yields
says_value value old new (Ok other) h = record {
  same = record { files = ap (λ s. s.files) h.1; runs = ap (λ s. s.runs) h.1 };
  answer = known_where (Ok value) old.files (Ok other) (ap Ok (sym h.0));
}
says_value value old new (Err fault) h = absurd h

says_document : (path : List ℕ) → OnlySays (found_at path) (reads_document path)
says_document path = says_files _ (λ files. is_file_or_absent (item_at files path)) (found_at path)

says_descriptor : (path : List ℕ) → OnlySays (clears_at path) (reads_descriptor path)
unfolding reads_descriptor
says_descriptor path = says_then (found_at path) (λ found files. clears_in path found) (reads_document path)
    (λ found. gives cause_of (clears_in path found)) (says_document path)
    (λ found. says_known (clears_in path found))

says_as : {A : Type 0} (form : List ℕ → Result A DocFault) (path : List ℕ)
    → OnlySays (read_as form path) (reads_as form path)
unfolding reads_as
says_as form path =
    says_then (found_at path) (λ found files. value_at path (form (unwrap_or found []))) (reads_document path)
    (λ found. gives cause_of (value_at path (form (unwrap_or found [])))) (says_document path)
    (λ found. says_known (value_at path (form (unwrap_or found []))))

says_if : (folder : List ℕ) (absent : Bool) → OnlySays (names_unless folder absent) (names_if folder absent)
says_if folder true = says_value []
says_if folder false = says_files _ (λ files. can_list files folder)
    (λ files. with_fault of_read_fault (names_at files folder))

says_names : (folder : List ℕ) → OnlySays (λ files. results.and_then
    (with_fault of_read_fault (Ok (kind_of (item_at files folder))))
    (λ kind. names_unless folder (is_absent kind) files)) (reads_names folder)
unfolding reads_names
says_names folder =
    says_then (λ files. with_fault of_read_fault (Ok (kind_of (item_at files folder))))
    (λ kind. names_unless folder (is_absent kind)) _ (λ kind. names_if folder (is_absent kind))
    (says_files _ (λ files. true) (λ files. with_fault of_read_fault (Ok (kind_of (item_at files folder)))))
    (λ kind. says_if folder (is_absent kind))

says_layer : (folder layer : List ℕ) (found : List (List ℕ))
    → OnlySays (layer_at folder layer found) (reads_layer folder layer found)
unfolding reads_layer
says_layer folder layer found =
    says_then (λ files. with_fault of_read_fault (contents_of (item_at files (layer_document folder layer))))
    (λ document files. found_with folder layer found document) _
    (λ document. gives cause_of (found_with folder layer found document))
    (says_files _ (λ files. true) (λ files. with_fault of_read_fault
    (contents_of (item_at files (layer_document folder layer)))))
    (λ document. says_known (found_with folder layer found document))

says_each : (folder : List ℕ) (layers found : List (List ℕ))
    → OnlySays (layers_behind folder layers found) (for_each (reads_layer folder) layers found)
unfolding for_each
says_each folder [] found = says_value found
says_each folder (layer ∷ layers) found =
    says_then (layer_at folder layer found) (layers_behind folder layers) (reads_layer folder layer found)
    (for_each (reads_layer folder) layers) (says_layer folder layer found)
    (λ more. says_each folder layers more)

says_layers : (folder : List ℕ) → OnlySays (layers_at folder) (reads_layers folder)
unfolding reads_layers
says_layers folder =
    says_then (λ files. names_unless folder (is_absent (kind_of (item_at files folder))) files)
    (λ names files. layers_behind folder (layers_among names) [] files) (reads_names folder)
    (λ names. gives cause_of (Ok (layers_among names)) >>= (λ layers. for_each (reads_layer folder) layers []))
    (says_names folder)
    (λ names. says_then (λ files. Ok (layers_among names)) (λ layers files. layers_behind folder layers [] files)
    (gives cause_of (Ok (layers_among names))) (λ layers. for_each (reads_layer folder) layers [])
    (says_known (Ok (layers_among names))) (λ layers. says_each folder layers []))

says_pending : (row : GroupRow) (places : Places) (pending : List PlanEntry)
    → OnlySays (pending_at row places pending) (closes row places pending)
unfolding closes
says_pending row places pending =
    says_then (read_as build_in places.unmet) (λ unmet files. pending_after row.key unmet pending)
    (reads_as build_in places.unmet) (λ unmet. gives cause_of (pending_after row.key unmet pending))
    (says_as build_in places.unmet) (λ unmet. says_known (pending_after row.key unmet pending))

says_left : (places : Places) → OnlySays (left_at places) (reads_left places)
unfolding reads_left
says_left places =
    says_then (read_as launch_in places.launch) (λ launch files. results.and_then
    (read_as store_in places.store files) (λ store. layers_at places.layers files))
    (reads_as launch_in places.launch)
    (λ launch. reads_as store_in places.store >>= (λ store. reads_layers places.layers))
    (says_as launch_in places.launch)
    (λ launch. says_then (read_as store_in places.store) (λ store. layers_at places.layers)
    (reads_as store_in places.store) (λ store. reads_layers places.layers) (says_as store_in places.store)
    (λ store. says_layers places.layers))

says_behind : (row : GroupRow) (places : Places) (built : Built)
    → OnlySays (built_at row places built) (ends_build row places built)
unfolding ends_build
says_behind row places built =
    says_then (pending_at row places built.pending)
    (λ pending files. results.and_then (left_at places files)
    (λ layers. Ok (with_layers built.done layers pending))) (closes row places built.pending)
    (λ pending. reads_left places >>= (λ layers. gives cause_of (Ok (with_layers built.done layers pending))))
    (says_pending row places built.pending)
    (λ pending. says_then (left_at places) (λ layers files. Ok (with_layers built.done layers pending))
    (reads_left places) (λ layers. gives cause_of (Ok (with_layers built.done layers pending)))
    (says_left places)
    (λ layers. says_known (Ok (with_layers built.done layers pending))))

-- ---- one build

map_map : (f g : Tree → Tree) (o : Option Tree) → option_map f (option_map g o) ≡ option_map (λ files. f (g files)) o
map_map f g None = refl
map_map f g (Some files) = refl

answered : {A : Type 0} (want : Tree → Result A BuildFault) (o : Option Tree) (value : A)
    → IfSome o (λ files. IsAnswer cause_of (Ok value) (want files)) → IfSome o (λ files. want files ≡ Ok value)
answered want o value h = h

-- what stands when the child runs, after the steps before it
pub record Prepared (row : GroupRow) (places : Places) (pending : List PlanEntry) (clear_env : Bool)
    (old new : Seen) : Type 0 where
  pub plan : List ℕ
  pub runs : new.runs ≡ old.runs
  pub clears : IfSome old.files (λ files. clears_at places.descriptor files ≡ Ok clear_env)
  pub reads : bp_plan_in plan ≡ Ok (plan_for row.key pending)
  pub files : new.files ≡ option_map (λ files. written places.plan plan (folder_made places.layers files)) old.files

prepared : (row : GroupRow) (places : Places) (pending : List PlanEntry) (clear_env : Bool) (old new : Seen)
    → prepares row places pending old (Ok clear_env) new → Prepared row places pending clear_env old new
unfolding prepares ◌>>=◌ makes_folder writes yields
prepared row places pending clear_env old new (clear, n1, d, (made, n2, mk, (done, n3, wr, y))) =
    let read = says_descriptor places.descriptor old n1 (Ok clear) d in
    record {
      plan = wr.bytes;
      runs = ap (λ s. s.runs) y.1 ∙ wr.runs ∙ mk.0.runs ∙ read.same.runs;
      clears = subst (λ c. IfSome old.files (λ files. clears_at places.descriptor files ≡ Ok c)) (sym y.0) read.answer;
      reads = wr.says;
      files = ap (λ s. s.files) y.1 ∙ wr.files ∙ ap (option_map (written places.plan wr.bytes))
          (mk.0.files ∙ ap (option_map (folder_made places.layers)) read.same.files)
          ∙ map_map (written places.plan wr.bytes) (folder_made places.layers) old.files;
    }

unprepared : (row : GroupRow) (places : Places) (pending : List PlanEntry) (fault : BuildFault) (old new : Seen)
    → prepares row places pending old (Err fault) new → new.runs ≡ old.runs
unfolding prepares ◌>>=◌ makes_folder writes yields
unprepared row places pending fault old new (inl d) =
    (says_descriptor places.descriptor old new (Err fault) d).same.runs
unprepared row places pending fault old new (inr (clear, n1, d, inl mk)) = mk.1.runs
    ∙ (says_descriptor places.descriptor old n1 (Ok clear) d).same.runs
unprepared row places pending fault old new (inr (clear, n1, d, inr (made, n2, mk, inl wr))) = wr.1.runs
    ∙ mk.0.runs ∙ (says_descriptor places.descriptor old n1 (Ok clear) d).same.runs
unprepared row places pending fault old new (inr (clear, n1, d, inr (made, n2, mk, inr (done, n3, wr, y)))) = absurd y

run_is_of : (frame : BuildFrame) (base : List Variable) (row : GroupRow) (places : Places) (built : Built)
    (clear_env : Bool) (old mid k : Seen) (left : Option Tree) (env : List Variable) (end : End)
    → Prepared row places built.pending clear_env old mid → Says
    (λ files. with_fault of_read_fault (build_env built.done (files_for frame clear_env) base files)) mid
    (Ok env) k
    → IsRunOf frame base row places built old.files
    (record { job = build_job frame places env; end = end; found = k.files; left = left })
run_is_of frame base row places built clear_env old mid k left env end p e = record {
  clear_env = clear_env;
  plan = p.plan;
  env = env;
  clears = p.clears;
  reads = p.reads;
  found = e.same.files ∙ p.files;
  environment = subst (λ o. IfSome o (λ files. with_fault of_read_fault
      (build_env built.done (files_for frame clear_env) base files) ≡ Ok env)) (sym e.same.files) e.answer;
  job = refl;
}

-- a build that went well, and one that was refused behind its child
pub record BuiltOne (frame : BuildFrame) (base : List Variable) (row : GroupRow) (places : Places)
    (built next : Built) (old new : Seen) : Type 0 where
  pub run : Run
  pub runs : new.runs ≡ old.runs ++ run ∷ []
  pub files : new.files ≡ run.left
  pub is_of : IsRunOf frame base row places built old.files run
  pub passed : is_code 0 run.end.code ≡ true
  pub left : IfSome run.left (λ files. built_at row places built files ≡ Ok next)

pub record RanOne (frame : BuildFrame) (base : List Variable) (row : GroupRow) (places : Places) (built : Built)
    (old new : Seen) : Type 0 where
  pub run : Run
  pub runs : new.runs ≡ old.runs ++ run ∷ []
  pub is_of : IsRunOf frame base row places built old.files run

only_true : (b : Bool) (fault : BuildFault) (done : Unit {0})
    → cond b (let r : Result (Unit {0}) BuildFault = Ok tt in r) (Err fault) ≡ Ok done → b ≡ true
only_true true fault done h = refl
only_true false fault done h = absurd (cc)

abbrev env_in : BuildFrame → List Variable → Built → Bool → Tree → Result (List Variable) BuildFault
env_in frame base built clear_env files = with_fault of_read_fault
    (build_env built.done (files_for frame clear_env) base files)

went_well : (frame : BuildFrame) (base : List Variable) (row : GroupRow) (built next : Built) (places : Places)
    (old new : Seen) → builds_at frame base row built places old (Ok next) new
    → BuiltOne frame base row places built next old new
unfolding ◌>>=◌ builds_at runs_build runs_child gives
went_well frame base row built next places old new
    (clear_env, m1, prep, (done, m2, (env, k1, e, (end, k2, rn, p)), behind)) =
    let run : Run = record { job = build_job frame places env; end = end; found = k1.files; left = k2.files } in
    let before = prepared row places built.pending clear_env old m1 prep in
    let read = says_files _ (λ files. are_fit_sets Build files built.done) (env_in frame base built clear_env) m1 k1
    (Ok env) e in
    let b = says_behind row places built m2 new (Ok next) behind in
    record {
      run = run;
      runs = b.same.runs ∙ ap (λ s. s.runs) p.0 ∙ rn.1 ∙ ap (λ rs. rs ++ run ∷ []) (read.same.runs ∙ before.runs);
      files = b.same.files ∙ ap (λ s. s.files) p.0;
      is_of = run_is_of frame base row places built clear_env old m1 k1 k2.files env end before read;
      passed = only_true (is_code 0 end.code) _ done p.1;
      left = subst (λ o. IfSome o (λ files. built_at row places built files ≡ Ok next))
          (ap (λ s. s.files) p.0) b.answer;
    }

was_refused : (frame : BuildFrame) (base : List Variable) (row : GroupRow) (built : Built) (places : Places)
    (fault : BuildFault) (old new : Seen) → builds_at frame base row built places old (Err fault) new
    → (new.runs ≡ old.runs) ⊎ RanOne frame base row places built old new
unfolding ◌>>=◌ builds_at runs_build runs_child gives
was_refused frame base row built places fault old new (inl prep) = inl
    (unprepared row places built.pending fault old new prep)
was_refused frame base row built places fault old new (inr (clear_env, m1, prep, inl (inl e))) =
    inl ((says_files _ (λ files. are_fit_sets Build files built.done) (env_in frame base built clear_env) m1 new
    (Err fault) e).same.runs ∙ (prepared row places built.pending clear_env old m1 prep).runs)
was_refused frame base row built places fault old new (inr (clear_env, m1, prep, inl (inr (env, k1, e, inl rn)))) =
    inl (rn.1.runs ∙ (says_files _ (λ files. are_fit_sets Build files built.done)
    (env_in frame base built clear_env) m1 k1 (Ok env) e).same.runs
    ∙ (prepared row places built.pending clear_env old m1 prep).runs)
was_refused frame base row built places fault old new
    (inr (clear_env, m1, prep, inl (inr (env, k1, e, inr (end, k2, rn, p))))) =
    let run : Run = record { job = build_job frame places env; end = end; found = k1.files; left = k2.files } in
    let before = prepared row places built.pending clear_env old m1 prep in
    let read = says_files _ (λ files. are_fit_sets Build files built.done) (env_in frame base built clear_env) m1 k1
    (Ok env) e in
    inr (record {
      run = run;
      runs = ap (λ s. s.runs) p.0 ∙ rn.1 ∙ ap (λ rs. rs ++ run ∷ []) (read.same.runs ∙ before.runs);
      is_of = run_is_of frame base row places built clear_env old m1 k1 k2.files env end before read;
    })
was_refused frame base row built places fault old new
    (inr (clear_env, m1, prep, inr (done, m2, (env, k1, e, (end, k2, rn, p)), behind))) =
    let run : Run = record { job = build_job frame places env; end = end; found = k1.files; left = k2.files } in
    let before = prepared row places built.pending clear_env old m1 prep in
    let read = says_files _ (λ files. are_fit_sets Build files built.done) (env_in frame base built clear_env) m1 k1
    (Ok env) e in
    let b = says_behind row places built m2 new (Err fault) behind in
    inr (record {
      run = run;
      runs = b.same.runs ∙ ap (λ s. s.runs) p.0 ∙ rn.1 ∙ ap (λ rs. rs ++ run ∷ []) (read.same.runs ∙ before.runs);
      is_of = run_is_of frame base row places built clear_env old m1 k1 k2.files env end before read;
    })

same_places : (a b : Places) → (let r : Result Places BuildFault = Ok a in r) ≡ Ok b → a ≡ b
same_places a b h = cc

one_built : (frame : BuildFrame) (base : List Variable) (row : GroupRow) (built next : Built) (old new : Seen)
    → builds_one frame base row built old (Ok next) new → BuiltOne frame base row
    (places_of frame row.key) built next old new
unfolding builds_one ◌>>=◌ gives
one_built frame base row built next old new (places, m0, g, rest) =
    subst (λ s. BuiltOne frame base row (places_of frame row.key) built next s new) g.0
    (subst (λ q. BuiltOne frame base row q built next m0 new)
    (sym (same_places (places_of frame row.key) places g.1))
    (went_well frame base row built next places m0 new rest))

abbrev Stopped : BuildFrame → List Variable → GroupRow → Built → Places → Seen → Seen → Type 0
Stopped frame base row built places old new = (new.runs ≡ old.runs) ⊎ RanOne frame base row places built old new

one_stopped : (frame : BuildFrame) (base : List Variable) (row : GroupRow) (built : Built) (fault : BuildFault)
    (old new : Seen) → builds_one frame base row built old (Err fault) new
    → Stopped frame base row built (places_of frame row.key) old new
unfolding builds_one ◌>>=◌ gives
one_stopped frame base row built fault old new (inl g) = inl (ap (λ s. s.runs) g.0)
one_stopped frame base row built fault old new (inr (places, m0, g, rest)) =
    subst (λ s. Stopped frame base row built (places_of frame row.key) s new) g.0
    (subst (λ q. Stopped frame base row built q m0 new) (sym (same_places (places_of frame row.key) places g.1))
    (was_refused frame base row built places fault m0 new rest))

-- ---- a group

pub record Ran {A : Type 0} (frame : BuildFrame) (base : List Variable) (group : List GroupRow) (built : Built)
    (old : Seen) (result : Result A BuildFault) (new : Seen) : Type 0 where
  pub rows : List Run
  pub runs : new.runs ≡ old.runs ++ rows
  pub are : AreRunsOf frame base group built old.files rows
  pub all : RanAll result group old.files rows new.files

follow : (frame : BuildFrame) (base : List Variable) (row : GroupRow) (group : List GroupRow) (built next : Built)
    (old mid : Seen) (first : BuiltOne frame base row (places_of frame row.key) built next old mid)
    (rows : List Run)
    → AreRunsOf frame base group next mid.files rows → AreRunsOf frame base (row ∷ group) built old.files
    (first.run ∷ rows)
follow frame base row group built next old mid first [] are = first.is_of
follow frame base row group built next old mid first (more ∷ rows) are = (
  first.is_of,
  first.passed,
  next,
  first.left,
  subst (λ o. AreRunsOf frame base group next o (more ∷ rows))
      first.files are,
)

behind_first : {A : Type 0} (frame : BuildFrame) (base : List Variable) (row : GroupRow) (group : List GroupRow)
    (built next : Built) (old mid new : Seen) (result : Result A BuildFault)
    → BuiltOne frame base row (places_of frame row.key) built next old mid
    → Ran frame base group next mid result new → Ran frame base (row ∷ group) built old result new
behind_first {A} frame base row group built next old mid new result first later = record {
  rows = first.run ∷ later.rows;
  runs = later.runs ∙ ap (λ rs. rs ++ later.rows) first.runs ∙ append_assoc old.runs (first.run ∷ []) later.rows;
  are = follow frame base row group built next old mid first later.rows later.are;
  all = by result later.all;
}
  where
    by : (r : Result A BuildFault) → RanAll r group mid.files later.rows new.files
        → RanAll r (row ∷ group) old.files (first.run ∷ later.rows) new.files
    by (Ok value) h = (ap suc h.0, h.1 ∙ ap (λ o. left_by o later.rows) first.files)
    by (Err fault) h = tt

none_ran : {A : Type 0} (frame : BuildFrame) (base : List Variable) (group : List GroupRow) (built : Built)
    (old new : Seen) (fault : BuildFault) → new.runs ≡ old.runs
    → Ran {A = A} frame base group built old (Err fault) new
none_ran frame base group built old new fault same = record
    { rows = []; runs = same ∙ sym (append-nil old.runs); are = tt; all = tt }

stopped_ran : {A : Type 0} (frame : BuildFrame) (base : List Variable) (row : GroupRow) (group : List GroupRow)
    (built : Built) (old new : Seen) (fault : BuildFault) → Stopped frame base row built
    (places_of frame row.key) old new
    → Ran {A = A} frame base (row ∷ group) built old (Err fault) new
stopped_ran frame base row group built old new fault (inl same) = none_ran frame base
    (row ∷ group) built old new fault same
stopped_ran frame base row group built old new fault (inr one) = record
    { rows = one.run ∷ []; runs = one.runs; are = one.is_of; all = tt }

each_ran : (frame : BuildFrame) (base : List Variable) (group : List GroupRow) (built : Built) (old new : Seen)
    (result : Result Built BuildFault) → for_each (builds_one frame base) group built old result new
    → Ran frame base group built old result new
unfolding for_each ◌>>=◌ yields
each_ran frame base [] built old new (Ok value) h = record {
  rows = [];
  runs = ap (λ s. s.runs) h.1 ∙ sym (append-nil old.runs);
  are = tt;
  all =
      (refl, ap (λ s. s.files) h.1);
}
each_ran frame base [] built old new (Err fault) h = absurd h
each_ran frame base (row ∷ group) built old new (Ok value) (next, mid, one, rest) =
    behind_first frame base row group built next old mid new (Ok value)
    (one_built frame base row built next old mid one) (each_ran frame base group next mid new (Ok value) rest)
each_ran frame base (row ∷ group) built old new (Err fault)
    (inl one) = stopped_ran frame base row group built old new fault
    (one_stopped frame base row built fault old new one)
each_ran frame base (row ∷ group) built old new (Err fault) (inr (next, mid, one, rest)) =
    behind_first frame base row group built next old mid new (Err fault)
    (one_built frame base row built next old mid one)
    (each_ran frame base group next mid new (Err fault) rest)

as_builds : (frame : BuildFrame) (plan : List PlanEntry) (group : List GroupRow) (old new : Seen)
    (result : Result (Unit {0}) BuildFault) → Ran frame (base_env frame.env) group
    (nothing_built plan) old result new → RunsBuilds frame plan group old result new
as_builds frame plan group old new result ran = record
    { rows = ran.rows; runs = ran.runs; are = ran.are; all = ran.all }

refused_as : {A : Type 0} (frame : BuildFrame) (plan : List PlanEntry) (group : List GroupRow) (old new : Seen)
    (fault : BuildFault) → Ran {A = A} frame (base_env frame.env) group (nothing_built plan) old (Err fault) new
    → Ran {A = Unit {0}} frame (base_env frame.env) group (nothing_built plan) old (Err fault) new
refused_as frame plan group old new fault ran = record { rows = ran.rows; runs = ran.runs; are = ran.are; all = tt }

same_base : (a b : List Variable) → (let r : Result (List Variable) BuildFault = Ok a in r) ≡ Ok b → a ≡ b
same_base a b h = cc

from_base : {A : Type 0} (frame : BuildFrame) (base : List Variable) (plan : List PlanEntry)
    (group : List GroupRow) (old mid new : Seen) (result : Result A BuildFault) → mid ≡ old
    → (let r : Result (List Variable) BuildFault = Ok (base_env frame.env) in r) ≡ Ok base
    → Ran frame base group (nothing_built plan) mid result new
    → Ran frame (base_env frame.env) group (nothing_built plan) old result new
from_base frame base plan group old mid new result same is ran =
    subst (λ s. Ran frame (base_env frame.env) group (nothing_built plan) s result new) same
    (subst (λ b. Ran frame b group (nothing_built plan) mid result new)
    (sym (same_base (base_env frame.env) base is)) ran)

at_end : (frame : BuildFrame) (plan : List PlanEntry) (group : List GroupRow) (old mid new : Seen) (built : Built)
    (done : Unit {0}) → new ≡ mid → Ran frame (base_env frame.env) group (nothing_built plan) old (Ok built) mid
    → RunsBuilds frame plan group old (Ok done) new
at_end frame plan group old mid new built done same ran = record {
  rows = ran.rows;
  runs = ap (λ s. s.runs) same ∙ ran.runs;
  are = ran.are;
  all = (ran.all.0, ap (λ s. s.files) same ∙ ran.all.1);
}

-- The children that builds run are those of the first buildpacks in order, and of all where all are built.
pub runs_builds : (frame : BuildFrame) (plan : List PlanEntry) (group : List GroupRow) (old new : Seen)
    (result : Result (Unit {0}) BuildFault) → builds frame plan group old result new
    → RunsBuilds frame plan group old result new
unfolding builds ◌>>=◌ gives yields
runs_builds frame plan group old new (Ok done) (base, m0, g, (built, m1, e, y)) =
    at_end frame plan group old m1 new built done y.1
    (from_base frame base plan group old m0 m1 (Ok built) g.0 g.1
    (each_ran frame base group (nothing_built plan) m0 m1 (Ok built) e))
runs_builds frame plan group old new (Err fault) (inl g) = as_builds frame plan group old new (Err fault)
    (none_ran frame (base_env frame.env) group (nothing_built plan) old new fault (ap (λ s. s.runs) g.0))
runs_builds frame plan group old new (Err fault) (inr (base, m0, g, inl e)) =
    as_builds frame plan group old new (Err fault)
    (refused_as frame plan group old new fault (from_base frame base plan group old m0 new (Err fault) g.0 g.1
    (each_ran frame base group (nothing_built plan) m0 new (Err fault) e)))
runs_builds frame plan group old new (Err fault) (inr (base, m0, g, inr (built, m1, e, y))) = absurd y
