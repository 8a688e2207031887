-- The steps that say what is run.
use Rattle.std.proofs.Common.{◌≡◌, refl, subst, ℕ, ◌≤◌, arith, Bool, List, Option, Result, Err}
use Rattle.std.specs.Prelude.{IfErr, IfSome, length}
use Rattle.std.specs.List.{All}
use Rattle.std.specs.Option.{option_map}
use Rattle.std.proofs.lemmas.List.Elements.{All-weaker}
use Rattle.cnb_world.specs.Calls.{MayMisuse}
use Rattle.cnb_world.specs.Tree.{Tree}
use Rattle.cnb_world.specs.declared.env.Variable.{Variable}
use Rattle.cnb_world.specs.declared.world.World as world
use Rattle.cnb_toml.specs.declared.names.Key.{Key}
use Rattle.cnb_env.specs.Layers.{AreShort, IsOfSets, IsShort, are_fit_launch_sets, launch_env}
use Rattle.doc_files.specs.Faults.{read_cause}
use Rattle.doc_files.specs.Reading.{BlamesOne}
use Rattle.doc_files.specs.declared.fault.ReadFault.{ReadFault}
use Rattle.doc_files.proofs.Blame.{all_named}
use Rattle.steps.specs.Causes.{IsAnswer, IsGivenCause}
use Rattle.steps.specs.Outside.{Seen, seen}
use Rattle.steps.specs.Reading.{LeavesUnchanged}
use Rattle.steps.specs.Steps.{gives, reads}
use Rattle.steps.proofs.ReadingLaws.{read_unchanged}
use Rattle.cnb_launch.specs.Exec.{runs_all, runs_execs}
use Rattle.cnb_launch.specs.Faults.{cause_of}
use Rattle.cnb_launch.specs.Folders.{AreWithin, all_exec_folders, all_in, set_folders}
use Rattle.cnb_launch.specs.Planning.{execs_in, sets_in}
use Rattle.cnb_launch.specs.declared.fault.LaunchFault.{LaunchFault}
use Rattle.cnb_launch.specs.declared.folders.Wanted.TheVariants.{Folders, Files}

-- ---- files that were read

pub read_step : {W T : Type 0} (ghosts : world.Ghosts W) (Among : List ℕ → Type 0) (fits : Tree → Bool)
    (want : Tree → Result T ReadFault) (result : Result T ReadFault) (old new : W)
    → IfSome (ghosts.tree old) (λ files. IsAnswer read_cause result (want files))
    → LeavesUnchanged read_cause result (seen ghosts old) (seen ghosts new) → IfErr result (BlamesOne Among)
    → MayMisuse (option_map fits (ghosts.tree old)) (ghosts.misused old) (ghosts.misused new)
    → reads read_cause Among fits want (seen ghosts old) result (seen ghosts new)
read_step ghosts Among fits want result old new answer left blames allows = read_unchanged read_cause Among fits
    want result answer left (all_named Among result blames) allows

-- the environment, by the type that was handed on
pub env_step : {W : Type 0} (ghosts : world.Ghosts W) (kind handed : Option (List ℕ))
    (sets : List (List (List ℕ))) (base : List Variable) (result : Result (List Variable) ReadFault) (old new : W)
    → handed ≡ kind
    → IfSome (ghosts.tree old) (λ files. IsAnswer read_cause result (launch_env sets handed base files))
    → LeavesUnchanged read_cause result (seen ghosts old) (seen ghosts new) → IfErr result (BlamesOne (IsOfSets sets))
    → MayMisuse (option_map (λ files. are_fit_launch_sets handed files sets) (ghosts.tree old))
    (ghosts.misused old) (ghosts.misused new)
    → reads read_cause (IsOfSets sets) (λ files. are_fit_launch_sets kind files sets) (launch_env sets kind base)
    (seen ghosts old) result (seen ghosts new)
env_step ghosts kind handed sets base result old new same answer left blames allows =
    let P : Option (List ℕ) → Type 0 = λ k. reads read_cause (IsOfSets sets)
    (λ files. are_fit_launch_sets k files sets) (launch_env sets k base) (seen ghosts old) result
    (seen ghosts new) in
    subst P same (read_step ghosts (IsOfSets sets) (λ files. are_fit_launch_sets handed files sets)
    (launch_env sets handed base) result old new answer left blames allows)

pub env_refused : {W : Type 0} (ghosts : world.Ghosts W) (kind handed : Option (List ℕ))
    (sets : List (List (List ℕ))) (base : List Variable) (fault : ReadFault) (old new : W) → handed ≡ kind
    → IfSome (ghosts.tree old) (λ files. IsAnswer {A = List Variable} read_cause (Err fault)
    (launch_env sets handed base files)) → LeavesUnchanged {A = List Variable} read_cause (Err fault)
    (seen ghosts old) (seen ghosts new) → BlamesOne (IsOfSets sets) fault
    → MayMisuse (option_map (λ files. are_fit_launch_sets handed files sets) (ghosts.tree old))
    (ghosts.misused old) (ghosts.misused new)
    → reads read_cause (IsOfSets sets) (λ files. are_fit_launch_sets kind files sets) (launch_env sets kind base)
    (seen ghosts old) (Err fault) (seen ghosts new)
env_refused ghosts kind handed sets base fault old new same answer left blames allows = env_step ghosts kind
    handed sets base (Err fault) old new same answer left blames allows

-- ---- folders that were computed

pub sets_read : (root : List ℕ) (keys : List Key) (folders : List (List ℕ)) (o : Option Tree)
    (result : Result (List (List (List ℕ))) ReadFault) → folders ≡ set_folders root keys
    → IfSome o (λ files. IsAnswer read_cause result (all_in Folders folders files))
    → IfSome o (λ files. IsAnswer read_cause result (sets_in root keys files))
unfolding sets_in
sets_read root keys folders o result same h = let P : List (List ℕ)
    → Type 0 = λ fs. IfSome o (λ files. IsAnswer read_cause result (all_in Folders fs files)) in subst P same h

pub sets_refused : (root : List ℕ) (keys : List Key) (folders : List (List ℕ)) (o : Option Tree)
    (fault : ReadFault) → folders ≡ set_folders root keys
    → IfSome o (λ files. IsAnswer {A = List (List (List ℕ))} read_cause (Err fault)
    (all_in Folders folders files)) → IfSome o (λ files. IsAnswer {A = List (List (List ℕ))} read_cause
    (Err fault) (sets_in root keys files))
sets_refused root keys folders o fault same h = sets_read root keys folders o (Err fault) same h

pub execs_read : (kind : Option (List ℕ)) (sets : List (List (List ℕ))) (folders : List (List ℕ))
    (o : Option Tree) (result : Result (List (List (List ℕ))) ReadFault) → folders ≡ all_exec_folders kind sets
    → IfSome o (λ files. IsAnswer read_cause result (all_in Files folders files))
    → IfSome o (λ files. IsAnswer read_cause result (execs_in kind sets files))
unfolding execs_in
execs_read kind sets folders o result same h = let P : List (List ℕ)
    → Type 0 = λ fs. IfSome o (λ files. IsAnswer read_cause result (all_in Files fs files)) in subst P same h

pub execs_refused : (kind : Option (List ℕ)) (sets : List (List (List ℕ))) (folders : List (List ℕ))
    (o : Option Tree) (fault : ReadFault) → folders ≡ all_exec_folders kind sets
    → IfSome o (λ files. IsAnswer {A = List (List (List ℕ))} read_cause (Err fault) (all_in Files folders files))
    → IfSome o (λ files. IsAnswer {A = List (List (List ℕ))} read_cause (Err fault)
    (execs_in kind sets files))
execs_refused kind sets folders o fault same h = execs_read kind sets folders o (Err fault) same h

-- layers of an image leave room for what stands in them
pub sets_short : (sets : List (List (List ℕ))) → All (AreWithin 4615) sets → All AreShort sets
sets_short sets h = All-weaker (AreWithin 4615) AreShort
    (λ layers fit. All-weaker (λ path. length path ≤ 4615) IsShort (λ path short. omega arith) layers fit) sets h

-- ---- the same lists of programs

pub all_as : (dir : List ℕ) (lists other : List (List (List ℕ))) (env : List Variable) (old new : Seen)
    (result : Result (List Variable) LaunchFault) → lists ≡ other → runs_all dir lists env old result new
    → runs_all dir other env old result new
all_as dir lists other env old new result same h = let P : List (List (List ℕ))
    → Type 0 = λ ls. runs_all dir ls env old result new in subst P same h

pub execs_as : (dir : List ℕ) (paths other : List (List ℕ)) (env : List Variable) (old new : Seen)
    (result : Result (List Variable) LaunchFault) → paths ≡ other → runs_execs dir paths env old result new
    → runs_execs dir other env old result new
execs_as dir paths other env old new result same h = let P : List (List ℕ)
    → Type 0 = λ ps. runs_execs dir ps env old result new in subst P same h
