-- What steps over the world, and steps that ask detect children, do to all counts.
use Rattle.std.proofs.Common.{◌≡◌, refl, sym, subst, ℕ, List, Option, Some, None, Result, Ok, Err, inl, inr, arith}
use Rattle.cnb_world.specs.Runs.{Ran}
use Rattle.cnb_world.specs.declared.child.DetectJob.{DetectJob}
use Rattle.steps.specs.Asking.{AsksBy, MeetsAnswers, SpawnersEnd, asks}
use Rattle.steps.specs.Causes.{Cause, FileFailed, ChildFailed, OutOfMemory, Decided, FilesBy, FilesEnd, ChildrenEnd}
use Rattle.steps.specs.Causes.{ended_by}
use Rattle.steps.specs.Counts.{AllCounts}
use Rattle.steps.specs.EitherCounts.{EitherEnd, OutsideCounts}
use Rattle.steps.specs.Outside.{Outside, Seen, SpawnerSeen, faults_of}
use Rattle.steps.specs.Steps.{in_spawners, in_world}
use Rattle.steps.proofs.AskingLemmas.{none_fell}
use Rattle.steps.proofs.EndLaws.{Links, Obeys, Rests, files_then}

either_then : (last : Option Cause) (a b c : ℕ) (first mid later : List ℕ) → EitherEnd None a b first mid
    → EitherEnd last b c mid later → EitherEnd last a c first later
either_then last a b c first mid later e h = subst (λ (n : ℕ). EitherEnd last n c first later) e.0
    (subst (λ (ns : List ℕ). EitherEnd last b c ns later) e.1 h)

pub outside_link : Links OutsideCounts
outside_link last a b c h k = record {
  files = files_then last a.world.file_faults b.world.file_faults c.world.file_faults h.files k.files;
  children = either_then last a.world.child_faults b.world.child_faults c.world.child_faults
      (faults_of a.spawners) (faults_of b.spawners) (faults_of c.spawners) h.children k.children;
}

pub outside_rest : Rests OutsideCounts
outside_rest = record {
  none = λ s. record { files = refl; children = (refl, refl) };
  memory = λ s. record { files = omega arith; children = (omega arith, none_fell (faults_of s.spawners)) };
  decided = λ s. record { files = refl; children = (refl, refl) };
}

-- ---- the world alone

either_world : (last : Option Cause) (a b : ℕ) (counts : List ℕ) → ChildrenEnd last a b
    → EitherEnd last a b counts counts
either_world None a b counts e = (e, refl)
either_world (Some (FileFailed path)) a b counts e = (e, refl)
either_world (Some ChildFailed) a b counts rose = inl (rose, none_fell counts)
either_world (Some OutOfMemory) a b counts more = (more, none_fell counts)
either_world (Some Decided) a b counts e = (e, refl)

pub world_counts : (last : Option Cause) (old new : Outside) → new.spawners ≡ old.spawners
    → AllCounts last old.world new.world → OutsideCounts last old new
world_counts last old new same h = record {
  files = h.files;
  children = subst (λ (ss : List SpawnerSeen). EitherEnd last old.world.child_faults new.world.child_faults
      (faults_of old.spawners) (faults_of ss)) (sym same)
      (either_world last old.world.child_faults new.world.child_faults (faults_of old.spawners) h.children);
}

pub obeys_over_world : {E A : Type 0} (cause_of : E → Cause) (step : Seen → Result A E → Seen → Type 0)
    → Obeys AllCounts cause_of step → Obeys OutsideCounts cause_of (in_world step)
unfolding in_world
obeys_over_world cause_of step p old new result h = world_counts (ended_by cause_of result) old new h.1
    (p old.world new.world result h.0)

-- ---- children that are asked

either_asked : (last : Option Cause) (a : ℕ) (befores nows : List ℕ) → SpawnersEnd last befores nows
    → EitherEnd last a a befores nows
either_asked None a befores nows e = (refl, e)
either_asked (Some (FileFailed path)) a befores nows e = (refl, e)
either_asked (Some ChildFailed) a befores nows rose = inr (omega arith, rose)
either_asked (Some OutOfMemory) a befores nows fell = (omega arith, fell)
either_asked (Some Decided) a befores nows e = (refl, e)

asked_by : (cause : Cause) (S P : Type 0) (n : ℕ) → AsksBy cause S P → FilesBy cause n n
asked_by (FileFailed path) S P n h = absurd h
asked_by ChildFailed S P n h = refl
asked_by OutOfMemory S P n h = omega arith
asked_by Decided S P n h = refl

asked_files : {E A : Type 0} (cause_of : E → Cause) (result want : Result A E) (S P : Type 0) (n : ℕ)
    → MeetsAnswers cause_of result want S P → FilesEnd (ended_by cause_of result) n n
asked_files cause_of (Ok value) want S P n h = refl
asked_files cause_of (Err fault) want S P n h = asked_by (cause_of fault) S _ n h

pub obeys_asks : {E A : Type 0} (cause_of : E → Cause) (listed : List DetectJob)
    (jobs : List Ran → List DetectJob) (want : List Ran → Result A E)
    → Obeys OutsideCounts cause_of (in_spawners (asks cause_of listed jobs want))
unfolding in_spawners asks
obeys_asks cause_of listed jobs want old new result h = record {
  files = subst (λ (s : Seen). FilesEnd (ended_by cause_of result) old.world.file_faults s.file_faults) (sym h.1)
      (asked_files cause_of result _ _ _ old.world.file_faults h.0.meets);
  children = subst (λ (s : Seen). EitherEnd (ended_by cause_of result) old.world.child_faults s.child_faults
      (faults_of old.spawners) (faults_of new.spawners)) (sym h.1)
      (either_asked (ended_by cause_of result) old.world.child_faults (faults_of old.spawners)
      (faults_of new.spawners) h.0.counts);
}
