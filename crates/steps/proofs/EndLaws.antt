-- What holds of each of some steps, by what ended it, holds of them one after another.
use Rattle.std.proofs.Common.{◌≡◌, ◌∙◌, refl, sym, ap, subst, ℕ, Bool, List, [], ◌∷◌, Option, Some, None, Result, Ok}
use Rattle.std.proofs.Common.{Err, inl, inr, arith}
use Rattle.std.specs.Prelude.{IfErr}
use Rattle.cnb_world.specs.Tree.{Tree}
use Rattle.cnb_world.specs.declared.child.ChildJob.{ChildJob}
use Rattle.steps.specs.Causes.{Cause, FileFailed, ChildFailed, OutOfMemory, Decided, FilesEnd, ChildrenEnd}
use Rattle.steps.specs.Causes.{IsGivenCause, IsReadCause, IsWriteCause, ended_by}
use Rattle.steps.specs.Counts.{AllCounts, FileCounts, IsFileEnd}
use Rattle.steps.specs.Each.{for_each}
use Rattle.steps.specs.Outside.{Outside, Seen}
use Rattle.steps.specs.Steps.{◌>>=◌, gives, in_world, makes_folder, map_err, reads, removes, runs_child, writes, yields}

-- a relation, by what ended a step, of what is seen before and after it
abbrev pub Relation : Type 0 → Type 1
Relation S = Option Cause → S → S → Type 0

-- each such step keeps to the relation
abbrev pub Obeys : {S E A : Type 0} → Relation S → (E → Cause) → (S → Result A E → S → Type 0) → Type 0
Obeys {S} {E} {A} R cause_of step = (old new : S) (result : Result A E) → step old result new
    → R (ended_by cause_of result) old new

-- what a step that went well leaves is what the next one begins with
abbrev pub Links : {S : Type 0} → Relation S → Type 0
Links {S} R = (last : Option Cause) (a b c : S) → R None a b → R last b c → R last a c

-- where nothing is done, for want of memory or because that is decided
pub record Rests {S : Type 0} (R : Relation S) : Type 0 where
  pub none : (s : S) → R None s s
  pub memory : (s : S) → R (Some OutOfMemory) s s
  pub decided : (s : S) → R (Some Decided) s s

pub obeys_bind : {S E A B : Type 0} (R : Relation S) (cause_of : E → Cause) (first : S → Result A E → S → Type 0)
    (next : A → S → Result B E → S → Type 0)
    → Links R → Obeys R cause_of first → ((a : A) → Obeys R cause_of (next a)) → Obeys R cause_of (first >>= next)
unfolding ◌>>=◌
obeys_bind R cause_of first next links p q old new (Ok value) (a, mid, h, k) = links None old mid new
    (p old mid (Ok a) h) (q a mid new (Ok value) k)
obeys_bind R cause_of first next links p q old new (Err fault) (inl h) = p old new (Err fault) h
obeys_bind R cause_of first next links p q old new (Err fault) (inr (a, mid, h, k)) = links
    (Some (cause_of fault)) old mid new (p old mid (Ok a) h) (q a mid new (Err fault) k)

pub obeys_told : {S E F A : Type 0} (R : Relation S) (cause_of : E → Cause) (cause_of' : F → Cause) (of : E → F)
    (step : S → Result A E → S → Type 0)
    → ((fault : E) → cause_of' (of fault) ≡ cause_of fault) → Obeys R cause_of step
    → Obeys R cause_of' (map_err of step)
unfolding map_err
obeys_told R cause_of cause_of' of step same p old new (Ok value) h = p old new (Ok value) h
obeys_told R cause_of cause_of' of step same p old new (Err refusal) (fault, is, h) =
    subst (λ (cause : Cause). R (Some cause) old new) (sym (ap cause_of' is ∙ same fault)) (p old new (Err fault) h)

pub obeys_yields : {S E A : Type 0} (R : Relation S) (cause_of : E → Cause) (want : A) → Rests R
    → Obeys R cause_of (yields want)
unfolding yields
obeys_yields R cause_of want rests old new (Ok value) h = subst (R None old) (sym h.1) (rests.none old)
obeys_yields R cause_of want rests old new (Err fault) h = absurd h

given_rests : {S : Type 0} (R : Relation S) → Rests R → (cause : Cause) (s : S) → IsGivenCause cause
    → R (Some cause) s s
given_rests R rests (FileFailed path) s h = absurd h
given_rests R rests ChildFailed s h = absurd h
given_rests R rests OutOfMemory s h = rests.memory s
given_rests R rests Decided s h = rests.decided s

-- what is known decides, and nothing is done
pub given_ends : {S E A : Type 0} (R : Relation S) (cause_of : E → Cause) (result : Result A E) (s : S) → Rests R
    → IfErr result (λ fault. IsGivenCause (cause_of fault)) → R (ended_by cause_of result) s s
given_ends R cause_of (Ok value) s rests h = rests.none s
given_ends R cause_of (Err fault) s rests h = given_rests R rests (cause_of fault) s h

pub obeys_gives : {S E A : Type 0} (R : Relation S) (cause_of : E → Cause) (want : Result A E) → Rests R
    → Obeys R cause_of (gives cause_of want)
unfolding gives
obeys_gives R cause_of want rests old new (Ok value) h = subst (R None old) (sym h.0) (rests.none old)
obeys_gives R cause_of want rests old new (Err fault) h = subst (R (Some (cause_of fault)) old) (sym h.0)
    (given_rests R rests (cause_of fault) old h.2)

pub obeys_each : {S E A X : Type 0} (R : Relation S) (cause_of : E → Cause) (step : X → A → S → Result A E → S → Type 0)
    → Links R → Rests R → ((x : X) (so_far : A) → Obeys R cause_of (step x so_far)) → (xs : List X) (so_far : A)
    → Obeys R cause_of (for_each step xs so_far)
unfolding for_each
obeys_each R cause_of step links rests p [] so_far = obeys_yields R cause_of so_far rests
obeys_each R cause_of step links rests p (x ∷ xs) so_far = obeys_bind R cause_of (step x so_far)
    (for_each step xs) links (p x so_far) (λ more. obeys_each R cause_of step links rests p xs more)

-- ---- the counts

pub files_then : (last : Option Cause) (a b c : ℕ) → FilesEnd None a b → FilesEnd last b c → FilesEnd last a c
files_then last a b c e h = subst (λ (n : ℕ). FilesEnd last n c) e h

children_then : (last : Option Cause) (a b c : ℕ) → ChildrenEnd None a b → ChildrenEnd last b c → ChildrenEnd last a c
children_then last a b c e h = subst (λ (n : ℕ). ChildrenEnd last n c) e h

pub files_link : Links FileCounts
files_link last a b c h k = record {
  ends = k.ends;
  files = files_then last a.file_faults b.file_faults
      c.file_faults h.files k.files;
  children = k.children ∙ h.children;
}

pub files_rest : Rests FileCounts
files_rest = record {
  none = λ s. record { ends = tt; files = refl; children = refl };
  memory = λ s. record { ends = tt; files = omega arith; children = refl };
  decided = λ s. record { ends = tt; files = refl; children = refl };
}

pub all_link : Links AllCounts
all_link last a b c h k = record {
  files = files_then last a.file_faults b.file_faults c.file_faults h.files k.files;
  children = children_then last a.child_faults b.child_faults c.child_faults h.children k.children;
}

pub all_rest : Rests AllCounts
all_rest = record {
  none = λ s. record { files = refl; children = refl };
  memory = λ s. record { files = omega arith; children = omega arith };
  decided = λ s. record { files = refl; children = refl };
}

pub reads_counts : {E A : Type 0} (cause_of : E → Cause) (Among : List ℕ → Type 0) (fits : Tree → Bool)
    (want : Tree → Result A E) → Obeys FileCounts cause_of (reads cause_of Among fits want)
unfolding reads
reads_counts cause_of Among fits want old new result h = h.counts

pub writes_counts : {E : Type 0} (cause_of : E → Cause) (path : List ℕ) (Says : List ℕ → Type 0)
    → Obeys FileCounts cause_of (writes cause_of path Says)
unfolding writes
writes_counts cause_of path Says old new (Ok done) h = h.counts
writes_counts cause_of path Says old new (Err fault) h = h.2

pub makes_folder_counts : {E : Type 0} (cause_of : E → Cause) (path : List ℕ)
    → Obeys FileCounts cause_of (makes_folder cause_of path)
unfolding makes_folder
makes_folder_counts cause_of path old new (Ok done) h = h.2
makes_folder_counts cause_of path old new (Err fault) h = h.3

pub removes_counts : {E : Type 0} (cause_of : E → Cause) (path : List ℕ)
    → Obeys FileCounts cause_of (removes cause_of path)
unfolding removes
removes_counts cause_of path old new (Ok done) h = h.2
removes_counts cause_of path old new (Err fault) h = h.3

pub runs_child_counts : {E : Type 0} (cause_of : E → Cause) (job : ChildJob)
    → Obeys AllCounts cause_of (runs_child cause_of job)
unfolding runs_child
runs_child_counts cause_of job old new (Ok end) h = h.2
runs_child_counts cause_of job old new (Err fault) h = h.3

-- ---- weaker and wider

-- what files may be refused for is never a child
pub read_ends : (last : Option (List ℕ)) (cause : Cause) → IsReadCause last cause → IsFileEnd (Some cause)
read_ends last (FileFailed path) h = tt
read_ends last ChildFailed h = absurd h
read_ends last OutOfMemory h = tt
read_ends last Decided h = tt

pub write_ends : (path : List ℕ) (cause : Cause) → IsWriteCause path cause → IsFileEnd (Some cause)
write_ends path (FileFailed failed) h = tt
write_ends path ChildFailed h = absurd h
write_ends path OutOfMemory h = tt
write_ends path Decided h = absurd h

children_end : (last : Option Cause) (a b : ℕ) → IsFileEnd last → b ≡ a → ChildrenEnd last a b
children_end None a b h e = e
children_end (Some (FileFailed path)) a b h e = e
children_end (Some ChildFailed) a b h e = absurd h
children_end (Some OutOfMemory) a b h e = omega (arith, e)
children_end (Some Decided) a b h e = e

pub all_of_files : (last : Option Cause) (old new : Seen) → FileCounts last old new → AllCounts last old new
all_of_files last old new k = record {
  files = k.files;
  children = children_end last old.child_faults
      new.child_faults k.ends k.children;
}

-- a stronger relation
pub obeys_weaker : {S E A : Type 0} (R Q : Relation S) (cause_of : E → Cause) (step : S → Result A E → S → Type 0)
    → ((last : Option Cause) (a b : S) → R last a b → Q last a b) → Obeys R cause_of step → Obeys Q cause_of step
obeys_weaker R Q cause_of step weaker p old new result h = weaker (ended_by cause_of result) old new
    (p old new result h)

-- steps over files, among steps that run children
pub files_among : {E A : Type 0} (cause_of : E → Cause) (step : Seen → Result A E → Seen → Type 0)
    → Obeys FileCounts cause_of step → Obeys AllCounts cause_of step
files_among cause_of step p = obeys_weaker FileCounts AllCounts cause_of step all_of_files p

-- steps over the world, among steps over more
pub obeys_in_world : {E A : Type 0} (R : Relation Seen) (cause_of : E → Cause)
    (step : Seen → Result A E → Seen → Type 0) → Obeys R cause_of step
    → Obeys {S = Outside} (λ last old new. R last old.world new.world) cause_of (in_world step)
unfolding in_world
obeys_in_world R cause_of step p old new result h = p old.world new.world result h.0
