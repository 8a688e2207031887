-- Steps that go on, and steps that end.
use Rattle.std.proofs.Common.{◌≡◌, refl, sym, subst, arith, ℕ, List, Bool, true, false, Option, Some, None, Result, Ok}
use Rattle.std.proofs.Common.{Err, inl, inr}
use Rattle.std.specs.Prelude.{IfErr, IfSome, IsTrue}
use Rattle.std.specs.Option.{option_map}
use Rattle.cnb_world.specs.Calls.{MayMisuse}
use Rattle.cnb_world.specs.Tree.{Tree}
use Rattle.cnb_world.specs.Whole.{LeavesPart, can_write, written}
use Rattle.steps.specs.Causes.{Cause, OutOfMemory, ended_by, WhereDecided, IsAnswer, IsGivenCause, IsReadCause}
use Rattle.steps.specs.Causes.{FileFailed, ChildFailed, Decided, IsWriteCause, NamesOne}
use Rattle.cnb_world.specs.declared.world.World as world
use Rattle.steps.specs.Counts.{FileCounts}
use Rattle.steps.specs.Outside.{Seen, SpawnerSeen, seen}
use Rattle.steps.specs.Steps.{◌>>=◌, gives, in_world, in_spawners, map_err, reads, writes, yields}

-- a step that went well, and what came of the next
pub went : {S E A B : Type 0} (first : S → Result A E → S → Type 0) (next : A → S → Result B E → S → Type 0)
    (old mid new : S) (a : A) (result : Result B E) → first old (Ok a) mid → next a mid result new
    → (first >>= next) old result new
unfolding ◌>>=◌
went first next old mid new a (Ok value) h k = (a, mid, h, k)
went first next old mid new a (Err fault) h k = inr (a, mid, h, k)

-- a step that was refused
pub ended : {S E A B : Type 0} (first : S → Result A E → S → Type 0) (next : A → S → Result B E → S → Type 0)
    (old new : S) (fault : E) → first old (Err fault) new → (first >>= next) old (Err fault) new
unfolding ◌>>=◌
ended first next old new fault h = inl h

-- steps over the world leave the spawners, and the other way round
pub within : {E A : Type 0} (step : Seen → Result A E → Seen → Type 0) (old new : Seen)
    (spawners : List SpawnerSeen) (result : Result A E) → step old result new
    → in_world step (record { world = old; spawners = spawners }) result
    (record { world = new; spawners = spawners })
unfolding in_world
within step old new spawners result h = (h, refl)

pub within_spawners : {E A : Type 0} (step : List SpawnerSeen → Result A E → List SpawnerSeen → Type 0)
    (world : Seen) (old new : List SpawnerSeen) (result : Result A E) → step old result new
    → in_spawners step (record { world = world; spawners = old }) result
    (record { world = world; spawners = new })
unfolding in_spawners
within_spawners step world old new result h = (h, refl)

-- a fault that is told as another
pub mapped : {S E F A : Type 0} (of : E → F) (step : S → Result A E → S → Type 0) (old new : S) (value : A)
    → step old (Ok value) new → map_err of step old (Ok value) new
unfolding map_err
mapped of step old new value h = h

pub mapped_fault : {S E F A : Type 0} (of : E → F) (step : S → Result A E → S → Type 0) (old new : S) (fault : E)
    → step old (Err fault) new → map_err of step old (Err (of fault)) new
unfolding map_err
mapped_fault of step old new fault h = (fault, refl, h)

-- an answer that is known
pub given : {S E A : Type 0} (cause_of : E → Cause) (want : Result A E) (old : S) (value : A) → want ≡ Ok value
    → gives cause_of want old (Ok value) old
unfolding gives
given cause_of want old value is = (refl, is, tt)

pub given_fault : {S E A : Type 0} (cause_of : E → Cause) (want : Result A E) (old : S) (fault : E)
    → IsAnswer cause_of (Err fault) want → IsGivenCause (cause_of fault) → gives cause_of want old (Err fault) old
unfolding gives
given_fault cause_of want old fault is cause = (refl, is, cause)

-- an answer that is known, whatever it is
pub answered : {S E A : Type 0} (cause_of : E → Cause) (want result : Result A E) (old : S)
    → IsAnswer cause_of result want → IfErr result (λ fault. IsGivenCause (cause_of fault))
    → gives cause_of want old result old
unfolding gives
answered cause_of want result old answer cause = (refl, answer, cause)

-- memory may run out at any such step
pub no_memory : {S E A : Type 0} (cause_of : E → Cause) (want : Result A E) (old : S) (fault : E)
    → cause_of fault ≡ OutOfMemory → gives cause_of want old (Err fault) old
unfolding gives
no_memory cause_of want old fault is = (
  refl,
  subst (λ cause. WhereDecided cause (want ≡ Err fault))
      (sym is) tt,
  subst IsGivenCause (sym is) tt,
)

pub yielded : {S A : Type 0} (E : Type 0) (value : A) (old : S) → yields {S = S} {E = E} value old (Ok value) old
unfolding yields
yielded E value old = (refl, refl)

-- where no call was made on a path of the wrong kind, the files need not allow it
pub allowed_by : (fits : Tree → Bool) (o : Option Tree) (before now : ℕ) → now ≡ before
    → MayMisuse (option_map fits o) before now
allowed_by fits None before now e = e
allowed_by fits (Some t) before now e = by (fits t)
  where
    by : (v : Bool) → MayMisuse (Some v) before now
    by true = e
    by false = omega (arith, e)

-- memory ran out, and no call was made
pub uncounted : (old : Seen) (cause : Cause) → cause ≡ OutOfMemory → FileCounts (Some cause) old old
uncounted old cause is = subst (λ (c : Cause). FileCounts (Some c) old old) (sym is)
    (record { ends = tt; files = omega arith; children = refl })

-- a write that wasn't begun
pub not_begun : {E : Type 0} (cause_of : E → Cause) (path : List ℕ) (Says : List ℕ → Type 0) (old : Seen)
    (fault : E) → cause_of fault ≡ OutOfMemory → writes cause_of path Says old (Err fault) old
unfolding writes
not_begun cause_of path Says old fault is = (
  subst (IsWriteCause path) (sym is) tt,
  record {
    files = inl refl;
    runs = refl;
    allows = allowed_by (can_write path) old.files old.misused old.misused
        refl;
  },
  uncounted old (cause_of fault) is,
)

-- a document that was written, and one whose write was refused
pub written_so : {W E : Type 0} (ghosts : world.Ghosts W) (cause_of : E → Cause) (path : List ℕ)
    (Says : List ℕ → Type 0) (bytes : List ℕ) (old new : W)
    → Says bytes → ghosts.tree new ≡ option_map (written path bytes) (ghosts.tree old)
    → IfSome (ghosts.tree old) (λ files. IsTrue (can_write path files)) → ghosts.runs new ≡ ghosts.runs old
    → MayMisuse (option_map (can_write path) (ghosts.tree old)) (ghosts.misused old) (ghosts.misused new)
    → FileCounts None (seen ghosts old) (seen ghosts new) → writes cause_of path Says (seen ghosts old)
    (Ok tt) (seen ghosts new)
unfolding writes
written_so ghosts cause_of path Says bytes old new says files fits runs allows counts = record
    { bytes = bytes; says = says; files = files; fits = fits; runs = runs; allows = allows; counts = counts }

pub write_refused : {W E : Type 0} (ghosts : world.Ghosts W) (cause_of : E → Cause) (path : List ℕ)
    (Says : List ℕ → Type 0) (bytes : List ℕ) (fault : E) (old new : W)
    → IsWriteCause path (cause_of fault) → Says bytes → LeavesPart (ghosts.tree old) (ghosts.tree new) path bytes
    → ghosts.runs new ≡ ghosts.runs old
    → MayMisuse (option_map (can_write path) (ghosts.tree old)) (ghosts.misused old) (ghosts.misused new)
    → FileCounts (Some (cause_of fault)) (seen ghosts old) (seen ghosts new)
    → writes cause_of path Says (seen ghosts old) (Err fault) (seen ghosts new)
unfolding writes
write_refused ghosts cause_of path Says bytes fault old new cause says files runs allows counts =
    (cause, record { files = inr (bytes, says, files); runs = runs; allows = allows }, counts)

-- a fault that is told as another, for the same cause
pub cause_told : {E F : Type 0} (cause_of : E → Cause) (cause_of' : F → Cause) (of : E → F)
    (last : Option (List ℕ)) (fault : E) → cause_of' (of fault) ≡ cause_of fault
    → IsReadCause last (cause_of fault) → IsReadCause last (cause_of' (of fault))
cause_told cause_of cause_of' of last fault same h = subst (IsReadCause last) (sym same) h

pub named_told : {E F : Type 0} (cause_of : E → Cause) (cause_of' : F → Cause) (of : E → F)
    (Among : List ℕ → Type 0) (fault : E) → cause_of' (of fault) ≡ cause_of fault
    → NamesOne Among (cause_of fault) → NamesOne Among (cause_of' (of fault))
named_told cause_of cause_of' of Among fault same h = subst (NamesOne Among) (sym same) h

-- paths that are among others
pub named_more : (Among More : List ℕ → Type 0) → ((path : List ℕ) → Among path → More path) → (cause : Cause)
    → NamesOne Among cause → NamesOne More cause
named_more Among More more (FileFailed path) h = more path h
named_more Among More more ChildFailed h = tt
named_more Among More more OutOfMemory h = tt
named_more Among More more Decided h = tt

-- files that were read
pub read_so : {W E A : Type 0} (ghosts : world.Ghosts W) (cause_of : E → Cause) (Among : List ℕ → Type 0)
    (fits : Tree → Bool) (want : Tree → Result A E) (result : Result A E) (old new : W)
    → IfSome (ghosts.tree old) (λ files. IsAnswer cause_of result (want files))
    → IfErr result (λ fault. IsReadCause (ghosts.failed_at new) (cause_of fault))
    → IfErr result (λ fault. NamesOne Among (cause_of fault))
    → ghosts.tree new ≡ ghosts.tree old → ghosts.runs new ≡ ghosts.runs old
    → MayMisuse (option_map fits (ghosts.tree old)) (ghosts.misused old) (ghosts.misused new)
    → FileCounts (ended_by cause_of result) (seen ghosts old) (seen ghosts new)
    → reads cause_of Among fits want (seen ghosts old) result (seen ghosts new)
unfolding reads
read_so ghosts cause_of Among fits want result old new answer cause named files runs allows counts = record {
  same = record { files = files; runs = runs };
  answer = answer;
  cause = cause;
  named = named;
  allows = allows;
  counts = counts;
}
