-- What the calls of the layers below say, as steps of a build.
use Rattle.std.proofs.Common.{◌≡◌, ap, refl, sym, subst, arith, ℕ, Bool, List, Option, Some, None, Result, Ok, Err, inl}
use Rattle.std.proofs.Common.{inr}
use Rattle.std.specs.Prelude.{IfSome}
use Rattle.std.specs.Option.{option_map}
use Rattle.cnb_world.specs.Calls.{CountsChild, CountsFailed, LastFailed, MayMisuse, Rose}
use Rattle.cnb_world.specs.Tree.{Tree}
use Rattle.cnb_world.specs.declared.child.ChildFault.{ChildFault}
use Rattle.cnb_world.specs.declared.child.ChildFault.TheVariants as child_fault
use Rattle.cnb_world.specs.declared.world.FileFault.{FileFault}
use Rattle.cnb_world.specs.declared.world.FileFault.TheVariants as file_fault
use Rattle.cnb_world.specs.declared.world.World as world
use Rattle.cnb_toml.specs.Reading.{Answers}
use Rattle.cnb_toml.specs.declared.fault.DocFault.{DocFault}
use Rattle.cnb_toml.specs.declared.fault.DocFault.TheVariants as doc_fault
use Rattle.doc_files.proofs.Blame.{blamed_last, blames_among, blames_named}
use Rattle.doc_files.specs.Faults.{read_cause}
use Rattle.doc_files.specs.Reading.{Blames, BlamesOne}
use Rattle.doc_files.specs.declared.fault.ReadFault.{ReadFault}
use Rattle.doc_files.specs.declared.fault.ReadFault.TheVariants as read
use Rattle.steps.specs.Causes.{Cause, CountsFiles, IsAnswer, IsGivenCause, IsReadCause, IsWriteCause, NamesOne, Only}
use Rattle.steps.specs.Counts.{AllCounts, FileCounts}
use Rattle.steps.specs.Each.{for_each}
use Rattle.steps.specs.Outside.{Seen, seen}
use Rattle.steps.specs.Reading.{LeavesUnchanged}
use Rattle.steps.specs.Results.{with_fault}
use Rattle.steps.specs.Steps.{LeavesSome, reads, writes}
use Rattle.steps.proofs.EndLaws.{files_rest}
use Rattle.steps.proofs.ReadingLaws.{unchanged_counts}
use Rattle.steps.proofs.StepLemmas.{allowed_by, cause_told, named_told, read_so}
use Rattle.cnb_build.specs.declared.fault.BuildFault.{BuildFault}
use Rattle.cnb_build.specs.declared.fault.BuildFault.TheVariants as build
use Rattle.cnb_build.specs.Reading.{reads_files, value_at}
use Rattle.cnb_build.specs.Refusals.{cause_of, of_child_fault, of_read_fault}

answer_of : {T : Type 0} (result want : Result T ReadFault) → IsAnswer read_cause result want
    → IsAnswer cause_of (with_fault of_read_fault result) (with_fault of_read_fault want)
answer_of (Ok value) want h = ap (with_fault of_read_fault) h
answer_of (Err (read.File path)) want h = tt
answer_of (Err (read.Document path fault)) want h = ap (with_fault of_read_fault) h
answer_of (Err (read.Limit kind)) want h = ap (with_fault of_read_fault) h
answer_of (Err read.Memory) want h = tt

answer_where : {T : Type 0} (result : Result T ReadFault) (o : Option Tree) (want : Tree → Result T ReadFault)
    → IfSome o (λ files. IsAnswer read_cause result (want files))
    → IfSome o (λ files. IsAnswer cause_of (with_fault of_read_fault result) (with_fault of_read_fault (want files)))
answer_where result None want h = tt
answer_where result (Some files) want h = answer_of result (want files) h

-- a fault of reading has the same cause as a refusal
same_cause : (fault : ReadFault) → cause_of (of_read_fault fault) ≡ read_cause fault
same_cause (read.File path) = refl
same_cause (read.Document path fault) = refl
same_cause (read.Limit kind) = refl
same_cause read.Memory = refl

pub is_read_cause : (last : Option (List ℕ)) (fault : ReadFault) → IsReadCause last (read_cause fault)
    → IsReadCause last (cause_of (of_read_fault fault))
is_read_cause last fault h = cause_told read_cause cause_of of_read_fault last fault (same_cause fault) h

-- a call that failed is told with its path
pub read_fails : (T : Type 0) (path : List ℕ) (fault : FileFault) (refusal : ReadFault) (given : BuildFault)
    (before now : Option (List ℕ)) → LastFailed {T = T} path (Err fault) before now → Blames path fault refusal
    → given ≡ of_read_fault refusal → IsReadCause now (cause_of given)
read_fails T path fault refusal given before now last blames is =
    subst (λ f. IsReadCause now (cause_of f)) (sym is)
    (is_read_cause now refusal (blamed_last T path fault refusal before now last blames))

is_named : (Among : List ℕ → Type 0) (fault : ReadFault) → BlamesOne Among fault
    → NamesOne Among (cause_of (of_read_fault fault))
is_named Among fault h = named_told read_cause cause_of of_read_fault Among fault (same_cause fault)
    (blames_named Among fault h)

-- and with no other
pub fails_named : (path : List ℕ) (fault : FileFault) (refusal : ReadFault) (given : BuildFault)
    → Blames path fault refusal → given ≡ of_read_fault refusal → NamesOne (Only path) (cause_of given)
fails_named path fault refusal given blames is = subst (λ f. NamesOne (Only path) (cause_of f)) (sym is)
    (is_named (Only path) refusal (blames_among path (Only path) (λ blamed same. same) fault refusal blames))

counts_told : {T : Type 0} (fault : ReadFault) (old new : Seen) → LeavesUnchanged {A = T} read_cause (Err fault) old new
    → FileCounts (Some (cause_of (of_read_fault fault))) old new
counts_told fault old new left =
    subst (λ (cause : Cause). FileCounts (Some cause) old new) (sym (same_cause fault))
    (unchanged_counts read_cause (Err fault) old new left)

-- files that were read, and files whose reading was refused
pub read_done : {W T : Type 0} (ghosts : world.Ghosts W) (Among : List ℕ → Type 0) (fits : Tree → Bool)
    (want : Tree → Result T ReadFault) (value : T) (old new : W)
    → IfSome (ghosts.tree old) (λ files. IsAnswer read_cause (Ok value) (want files))
    → LeavesUnchanged read_cause (Ok value) (seen ghosts old) (seen ghosts new)
    → MayMisuse (option_map fits (ghosts.tree old)) (ghosts.misused old) (ghosts.misused new)
    → reads_files Among fits want (seen ghosts old) (Ok value) (seen ghosts new)
read_done ghosts Among fits want value old new answer left allows =
    read_so ghosts cause_of Among fits (λ files. with_fault of_read_fault (want files)) (Ok value) old new
    (answer_where (Ok value) (ghosts.tree old) want answer) tt tt left.files left.runs allows
    (record { ends = tt; files = left.counts; children = left.children })

pub read_refused : {W T : Type 0} (ghosts : world.Ghosts W) (Among : List ℕ → Type 0) (fits : Tree → Bool)
    (want : Tree → Result T ReadFault) (fault : ReadFault) (old new : W)
    → IfSome (ghosts.tree old) (λ files. IsAnswer {A = T} read_cause (Err fault) (want files))
    → LeavesUnchanged {A = T} read_cause (Err fault) (seen ghosts old) (seen ghosts new) → BlamesOne Among fault
    → MayMisuse (option_map fits (ghosts.tree old)) (ghosts.misused old) (ghosts.misused new)
    → reads_files {A = T} Among fits want (seen ghosts old) (Err (of_read_fault fault)) (seen ghosts new)
read_refused ghosts Among fits want fault old new answer left blames allows =
    read_so ghosts cause_of Among fits (λ files. with_fault of_read_fault (want files))
    (Err (of_read_fault fault)) old new (answer_where (Err fault) (ghosts.tree old) want answer)
    (is_read_cause (ghosts.failed_at new) fault left.cause) (is_named Among fault blames) left.files left.runs allows
    (counts_told fault (seen ghosts old) (seen ghosts new) left)

free_where : (o : Option Tree) → IfSome o (λ files. Unit {0})
free_where None = tt
free_where (Some files) = tt

-- memory ran out before files were read
pub not_read : {T : Type 0} (Among : List ℕ → Type 0) (fits : Tree → Bool) (want : Tree → Result T ReadFault)
    (old : Seen) → reads_files Among fits want old (Err build.Memory) old
unfolding reads
not_read Among fits want old = record {
  same = record { files = refl; runs = refl };
  answer = free_where old.files;
  cause = tt;
  named = tt;
  allows = allowed_by fits old.files old.misused old.misused refl;
  counts = files_rest.memory old;
}

-- two spellings of what is read
pub reads_same : {B T : Type 0} (Among : B → List ℕ → Type 0) (fits : B → Tree → Bool)
    (want : B → Tree → Result T ReadFault) (one other : B) (result : Result T BuildFault) (old new : Seen)
    → one ≡ other → reads_files (Among one) (fits one) (want one) old result new
    → reads_files (Among other) (fits other) (want other) old result new
reads_same {B} {T} Among fits want one other result old new same h = subst
    (λ b. reads_files {A = T} (Among b) (fits b) (want b) old result new) same h

more_left : (path : List ℕ) (Says Means : List ℕ → Type 0) → ((bytes : List ℕ) → Says bytes → Means bytes)
    → (old new : Option Tree) → LeavesSome path Says old new → LeavesSome path Means old new
more_left path Says Means means old new (inl same) = inl same
more_left path Says Means means old new (inr (bytes, says, part)) = inr (bytes, means bytes says, part)

-- bytes that were written, and of which more is known
pub writes_as : (path : List ℕ) (Says Means : List ℕ → Type 0) → ((bytes : List ℕ) → Says bytes → Means bytes)
    → (result : Result (Unit {0}) BuildFault) (old new : Seen)
    → writes cause_of path Says old result new → writes cause_of path Means old result new
unfolding writes
writes_as path Says Means means (Ok done) old new h = record {
  bytes = h.bytes;
  says = means h.bytes h.says;
  files = h.files;
  fits = h.fits;
  runs = h.runs;
  allows =
      h.allows;
  counts = h.counts;
}
writes_as path Says Means means (Err fault) old new h = (
  h.0,
  record {
    files = more_left path Says Means means old.files new.files h.1.files;
    runs = h.1.runs;
    allows = h.1.allows;
  },
  h.2,
)

-- what is known of a document that was read costs no call
no_call : (path : List ℕ) → ((n : ℕ) → CountsFiles {A = Unit {0}} read_cause (Err (read.File path)) n n) → ⊥
no_call path h = let rose : Rose 0 0 = h 0 in let up = rose.up in omega arith

pub given_cause : (T : Type 0) (fault : ReadFault) → ((n : ℕ) → CountsFiles {A = T} read_cause (Err fault) n n)
    → IsGivenCause (cause_of (of_read_fault fault))
given_cause T (read.File path) h = no_call path h
given_cause T (read.Document path fault) h = tt
given_cause T (read.Limit kind) h = tt
given_cause T read.Memory h = tt

memory_at : {T : Type 0} (path : List ℕ) (result : Result T BuildFault)
    → IsAnswer cause_of result (value_at {A = T} path (Err doc_fault.Memory)) → (want : Result T BuildFault)
    → IsAnswer cause_of result want
memory_at path (Ok value) h want = absurd (cc)
memory_at path (Err (build.BuildFailed id code)) h want = absurd (cc)
memory_at path (Err (build.UnknownUnmet id name)) h want = absurd (cc)
memory_at path (Err (build.Api text)) h want = absurd (cc)
memory_at path (Err (build.Document at fault)) h want = absurd (cc)
memory_at path (Err (build.Limit kind)) h want = absurd (cc)
memory_at path (Err build.Child) h want = tt
memory_at path (Err (build.File at)) h want = tt
memory_at path (Err build.Memory) h want = tt

-- what was read of a document is what its bytes read as
pub answered_at : {T : Type 0} (path : List ℕ) (answer want : Result T DocFault) (result : Result T BuildFault)
    → Answers answer want → IsAnswer cause_of result (value_at path answer)
    → IsAnswer cause_of result (value_at path want)
answered_at path (Ok value) want result is h = subst (λ a. IsAnswer cause_of result (value_at path a)) is h
answered_at path (Err doc_fault.Memory) want result is h = memory_at path result h (value_at path want)
answered_at path (Err doc_fault.Absent) want result is h = subst (λ a. IsAnswer cause_of result (value_at path a)) is h
answered_at path (Err doc_fault.NotUtf8) want result is h = subst (λ a. IsAnswer cause_of result (value_at path a)) is h
answered_at path (Err doc_fault.NotToml) want result is h = subst (λ a. IsAnswer cause_of result (value_at path a)) is h
answered_at path (Err (doc_fault.MetaKind text)) want result is h = subst
    (λ a. IsAnswer cause_of result (value_at path a)) is h
answered_at path (Err (doc_fault.Missing text)) want result is h = subst
    (λ a. IsAnswer cause_of result (value_at path a)) is h
answered_at path (Err (doc_fault.Wrong text)) want result is h = subst
    (λ a. IsAnswer cause_of result (value_at path a)) is h
answered_at path (Err (doc_fault.Name text)) want result is h = subst
    (λ a. IsAnswer cause_of result (value_at path a)) is h

-- two spellings of a list
pub all_same : {X A : Type 0} (step : X → A → Seen → Result A BuildFault → Seen → Type 0) (xs ys : List X)
    (value : A) (result : Result A BuildFault) (old new : Seen) → xs ≡ ys → for_each step xs value old result new
    → for_each step ys value old result new
all_same step xs ys value result old new same h = subst (λ zs. for_each step zs value old result new) same h

-- a write that failed is told with its path
pub write_cause : (path : List ℕ) (fault : FileFault) (refusal : ReadFault) (given : BuildFault)
    → Blames path fault refusal → given ≡ of_read_fault refusal → IsWriteCause path (cause_of given)
write_cause path fault refusal given blames is = subst (λ f. IsWriteCause path (cause_of f)) (sym is)
    (by fault refusal blames)
  where
    by : (f : FileFault) (r : ReadFault) → Blames path f r → IsWriteCause path (cause_of (of_read_fault r))
    by file_fault.Failed (read.File failed) h = h
    by file_fault.Failed read.Memory h = tt
    by file_fault.Failed (read.Document at fault) h = absurd h
    by file_fault.Failed (read.Limit kind) h = absurd h
    by file_fault.Memory (read.File failed) h = absurd h
    by file_fault.Memory read.Memory h = tt
    by file_fault.Memory (read.Document at fault) h = absurd h
    by file_fault.Memory (read.Limit kind) h = absurd h

-- and counted where it failed
pub call_counted : (T : Type 0) (path : List ℕ) (fault : FileFault) (refusal : ReadFault) (given : BuildFault)
    (old new : Seen) → CountsFailed {T = T} (Err fault) old.file_faults new.file_faults
    → new.child_faults ≡ old.child_faults
    → Blames path fault refusal → given ≡ of_read_fault refusal → FileCounts (Some (cause_of given)) old new
call_counted T path fault refusal given old new counts children blames is = subst
    (λ f. FileCounts (Some (cause_of f)) old new) (sym is) (by fault refusal counts blames)
  where
    by : (f : FileFault) (r : ReadFault) → CountsFailed {T = T} (Err f) old.file_faults new.file_faults
        → Blames path f r → FileCounts (Some (cause_of (of_read_fault r))) old new
    by file_fault.Failed (read.File failed) k h = record { ends = tt; files = k; children = children }
    by file_fault.Failed read.Memory k h = record { ends = tt; files = k.later; children = children }
    by file_fault.Failed (read.Document at fault) k h = absurd h
    by file_fault.Failed (read.Limit kind) k h = absurd h
    by file_fault.Memory (read.File failed) k h = absurd h
    by file_fault.Memory read.Memory k h = record { ends = tt; files = omega (arith, k); children = children }
    by file_fault.Memory (read.Document at fault) k h = absurd h
    by file_fault.Memory (read.Limit kind) k h = absurd h

-- a child that gave no end, and is counted where it failed
pub child_counted : (T : Type 0) (fault : ChildFault) (given : BuildFault) (old new : Seen)
    → new.file_faults ≡ old.file_faults → CountsChild {T = T} (Err fault) old.child_faults new.child_faults
    → given ≡ of_child_fault fault
    → AllCounts (Some (cause_of given)) old new
child_counted T fault given old new files children is = subst (λ f. AllCounts (Some (cause_of f)) old new)
    (sym is) (by fault children)
  where
    by : (f : ChildFault) → CountsChild {T = T} (Err f) old.child_faults new.child_faults
        → AllCounts (Some (cause_of (of_child_fault f))) old new
    by child_fault.Failed k = record { files = files; children = k }
    by child_fault.Memory k = record { files = omega (arith, files); children = omega (arith, k) }
