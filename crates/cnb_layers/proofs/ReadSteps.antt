-- What the calls of the layers below say, as steps of an export.
use Rattle.std.proofs.Common.{◌≡◌, refl, subst, arith, ℕ, List, Option, Some, Result, Ok, Err}
use Rattle.std.specs.Prelude.{IfErr}
use Rattle.cnb_world.specs.Calls.{CountsFailed, LastFailed, Rose}
use Rattle.cnb_world.specs.declared.world.FileFault.{FileFault}
use Rattle.cnb_world.specs.declared.world.FileFault.TheVariants as file_fault
use Rattle.cnb_toml.specs.Reading.{Answers}
use Rattle.cnb_toml.specs.declared.fault.DocFault.{DocFault}
use Rattle.cnb_toml.specs.declared.fault.DocFault.TheVariants as doc_fault
use Rattle.doc_files.specs.Faults.{read_cause}
use Rattle.doc_files.specs.Reading as reading
use Rattle.doc_files.specs.declared.fault.ReadFault.{ReadFault}
use Rattle.doc_files.specs.declared.fault.ReadFault.TheVariants as read
use Rattle.doc_files.proofs.Blame.{blamed_last, blames_among, blames_named}
use Rattle.steps.specs.Causes.{CountsFiles, IsAnswer, IsGivenCause, IsReadCause, NamesOne, Only}
use Rattle.steps.specs.Counts.{FileCounts}
use Rattle.steps.specs.Each.{for_each}
use Rattle.steps.specs.Outside.{Seen}
use Rattle.steps.specs.Steps.{gives}
use Rattle.steps.proofs.StepLemmas.{cause_told, named_told}
use Rattle.tree_store.specs.declared.fault.StoreFault.TheVariants as stored
use Rattle.cnb_layers.specs.declared.fault.ExportFault.{ExportFault}
use Rattle.cnb_layers.specs.declared.fault.ExportFault.TheVariants as build
use Rattle.cnb_layers.specs.Reading.{value_at}
use Rattle.cnb_layers.specs.Refusals.{cause_of, of_read_fault}

pub same_cause : (fault : ReadFault) → cause_of (of_read_fault fault) ≡ read_cause fault
same_cause (read.File path) = refl
same_cause (read.Document path fault) = refl
same_cause (read.Limit kind) = refl
same_cause read.Memory = refl

-- a call that failed is told with its path
pub blamed_so : (T : Type 0) (path : List ℕ) (fault : FileFault) (refusal : ReadFault)
    (before now : Option (List ℕ)) → LastFailed {T = T} path (Err fault) before now
    → reading.Blames path fault refusal → IsReadCause now (cause_of (of_read_fault refusal))
blamed_so T path fault refusal before now last blames = cause_told read_cause cause_of of_read_fault now refusal
    (same_cause refusal) (blamed_last T path fault refusal before now last blames)

-- and counted so
pub counted_so : (T : Type 0) (path : List ℕ) (fault : FileFault) (refusal : ReadFault) (old new : Seen)
    → CountsFailed {T = T} (Err fault) old.file_faults new.file_faults → new.child_faults ≡ old.child_faults
    → reading.Blames path fault refusal → FileCounts (Some (cause_of (of_read_fault refusal))) old new
counted_so T path file_fault.Failed (read.File blamed) old new files children blames = record
    { ends = tt; files = files; children = children }
counted_so T path file_fault.Failed read.Memory old new files children blames = record
    { ends = tt; files = files.later; children = children }
counted_so T path file_fault.Memory read.Memory old new files children blames = record
    { ends = tt; files = omega (arith, files); children = children }
counted_so T path file_fault.Memory (read.File blamed) old new files children blames = absurd blames
counted_so T path file_fault.Failed (read.Document blamed why) old new files children blames = absurd blames
counted_so T path file_fault.Memory (read.Document blamed why) old new files children blames = absurd blames
counted_so T path file_fault.Failed (read.Limit kind) old new files children blames = absurd blames
counted_so T path file_fault.Memory (read.Limit kind) old new files children blames = absurd blames

-- and no other path is named
pub named_so : (path : List ℕ) (fault : FileFault) (refusal : ReadFault) → reading.Blames path fault refusal
    → NamesOne (Only path) (cause_of (of_read_fault refusal))
named_so path fault refusal blames = named_told read_cause cause_of of_read_fault (Only path) refusal
    (same_cause refusal)
    (blames_named (Only path) refusal (blames_among path (Only path) (λ blamed is. is) fault refusal blames))

-- what is known of a document that was read costs no call
no_call : (path : List ℕ) → ((n : ℕ) → CountsFiles {A = Unit {0}} read_cause (Err (read.File path)) n n) → ⊥
no_call path h = let rose : Rose 0 0 = h 0 in let up = rose.up in omega arith

pub given_cause : (T : Type 0) (fault : ReadFault) → ((n : ℕ) → CountsFiles {A = T} read_cause (Err fault) n n)
    → IsGivenCause (cause_of (of_read_fault fault))
given_cause T (read.File path) h = no_call path h
given_cause T (read.Document path fault) h = tt
given_cause T (read.Limit kind) h = tt
given_cause T read.Memory h = tt

memory_at : {T : Type 0} (path : List ℕ) (result : Result T ExportFault)
    → IsAnswer cause_of result (value_at {A = T} path (Err doc_fault.Memory)) → (want : Result T ExportFault)
    → IsAnswer cause_of result want
memory_at path (Ok value) h want = absurd (cc)
memory_at path (Err (build.NoContents id layer)) h want = absurd (cc)
memory_at path (Err (build.NoPrevious id layer)) h want = absurd (cc)
memory_at path (Err (build.TwoDefaults id)) h want = absurd (cc)
memory_at path (Err (build.BadPattern id pattern)) h want = absurd (cc)
memory_at path (Err (build.NoImage name)) h want = absurd (cc)
memory_at path (Err (build.Document at bad)) h want = absurd (cc)
memory_at path (Err (build.Store (stored.OddFile at))) h want = absurd (cc)
memory_at path (Err (build.Store (stored.Limit kind))) h want = absurd (cc)
memory_at path (Err (build.Store (stored.File at))) h want = tt
memory_at path (Err (build.Store (stored.NoTree digest))) h want = absurd (cc)
memory_at path (Err (build.Store (stored.Damaged asked found bad))) h want = absurd (cc)
memory_at path (Err (build.Store (stored.Clash digest))) h want = absurd (cc)
memory_at path (Err (build.Store stored.Memory)) h want = tt

-- what was read of a document is what its bytes read as
pub answered_at : {T : Type 0} (path : List ℕ) (answer want : Result T DocFault) (result : Result T ExportFault)
    → Answers answer want → IsAnswer cause_of result (value_at path answer)
    → IsAnswer cause_of result (value_at path want)
answered_at path (Ok value) want result is h = subst (λ a. IsAnswer cause_of result (value_at path a)) is h
answered_at path (Err doc_fault.Memory) want result is h = memory_at path result h (value_at path want)
answered_at path (Err doc_fault.Absent) want result is h = subst (λ a. IsAnswer cause_of result (value_at path a)) is h
answered_at path (Err doc_fault.NotUtf8) want result is h = subst (λ a. IsAnswer cause_of result (value_at path a)) is h
answered_at path (Err doc_fault.NotToml) want result is h = subst (λ a. IsAnswer cause_of result (value_at path a)) is h
answered_at path (Err (doc_fault.MetaKind text)) want result is h = subst
    (λ a. IsAnswer cause_of result (value_at path a)) is h
answered_at path (Err (doc_fault.Missing text)) want result is h = subst
    (λ a. IsAnswer cause_of result (value_at path a)) is h
answered_at path (Err (doc_fault.Wrong text)) want result is h = subst
    (λ a. IsAnswer cause_of result (value_at path a)) is h
answered_at path (Err (doc_fault.Name text)) want result is h = subst
    (λ a. IsAnswer cause_of result (value_at path a)) is h

-- two spellings of a list
pub all_same : {X A : Type 0} (step : X → A → Seen → Result A ExportFault → Seen → Type 0) (xs ys : List X)
    (value : A) (result : Result A ExportFault) (old new : Seen) → xs ≡ ys → for_each step xs value old result new
    → for_each step ys value old result new
all_same step xs ys value result old new same h = subst (λ zs. for_each step zs value old result new) same h

-- two spellings of what a step begins with
pub same_for : {B A : Type 0} (step : B → Seen → Result A ExportFault → Seen → Type 0) (x y : B) (old : Seen)
    (result : Result A ExportFault) (new : Seen) → x ≡ y → step x old result new → step y old result new
same_for step x y old result new same h = subst (λ b. step b old result new) same h

-- an answer that is known, or the fault in its place
pub given_answer : {A : Type 0} (want result : Result A ExportFault) (old : Seen) → IsAnswer cause_of result want
    → IfErr result (λ fault. IsGivenCause (cause_of fault)) → gives cause_of want old result old
unfolding gives
given_answer want result old answer cause = (refl, answer, cause)
