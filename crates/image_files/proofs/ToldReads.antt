-- Files that were read, as steps that tell each fault as another one of the same cause.
use Rattle.std.proofs.Common.{◌≡◌, refl, ap, subst, sym, ℕ, List, Bool, Option, Some, None, Result, Ok, Err}
use Rattle.std.specs.Prelude.{IfErr, IfSome}
use Rattle.cnb_world.specs.Tree.{Tree}
use Rattle.cnb_toml.specs.Form.{TableForm}
use Rattle.doc_files.specs.Faults.{read_cause}
use Rattle.doc_files.specs.Reading.{BlamesOne, BlamesOnly}
use Rattle.doc_files.specs.declared.fault.ReadFault.{ReadFault}
use Rattle.doc_files.proofs.Blame.{blames_named}
use Rattle.steps.specs.Causes.{Cause, FileFailed, ChildFailed, OutOfMemory, Decided, IsAnswer, IsGivenCause}
use Rattle.steps.specs.Causes.{IsReadCause, NamesOne, Only, WhereDecided, FilesBy, ended_by}
use Rattle.steps.specs.Outside.{Seen}
use Rattle.steps.specs.Reading.{LeavesUnchanged}
use Rattle.steps.specs.Results.{and_then, with_fault}
use Rattle.steps.specs.Steps.{Allows, reads}
use Rattle.steps.specs.Counts.{FileCounts, IsFileEnd}
use Rattle.steps.proofs.EndLaws.{files_link, files_rest, given_ends, read_ends}
use Rattle.steps.proofs.ReadingLaws.{refused_where, where_map}
use Rattle.steps.proofs.StepLemmas.{allowed_by, cause_told, named_told, uncounted}
use Rattle.image_files.specs.Documents.{document_in, is_fit_document}

-- a value that is known needs no reading
read_if_given : (last : Option (List ℕ)) (cause : Cause) → IsGivenCause cause → IsReadCause last cause
read_if_given last (FileFailed path) h = absurd h
read_if_given last ChildFailed h = h
read_if_given last OutOfMemory h = tt
read_if_given last Decided h = tt

given_causes : {A F : Type 0} (cause_of : F → Cause) (last : Option (List ℕ)) (result : Result A F)
    → IfErr result (λ fault. IsGivenCause (cause_of fault))
    → IfErr result (λ fault. IsReadCause last (cause_of fault))
given_causes cause_of last (Ok value) h = tt
given_causes cause_of last (Err fault) h = read_if_given last (cause_of fault) h

-- and names no path
given_names : {A F : Type 0} (cause_of : F → Cause) (Among : List ℕ → Type 0) (result : Result A F)
    → IfErr result (λ fault. IsGivenCause (cause_of fault)) → IfErr result (λ fault. NamesOne Among (cause_of fault))
given_names cause_of Among (Ok value) h = tt
given_names cause_of Among (Err fault) h = by (cause_of fault) h
  where
    by : (cause : Cause) → IsGivenCause cause → NamesOne Among cause
    by (FileFailed path) h = absurd h
    by ChildFailed h = tt
    by OutOfMemory h = tt
    by Decided h = tt

-- what was read decides
pub decided_by : {E A B : Type 0} (cause_of : E → Cause) (first : Tree → Result A E) (next : A → Result B E)
    (o : Option Tree) (value : A) (result : Result B E)
    → IfSome o (λ files. IsAnswer cause_of (Ok value) (first files)) → IsAnswer cause_of result (next value)
    → IfSome o (λ files. IsAnswer cause_of result (and_then (first files) next))
decided_by cause_of first next None value result h k = tt
decided_by cause_of first next (Some files) value result h k = subst
    (λ read. IsAnswer cause_of result (and_then read next)) (sym h) k

-- memory ran out before anything was read
unread : {A F : Type 0} (cause_of : F → Cause) (want : Tree → Result A F) (fault : F) (o : Option Tree)
    → cause_of fault ≡ OutOfMemory → IfSome o (λ files. IsAnswer {A = A} cause_of (Err fault) (want files))
unread cause_of want fault None is = tt
unread cause_of want fault (Some files) is = subst (λ cause. WhereDecided cause (want files ≡ Err fault)) (sym is) tt

pub nothing_read : {A F : Type 0} (cause_of : F → Cause) (Among : List ℕ → Type 0) (fits : Tree → Bool)
    (want : Tree → Result A F) (fault : F) (old : Seen) → cause_of fault ≡ OutOfMemory
    → reads {A = A} cause_of Among fits want old (Err fault) old
unfolding reads
nothing_read cause_of Among fits want fault old is = record {
  same = record { files = refl; runs = refl };
  answer = unread cause_of want fault old.files is;
  cause = subst (IsReadCause old.failed_at) (sym is) tt;
  named = subst (NamesOne Among) (sym is) tt;
  allows = allowed_by fits old.files old.misused old.misused refl;
  counts = uncounted old (cause_of fault) is;
}

module _ {F : Type 0} (cause_of : F → Cause) (of : ReadFault → F)
    (same : (fault : ReadFault) → cause_of (of fault) ≡ read_cause fault) where
  told : {A : Type 0} (want : Tree → Result A ReadFault) (fault : ReadFault) (o : Option Tree)
      → IfSome o (λ files. IsAnswer {A = A} read_cause (Err fault) (want files))
      → IfSome o (λ files. IsAnswer {A = A} cause_of (Err (of fault)) (with_fault of (want files)))
  told want fault None h = tt
  told want fault (Some files) h =
      subst (λ cause. WhereDecided cause (with_fault of (want files) ≡ Err (of fault))) (sym (same fault))
      (where_map (read_cause fault) (want files ≡ Err fault) (with_fault of (want files) ≡ Err (of fault))
      (λ e. ap (with_fault of) e) h)

  went : {A : Type 0} (want : Tree → Result A ReadFault) (value : A) (o : Option Tree)
      → IfSome o (λ files. IsAnswer read_cause (Ok value) (want files))
      → IfSome o (λ files. IsAnswer cause_of (Ok value) (with_fault of (want files)))
  went want value None h = tt
  went want value (Some files) h = ap (with_fault of) h

  counts_told : {A : Type 0} (fault : ReadFault) (old new : Seen)
      → LeavesUnchanged {A = A} read_cause (Err fault) old new → FileCounts (Some (cause_of (of fault))) old new
  counts_told fault old new left = record {
    ends = subst (λ (cause : Cause). IsFileEnd (Some cause))
        (sym (same fault)) (read_ends new.failed_at (read_cause fault) left.cause);
    files = subst
        (λ (cause : Cause). FilesBy cause old.file_faults new.file_faults)
        (sym (same fault)) left.counts;
    children = left.children;
  }

  names : (Among : List ℕ → Type 0) (fault : ReadFault) → BlamesOne Among fault → NamesOne Among (cause_of (of fault))
  names Among fault h = named_told read_cause cause_of of Among fault (same fault) (blames_named Among fault h)

  -- files that were read, and files whose reading was refused
  pub files_read : {A : Type 0} (Among : List ℕ → Type 0) (fits : Tree → Bool) (want : Tree → Result A ReadFault)
      (value : A) {old new : Seen}
      → IfSome old.files (λ files. IsAnswer read_cause (Ok value) (want files))
      → LeavesUnchanged read_cause (Ok value) old new → Allows fits old new
      → reads cause_of Among fits (λ files. with_fault of (want files)) old (Ok value) new
  unfolding reads
  files_read Among fits want value {old} {new} answer left allows = record {
    same = record { files = left.files; runs = left.runs };
    answer = went want value old.files answer;
    cause = tt;
    named = tt;
    allows = allows;
    counts = record { ends = tt; files = left.counts; children = left.children };
  }

  pub files_refused : {A : Type 0} (Among : List ℕ → Type 0) (fits : Tree → Bool) (want : Tree → Result A ReadFault)
      (fault : ReadFault) {old new : Seen}
      → IfSome old.files (λ files. IsAnswer {A = A} read_cause (Err fault) (want files))
      → LeavesUnchanged {A = A} read_cause (Err fault) old new → BlamesOne Among fault → Allows fits old new
      → reads {A = A} cause_of Among fits (λ files. with_fault of (want files)) old (Err (of fault)) new
  unfolding reads
  files_refused Among fits want fault {old} {new} answer left blames allows = record {
    same = record { files = left.files; runs = left.runs };
    answer = told want fault old.files answer;
    cause = cause_told read_cause cause_of of new.failed_at fault (same fault) left.cause;
    named = names Among fault blames;
    allows = allows;
    counts = counts_told fault old new left;
  }

  module _ {A B : Type 0} (form : TableForm A) (next : List ℕ → Option A → Result B F) where
    -- the document at a path is read, and what is there decides
    abbrev AtPath : List ℕ → Seen → Result B F → Seen → Type 0
    AtPath path = reads cause_of (Only path) (is_fit_document path)
        (λ files. and_then (with_fault of (document_in form path files)) (next path))

    pub document_refused : {path at : List ℕ} (fault : ReadFault) {old new : Seen} → path ≡ at
        → IfSome old.files (λ files. IsAnswer {A = Option A} read_cause (Err fault) (document_in form path files))
        → LeavesUnchanged {A = Option A} read_cause (Err fault) old new → BlamesOnly path fault
        → Allows (is_fit_document path) old new → AtPath at old (Err (of fault)) new
    unfolding reads
    document_refused {path} {at} fault {old} {new} e answer left blames allows = subst
        (λ p. AtPath p old (Err (of fault)) new) e (record {
          same = record { files = left.files; runs = left.runs };
          answer = refused_where cause_of old.files (λ files. with_fault of (document_in form path files))
              (λ value files. next path value) (of fault) (told (document_in form path) fault old.files answer);
          cause = cause_told read_cause cause_of of new.failed_at fault (same fault) left.cause;
          named = names (Only path) fault blames;
          allows = allows;
          counts = counts_told fault old new left;
        })

    pub document_read : {path at : List ℕ} (value : Option A) (result : Result B F) {old new : Seen} → path ≡ at
        → IfSome old.files (λ files. IsAnswer read_cause (Ok value) (document_in form path files))
        → LeavesUnchanged read_cause (Ok value) old new
        → Allows (is_fit_document path) old new → IsAnswer cause_of result (next path value)
        → IfErr result (λ fault. IsGivenCause (cause_of fault)) → AtPath at old result new
    unfolding reads
    document_read {path} {at} value result {old} {new} e answer left allows given cause = subst
        (λ p. AtPath p old result new) e (record {
          same = record { files = left.files; runs = left.runs };
          answer = decided_by cause_of (λ files. with_fault of (document_in form path files))
              (next path) old.files value result (went (document_in form path) value old.files answer) given;
          cause = given_causes cause_of new.failed_at result cause;
          named = given_names cause_of (Only path) result cause;
          allows = allows;
          counts = files_link (ended_by cause_of result) old new new
              (record { ends = tt; files = left.counts; children = left.children })
              (given_ends FileCounts cause_of result new files_rest cause);
        })
