-- Reading files, as steps of an export.
use Rattle.std.specs.Prelude.{ℕ, Bool, true, List, [], Option, Some, None, Result, Ok, unwrap_or}
use Rattle.cnb_world.specs.Tree.{Tree, is_file_or_absent, item_at, kind_of}
use Rattle.cnb_world.specs.declared.world.Kind.{Kind}
use Rattle.cnb_toml.specs.declared.fault.DocFault.{DocFault}
use Rattle.doc_files.specs.Reading.{document_at, read_at}
use Rattle.doc_files.specs.declared.fault.ReadFault.{ReadFault}
use Rattle.steps.specs.Causes.{Only}
use Rattle.steps.specs.Outside.{Seen}
use Rattle.steps.specs.Results.{and_then, with_fault}
use Rattle.steps.specs.Steps.{◌>>=◌, gives, reads}
use Rattle.cnb_layers.specs.declared.fault.ExportFault.{ExportFault}
use Rattle.cnb_layers.specs.Refusals.{cause_of, of_read_fault}

-- files are read; a failed call is told with one of these paths
abbrev pub reads_files : {A : Type 0} → (List ℕ → Type 0) → (Tree → Bool) → (Tree → Result A ReadFault) → Seen
    → Result A ExportFault → Seen → Type 0
reads_files Among fits want = reads cause_of Among fits (λ files. with_fault of_read_fault (want files))

-- what stands at a path
abbrev pub reads_kind : List ℕ → Seen → Result Kind ExportFault → Seen → Type 0
reads_kind path = reads_files (Only path) (λ files. true) (λ files. Ok (kind_of (item_at files path)))

-- the document at a path is read, where one is there
abbrev pub reads_document : List ℕ → Seen → Result (Option (List ℕ)) ExportFault → Seen → Type 0
reads_document path = reads_files (Only path) (λ files. is_file_or_absent (item_at files path))
    (λ files. document_at files path)

-- what the reader of a document answers
abbrev pub value_at : {A : Type 0} → List ℕ → Result A DocFault → Result A ExportFault
value_at path answer = with_fault of_read_fault (read_at path answer)

-- the same, where there is a document
abbrev pub some_value_at : {A : Type 0} → (List ℕ → Result A DocFault) → List ℕ → Option (List ℕ)
    → Result (Option A) ExportFault
some_value_at form path None = Ok None
some_value_at form path (Some bytes) = and_then (value_at path (form bytes)) (λ value. Ok (Some value))

-- a document is read; one that isn't there is empty
unfoldable pub reads_as : {A : Type 0} → (List ℕ → Result A DocFault) → List ℕ → Seen → Result A ExportFault
    → Seen → Type 0
reads_as form path = do
  found ← reads_document path
  gives cause_of (value_at path (form (unwrap_or found [])))

-- a document is read, where one is there
unfoldable pub reads_some : {A : Type 0} → (List ℕ → Result A DocFault) → List ℕ → Seen
    → Result (Option A) ExportFault → Seen → Type 0
reads_some form path = do
  found ← reads_document path
  gives cause_of (some_value_at form path found)
