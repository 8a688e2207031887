-- Reading files, as steps of a build.
use Rattle.std.specs.Prelude.{ℕ, Bool, List, [], Option, Result, unwrap_or}
use Rattle.cnb_world.specs.Tree.{Tree, is_file_or_absent, item_at}
use Rattle.cnb_toml.specs.declared.fault.DocFault.{DocFault}
use Rattle.doc_files.specs.Reading.{document_at, read_at}
use Rattle.doc_files.specs.declared.fault.ReadFault.{ReadFault}
use Rattle.steps.specs.Causes.{Only}
use Rattle.steps.specs.Outside.{Seen}
use Rattle.steps.specs.Results.{with_fault}
use Rattle.steps.specs.Steps.{◌>>=◌, gives, reads}
use Rattle.cnb_build.specs.declared.fault.BuildFault.{BuildFault}
use Rattle.cnb_build.specs.Refusals.{cause_of, of_read_fault}

-- files are read, and a failed call is told with one of these paths
abbrev pub reads_files : {A : Type 0} → (List ℕ → Type 0) → (Tree → Bool) → (Tree → Result A ReadFault) → Seen
    → Result A BuildFault → Seen → Type 0
reads_files Among fits want = reads cause_of Among fits (λ files. with_fault of_read_fault (want files))

-- the document at a path is read, where one is there
abbrev pub reads_document : List ℕ → Seen → Result (Option (List ℕ)) BuildFault → Seen → Type 0
reads_document path = reads_files (Only path) (λ files. is_file_or_absent (item_at files path))
    (λ files. document_at files path)

-- what the reader of a document answers
abbrev pub value_at : {A : Type 0} → List ℕ → Result A DocFault → Result A BuildFault
value_at path answer = with_fault of_read_fault (read_at path answer)

-- a document is read; one that isn't there is empty
unfoldable pub reads_as : {A : Type 0} → (List ℕ → Result A DocFault) → List ℕ → Seen → Result A BuildFault → Seen
    → Type 0
reads_as form path = do
  found ← reads_document path
  gives cause_of (value_at path (form (unwrap_or found [])))
