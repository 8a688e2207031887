-- Documents that are read by their forms.
use Rattle.std.specs.Prelude.{ℕ, ◌≡◌, Bool, List, Option, Some, None, Result, Ok, Err}
use Rattle.cnb_world.specs.Tree.{Tree, is_file_or_absent, item_at}
use Rattle.cnb_toml.specs.Document.{document_of}
use Rattle.cnb_toml.specs.Form.{TableForm}
use Rattle.doc_files.specs.Reading.{document_at, read_at}
use Rattle.doc_files.specs.declared.fault.ReadFault.{ReadFault}
use Rattle.steps.specs.Results.{◌>>=◌}

-- a value that is there
abbrev pub some_of : {A E : Type 0} → Result A E → Result (Option A) E
some_of (Ok value) = Ok (Some value)
some_of (Err fault) = Err fault

-- what bytes read as, where they are there
abbrev pub found_of : {A : Type 0} → TableForm A → List ℕ → Option (List ℕ) → Result (Option A) ReadFault
found_of form path None = Ok None
found_of form path (Some bytes) = some_of (read_at path (document_of form bytes))

-- the document at a path, where one is there
abbrev pub document_in : {A : Type 0} → TableForm A → List ℕ → Tree → Result (Option A) ReadFault
document_in form path files = document_at files path >>= found_of form path

-- a value that some bytes read as
abbrev pub IsRead : {A : Type 0} → TableForm A → A → Type 0
IsRead form value = (bytes : List ℕ) × (document_of form bytes ≡ Ok value)

-- a file is there, or nothing
abbrev pub is_fit_document : List ℕ → Tree → Bool
is_fit_document path files = is_file_or_absent (item_at files path)
