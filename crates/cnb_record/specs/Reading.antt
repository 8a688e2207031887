-- Files that must be there.
use Rattle.std.specs.Prelude.{ℕ, Bool, List, Option, Some, None, Result, Ok, Err}
use Rattle.cnb_world.specs.Steps.{◌>>=◌}
use Rattle.cnb_world.specs.Tree.{Tree, is_file_or_absent, item_at}
use Rattle.cnb_world.specs.declared.limits.LimitKind.TheVariants.{Record}
use Rattle.cnb_toml.specs.declared.fault.DocFault.{DocFault}
use Rattle.cnb_toml.specs.declared.fault.DocFault.TheVariants.{Absent}
use Rattle.doc_files.specs.Reading.{document_at, file_at, read_at}
use Rattle.doc_files.specs.declared.fault.ReadFault.{ReadFault}
use Rattle.doc_files.specs.declared.fault.ReadFault.TheVariants.{Document}

-- what the bytes of a file read as; the file must be there
abbrev pub needed : {A : Type 0} → (List ℕ → Result A DocFault) → List ℕ → Option (List ℕ) → Result A ReadFault
needed form path None = Err (Document path Absent)
needed form path (Some bytes) = read_at path (form bytes)

-- the document at a path
unfoldable pub needed_at : {A : Type 0} → (List ℕ → Result A DocFault) → List ℕ → Tree → Result A ReadFault
needed_at form path files = document_at files path >>= needed form path

-- the bytes of the record at a path
unfoldable pub record_at : List ℕ → Tree → Result (List ℕ) ReadFault
record_at path files = file_at 16777216 Record files path >>= needed Ok path

-- a file is there, or nothing
abbrev pub is_fit_file : List ℕ → Tree → Bool
is_fit_file path files = is_file_or_absent (item_at files path)
