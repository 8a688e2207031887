-- The document that says how an image is launched.
use Rattle.std.specs.Prelude.{ℕ, Bool, List, Option, Some, None, Result, Err}
use Rattle.cnb_world.specs.Tree.{Tree, is_file_or_absent, item_at}
use Rattle.cnb_toml.specs.declared.fault.DocFault.TheVariants.{Absent}
use Rattle.doc_files.specs.Reading.{document_at, read_at}
use Rattle.doc_files.specs.declared.fault.ReadFault.{ReadFault}
use Rattle.doc_files.specs.declared.fault.ReadFault.TheVariants.{Document}
use Rattle.image_docs.specs.LaunchDoc.{launch_doc_in}
use Rattle.image_docs.specs.declared.launch_doc.LaunchDoc.{LaunchDoc}
use Rattle.steps.specs.Results.{◌>>=◌}
use Rattle.cnb_launch.specs.Places.{launch_doc_path}

-- the document must be there
abbrev pub launch_doc_of : List ℕ → Option (List ℕ) → Result LaunchDoc ReadFault
launch_doc_of path None = Err (Document path Absent)
launch_doc_of path (Some bytes) = read_at path (launch_doc_in bytes)

abbrev pub launch_doc_at : List ℕ → Tree → Result LaunchDoc ReadFault
launch_doc_at path files = document_at files path >>= launch_doc_of path

-- the document of the image under a root
unfoldable pub launch_doc_under : List ℕ → Tree → Result LaunchDoc ReadFault
launch_doc_under root files = launch_doc_at (launch_doc_path root) files

-- a file is there, or nothing
abbrev pub is_fit_doc : List ℕ → Tree → Bool
is_fit_doc root files = is_file_or_absent (item_at files (launch_doc_path root))
