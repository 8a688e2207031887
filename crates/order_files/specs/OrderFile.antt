-- The order of an order file (platform.md, "order.toml (TOML)").
use Rattle.std.specs.Prelude.{ℕ, Bool, List, Option, Some, None, Result, Err}
use Rattle.cnb_world.specs.Steps.{◌>>=◌}
use Rattle.cnb_world.specs.Tree.{Tree, is_file_or_absent, item_at}
use Rattle.cnb_toml.specs.declared.fault.DocFault.TheVariants.{Absent}
use Rattle.bp_docs.specs.Order.{order_in}
use Rattle.bp_docs.specs.declared.descriptor.Entry.{Entry}
use Rattle.doc_files.specs.Reading.{document_at, read_at}
use Rattle.doc_files.specs.declared.fault.ReadFault.{ReadFault}
use Rattle.doc_files.specs.declared.fault.ReadFault.TheVariants.{Document}

-- the order that a document is; the document must be there
abbrev pub order_of : List ℕ → Option (List ℕ) → Result (List (List Entry)) ReadFault
order_of path None = Err (Document path Absent)
order_of path (Some bytes) = read_at path (order_in bytes)

-- the order of the order file at a path
unfoldable pub order_file_in : List ℕ → Tree → Result (List (List Entry)) ReadFault
order_file_in path files = document_at files path >>= order_of path

-- a file is there, or nothing
abbrev pub is_fit_order_file : List ℕ → Tree → Bool
is_fit_order_file path files = is_file_or_absent (item_at files path)
