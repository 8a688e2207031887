-- What the bytes of a document read as.
use Rattle.std.specs.Prelude.{ℕ, List, Option, Some, None, Result, Ok, Err, if◌then◌else◌}
use Rattle.std.specs.Str.{is_utf8}
use Rattle.toml.specs.Data.{Members}
use Rattle.toml.specs.Parse.{parse_document}
use Rattle.toml.specs.View.{table_view}
use Rattle.cnb_toml.specs.Form.{TableForm}
use Rattle.cnb_toml.specs.Reading.{◌>>=◌}
use Rattle.cnb_toml.specs.declared.doc.Doc.{Doc}
use Rattle.cnb_toml.specs.declared.fault.DocFault.{DocFault}
use Rattle.cnb_toml.specs.declared.fault.DocFault.TheVariants.{NotUtf8, NotToml}

-- the table that a document holds
abbrev pub table_of_document : Doc → Members
table_of_document doc = table_view doc.table

abbrev pub read_table : Result Doc DocFault → Result Members DocFault
read_table (Ok doc) = Ok (table_of_document doc)
read_table (Err fault) = Err fault

abbrev pub or_not_toml : Option Members → Result Members DocFault
or_not_toml (Some table) = Ok table
or_not_toml None = Err NotToml

-- the table that bytes are as UTF-8 and TOML
abbrev pub document_in : List ℕ → Result Members DocFault
document_in bytes = if is_utf8 bytes then or_not_toml (parse_document bytes) else Err NotUtf8

-- what a document's bytes read as, whose table is of this kind
abbrev pub document_of : {A : Type 0} → TableForm A → List ℕ → Result A DocFault
document_of form bytes = document_in bytes >>= form
