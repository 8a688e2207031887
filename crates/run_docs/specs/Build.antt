-- `build.toml` (buildpack.md, "build.toml (TOML)").
use Rattle.std.specs.Prelude.{ℕ, List, Result, codes}
use Rattle.toml.specs.Data.{string, Members, no_members, member}
use Rattle.cnb_toml.specs.declared.fault.DocFault.{DocFault}
use Rattle.cnb_toml.specs.Document.{document_of}
use Rattle.cnb_toml.specs.Fields.{required_at, list_at}
use Rattle.cnb_toml.specs.Form.{TableForm, text_of, table_of}
use Rattle.cnb_toml.specs.Written.{list_data, table_data}

abbrev pub unmet_in : TableForm (List ℕ)
unmet_in table = required_at text_of (codes "name") table

abbrev pub table_in : TableForm (List (List ℕ))
table_in table = list_at (table_of unmet_in) (codes "unmet") table

-- the unmet names that bytes read as, or their first fault
abbrev pub build_in : List ℕ → Result (List (List ℕ)) DocFault
build_in bytes = document_of table_in bytes

-- what is written of them
abbrev pub unmet_members : List ℕ → Members
unmet_members name = member (codes "name") (string name) no_members

abbrev pub build_members : List (List ℕ) → Members
build_members names = member (codes "unmet") (list_data (table_data unmet_members) names) no_members
