-- The Buildpack Plan (buildpack.md, "Buildpack Plan (TOML)").
use Rattle.std.specs.Prelude.{ℕ, Bool, List, Result, codes}
use Rattle.std.specs.List.{list_all}
use Rattle.toml.specs.Data.{Members, no_members, member}
use Rattle.cnb_toml.specs.declared.fault.DocFault.{DocFault}
use Rattle.cnb_toml.specs.declared.meta.Need.{Need}
use Rattle.cnb_toml.specs.Document.{document_of}
use Rattle.cnb_toml.specs.Fields.{list_at}
use Rattle.cnb_toml.specs.Form.{TableForm, table_of}
use Rattle.cnb_toml.specs.Need.{need_in, is_kept_need, need_members}
use Rattle.cnb_toml.specs.Written.{list_data, table_data}

abbrev pub needs_in : TableForm (List Need)
needs_in table = list_at (table_of need_in) (codes "entries") table

-- the Buildpack Plan that bytes read as, or their first fault
abbrev pub bp_plan_in : List ℕ → Result (List Need) DocFault
bp_plan_in bytes = document_of needs_in bytes

-- a Buildpack Plan that can be read
abbrev pub is_bp_plan : List Need → Bool
is_bp_plan needs = list_all is_kept_need needs

-- what is written of it
abbrev pub bp_plan_members : List Need → Members
bp_plan_members needs = member (codes "entries") (list_data (table_data need_members) needs) no_members
