-- `plan.toml` (platform.md, "plan.toml (TOML)").
use Rattle.std.specs.Prelude.{ℕ, Bool, true, false, ◌&&◌, List, [], ◌∷◌, Option, Some, None, Result, Ok, Err, codes}
use Rattle.std.specs.Prelude.{if◌then◌else◌}
use Rattle.std.specs.List.{list_all}
use Rattle.std.specs.Str.{bytes_eq}
use Rattle.toml.specs.Data.{Members, no_members, member}
use Rattle.cnb_toml.specs.declared.fault.DocFault.{DocFault}
use Rattle.cnb_toml.specs.declared.fault.DocFault.TheVariants.{Wrong}
use Rattle.cnb_toml.specs.declared.meta.Need.{Need}
use Rattle.cnb_toml.specs.declared.names.Key.{Key}
use Rattle.cnb_toml.specs.Document.{document_of}
use Rattle.cnb_toml.specs.Fields.{required_at, value_or, list_at}
use Rattle.cnb_toml.specs.Form.{TableForm, text_of, table_of}
use Rattle.cnb_toml.specs.Keys.{key_in, is_key, key_members}
use Rattle.cnb_toml.specs.Meta.{metadata_in, is_kept}
use Rattle.cnb_toml.specs.Need.{need_members}
use Rattle.cnb_toml.specs.Reading.{◌>>=◌}
use Rattle.cnb_toml.specs.Rows.{RowForm, rows_of}
use Rattle.cnb_toml.specs.Written.{list_data, table_data}
use Rattle.run_docs.specs.declared.plan.PlanEntry.{PlanEntry}

-- the name that the first requirement of an entry gives it
abbrev pub first_name : List Need → Option (List ℕ)
first_name [] = None
first_name (first ∷ needs) = Some first.name

-- a name, where it is that of the first requirement
abbrev pub same_name : Option (List ℕ) → List ℕ → Result (List ℕ) DocFault
same_name None name = Ok name
same_name (Some first) name = if bytes_eq first name then Ok name else Err (Wrong (codes "name"))

-- a requirement behind others of its entry, which has the first one's name
abbrev pub need_in : RowForm Need
need_in before table = do
  name ← required_at text_of (codes "name") table
  same ← same_name (first_name before) name
  meta ← metadata_in table
  Ok (record { name = name; meta = meta })

-- an entry of these providers, which has a requirement and with it a name
abbrev pub entry_of : List Key → List Need → Result PlanEntry DocFault
entry_of providers [] = Err (Wrong (codes "requires"))
entry_of providers (first ∷ needs) = Ok (record { name = first.name; providers = providers; needs = first ∷ needs })

abbrev pub entry_in : TableForm PlanEntry
entry_in table = do
  providers ← list_at (table_of key_in) (codes "providers") table
  needs ← value_or [] (rows_of need_in) (codes "requires") table
  entry_of providers needs

abbrev pub entries_in : TableForm (List PlanEntry)
entries_in table = list_at (table_of entry_in) (codes "entries") table

-- the plan that bytes read as, or their first fault
abbrev pub plan_in : List ℕ → Result (List PlanEntry) DocFault
plan_in bytes = document_of entries_in bytes

-- a plan that can be read: each entry has a requirement, and each requirement has the entry's name and kept metadata
abbrev pub has_needs : List Need → Bool
has_needs [] = false
has_needs (first ∷ needs) = true

abbrev pub is_need_of : List ℕ → Need → Bool
is_need_of name need = bytes_eq need.name name && is_kept need.meta

abbrev pub is_entry : PlanEntry → Bool
is_entry entry = has_needs entry.needs && list_all (is_need_of entry.name) entry.needs

abbrev pub is_plan_doc : List PlanEntry → Bool
is_plan_doc entries = list_all is_entry entries

-- the names of its providers are of their form
abbrev pub has_key_providers : PlanEntry → Bool
has_key_providers entry = list_all is_key entry.providers

-- what is written of it
abbrev pub entry_members : PlanEntry → Members
entry_members entry =
    member (codes "providers") (list_data (table_data key_members) entry.providers)
    (member (codes "requires") (list_data (table_data need_members) entry.needs) no_members)

abbrev pub plan_members : List PlanEntry → Members
plan_members entries = member (codes "entries") (list_data (table_data entry_members) entries) no_members
