-- Build Plans (buildpack.md, "Build Plan (TOML)").
use Rattle.std.specs.Prelude.{ℕ, List, [], ◌∷◌, length, nat_lt, Result, Ok, Err, codes, if◌then◌else◌}
use Rattle.cnb_toml.specs.declared.fault.DocFault.{DocFault}
use Rattle.cnb_toml.specs.declared.fault.DocFault.TheVariants.{Wrong}
use Rattle.cnb_toml.specs.declared.meta.Need.{Need}
use Rattle.cnb_toml.specs.Document.{document_in}
use Rattle.cnb_toml.specs.Fields.{required_at, list_at}
use Rattle.cnb_toml.specs.Form.{TableForm, text_of, table_of}
use Rattle.cnb_toml.specs.Meta.{metadata_in}
use Rattle.cnb_toml.specs.Reading.{◌>>=◌}
use Rattle.bp_docs.specs.declared.build_plan.PlanOption.{PlanOption}

-- the most bytes of a Build Plan
abbrev pub most_bytes : ℕ
most_bytes = 1048576

-- a name that is provided
abbrev pub provided_in : TableForm (List ℕ)
provided_in table = required_at text_of (codes "name") table

-- a name that is required, with its metadata
abbrev pub required_in : TableForm Need
required_in table = do
  name ← required_at text_of (codes "name") table
  meta ← metadata_in table
  Ok (record { name = name; meta = meta })

-- one alternative
abbrev pub option_in : TableForm PlanOption
option_in table = do
  provides ← list_at (table_of provided_in) (codes "provides") table
  needs ← list_at (table_of required_in) (codes "requires") table
  Ok (record { provides = provides; needs = needs })

-- the alternatives of a table: its own, and each of `or`
abbrev pub options_in : TableForm (List PlanOption)
options_in table = do
  first ← option_in table
  others ← list_at (table_of option_in) (codes "or") table
  Ok (first ∷ others)

abbrev pub plan_within_limit : List ℕ → Result (List PlanOption) DocFault
plan_within_limit bytes = document_in bytes >>= options_in

-- the alternatives that the bytes of a Build Plan read as, which are refused first where they are too many
unfoldable pub build_plan_in : List ℕ → Result (List PlanOption) DocFault
build_plan_in bytes = if nat_lt most_bytes (length bytes) then Err (Wrong []) else plan_within_limit bytes
