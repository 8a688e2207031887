-- Buildpack descriptors (buildpack.md, "buildpack.toml (TOML)").
use Rattle.std.specs.Prelude.{ℕ, Bool, List, [], ◌∷◌, Result, Ok, codes, if◌then◌else◌}
use Rattle.cnb_toml.specs.declared.fault.DocFault.{DocFault}
use Rattle.cnb_toml.specs.Api.{is_served}
use Rattle.cnb_toml.specs.Document.{document_in}
use Rattle.cnb_toml.specs.Reading.{◌>>=◌}
use Rattle.cnb_toml.specs.Fields.{required_at, truth_at}
use Rattle.cnb_toml.specs.Form.{TableForm, text_of, table_of}
use Rattle.cnb_toml.specs.Keys.{key_in}
use Rattle.bp_docs.specs.declared.descriptor.Body.{Body}
use Rattle.bp_docs.specs.declared.descriptor.Body.TheVariants.{Component, Composite, Foreign}
use Rattle.bp_docs.specs.declared.descriptor.Descriptor.{Descriptor}
use Rattle.bp_docs.specs.declared.descriptor.Entry.{Entry}
use Rattle.bp_docs.specs.declared.descriptor.Head.{Head}
use Rattle.bp_docs.specs.declared.descriptor.TargetRule.{TargetRule}
use Rattle.bp_docs.specs.Order.{order_at}
use Rattle.bp_docs.specs.Targets.{targets_at}

-- the table `buildpack`
abbrev pub head_in : TableForm Head
head_in table = do
  key ← key_in table
  clear_env ← truth_at (codes "clear-env") table
  Ok (record { key = key; clear_env = clear_env })

-- a buildpack without groups is a component; the targets of a composite have no effect
abbrev pub body_of : Bool → List TargetRule → List (List Entry) → Body
body_of clear_env targets [] = Component clear_env targets
body_of clear_env targets (group ∷ groups) = Composite (group ∷ groups)

-- a descriptor of this Buildpack API
abbrev pub known_in : TableForm Descriptor
known_in table = do
  head ← required_at (table_of head_in) (codes "buildpack") table
  targets ← targets_at table
  order ← order_at table
  Ok (record { key = head.key; body = body_of head.clear_env targets order })

-- a descriptor of another one, of which nothing but its key is read
abbrev pub foreign_in : List ℕ → TableForm Descriptor
foreign_in api table = do
  key ← required_at (table_of key_in) (codes "buildpack") table
  Ok (record { key = key; body = Foreign api })

abbrev pub described_by : List ℕ → TableForm Descriptor
described_by api table = if is_served api then known_in table else foreign_in api table

abbrev pub descriptor_at : TableForm Descriptor
descriptor_at table = required_at text_of (codes "api") table >>= (λ api. described_by api table)

-- the descriptor that the bytes of a `buildpack.toml` read as
unfoldable pub descriptor_in : List ℕ → Result Descriptor DocFault
descriptor_in bytes = document_in bytes >>= descriptor_at
