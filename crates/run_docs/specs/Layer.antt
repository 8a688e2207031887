-- `<layer>.toml` (buildpack.md, "Layer Content Metadata (TOML)").
use Rattle.std.specs.Prelude.{ℕ, Bool, false, List, Result, Ok, codes}
use Rattle.toml.specs.Data.{boolean, Members, no_members, member}
use Rattle.cnb_toml.specs.declared.fault.DocFault.{DocFault}
use Rattle.cnb_toml.specs.Document.{document_of}
use Rattle.cnb_toml.specs.Fields.{truth_at, value_or}
use Rattle.cnb_toml.specs.Form.{TableForm, table_of}
use Rattle.cnb_toml.specs.Meta.{metadata_in, is_kept}
use Rattle.cnb_toml.specs.Reading.{◌>>=◌}
use Rattle.cnb_toml.specs.Written.{metadata_data, table_data}
use Rattle.run_docs.specs.declared.layer.LayerDoc.{LayerDoc}
use Rattle.run_docs.specs.declared.layer.LayerTypes.{LayerTypes}

abbrev pub types_in : TableForm LayerTypes
types_in table = do
  launch ← truth_at (codes "launch") table
  build ← truth_at (codes "build") table
  cache ← truth_at (codes "cache") table
  Ok (record { launch = launch; build = build; cache = cache })

abbrev pub no_types : LayerTypes
no_types = record { launch = false; build = false; cache = false }

abbrev pub table_in : TableForm LayerDoc
table_in table = do
  types ← value_or no_types (table_of types_in) (codes "types") table
  meta ← metadata_in table
  Ok (record { launch = types.launch; build = types.build; cache = types.cache; meta = meta })

-- the layer that bytes read as, or their first fault
abbrev pub layer_in : List ℕ → Result LayerDoc DocFault
layer_in bytes = document_of table_in bytes

-- a layer that can be read
abbrev pub is_layer_doc : LayerDoc → Bool
is_layer_doc layer = is_kept layer.meta

-- what is written of it
abbrev pub types_members : LayerTypes → Members
types_members types = member (codes "build") (boolean types.build)
    (member (codes "cache") (boolean types.cache) (member (codes "launch") (boolean types.launch) no_members))

abbrev pub types_of : LayerDoc → LayerTypes
types_of layer = record { launch = layer.launch; build = layer.build; cache = layer.cache }

abbrev pub layer_members : LayerDoc → Members
layer_members layer = member (codes "metadata") (metadata_data layer.meta)
    (member (codes "types") (table_data types_members (types_of layer)) no_members)
