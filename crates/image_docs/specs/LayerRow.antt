-- The layers of an image, and those that a cache keeps, in this project's own layout.
use Rattle.std.specs.Prelude.{Bool, not, ◌&&◌, List, [], Result, Ok, Err, codes, if◌then◌else◌}
use Rattle.std.specs.List.{list_all}
use Rattle.std.specs.Str.{bytes_eq}
use Rattle.toml.specs.Data.{Data, string, boolean, Members, no_members, member}
use Rattle.cnb_toml.specs.declared.fault.DocFault.{DocFault}
use Rattle.cnb_toml.specs.declared.fault.DocFault.TheVariants.{Wrong}
use Rattle.cnb_toml.specs.Distinct.{are_distinct}
use Rattle.cnb_toml.specs.Fields.{required_at, truth_at, value_or}
use Rattle.cnb_toml.specs.Form.{TableForm, name_of}
use Rattle.cnb_toml.specs.Meta.{metadata_in, is_kept}
use Rattle.cnb_toml.specs.Names.{is_bp_id, is_layer_name}
use Rattle.cnb_toml.specs.Reading.{◌>>=◌}
use Rattle.cnb_toml.specs.Rows.{RowForm, rows_of}
use Rattle.cnb_toml.specs.Written.{list_data, table_data, metadata_data}
use Rattle.image_docs.specs.declared.layer_row.LayerKey.{LayerKey}
use Rattle.image_docs.specs.declared.layer_row.LayerRow.{LayerRow}
use Rattle.image_docs.specs.DigestText.{digest_of, is_digest, digest_data}
use Rattle.image_docs.specs.DistinctRows.{distinct_row}

-- the flag `cache`, which a cache's own rows have
abbrev pub cache_flag : Bool → Bool → Result Bool DocFault
cache_flag cached cache = if cached && not cache then Err (Wrong (codes "cache")) else Ok cache

-- a layer of an image, or of a cache
abbrev pub layer_in : Bool → TableForm LayerRow
layer_in cached table = do
  id ← required_at (name_of is_bp_id) (codes "id") table
  layer ← required_at (name_of is_layer_name) (codes "layer") table
  launch ← truth_at (codes "launch") table
  build ← truth_at (codes "build") table
  cache ← truth_at (codes "cache") table
  kept ← cache_flag cached cache
  digest ← required_at digest_of (codes "digest") table
  meta ← metadata_in table
  Ok (record {
    id = id;
    layer = layer;
    flags = record { launch = launch; build = build; cache = cache };
    meta =
        meta;
    digest = digest;
  })

-- what tells one layer from another
abbrev pub layer_key : LayerRow → LayerKey
layer_key row = record { id = row.id; layer = row.layer }

abbrev pub same_layer : LayerKey → LayerKey → Bool
same_layer a b = bytes_eq a.id b.id && bytes_eq a.layer b.layer

-- a layer behind others, which has a key of its own
abbrev pub layer_row_in : Bool → RowForm LayerRow
layer_row_in cached = distinct_row same_layer layer_key (layer_in cached)

-- a list of layers, empty where it isn't there
abbrev pub layers_at : Bool → TableForm (List LayerRow)
layers_at cached table = value_or [] (rows_of (layer_row_in cached)) (codes "layers") table

abbrev pub has_layer_names : LayerRow → Bool
has_layer_names row = is_bp_id row.id && (is_layer_name row.layer && is_digest row.digest)

-- a layer that can be read
abbrev pub is_layer_row : Bool → LayerRow → Bool
is_layer_row cached row = not (cached && not row.flags.cache) && is_kept row.meta

abbrev pub are_layers : Bool → List LayerRow → Bool
are_layers cached rows = list_all (is_layer_row cached) rows && are_distinct same_layer layer_key rows

-- what is written of it
abbrev pub layer_members : LayerRow → Members
layer_members row =
    member (codes "build") (boolean row.flags.build)
    (member (codes "cache") (boolean row.flags.cache) (member (codes "digest") (digest_data row.digest)
    (member (codes "id") (string row.id) (member (codes "launch") (boolean row.flags.launch)
    (member (codes "layer") (string row.layer) (member (codes "metadata")
    (metadata_data row.meta) no_members))))))

abbrev pub layers_data : List LayerRow → Data
layers_data rows = list_data (table_data layer_members) rows
