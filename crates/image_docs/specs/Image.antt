-- An image, in this project's own layout: versions 1 and 2 are read, and version 2 is written.
use Rattle.std.specs.Prelude.{ℕ, ℤ, pos, negsuc, Bool, false, ◌&&◌, ◌||◌, ◌==◌, List, [], Result, Ok, Err, codes}
use Rattle.std.specs.Prelude.{if◌then◌else◌}
use Rattle.std.specs.List.{list_all}
use Rattle.toml.specs.Data.{string, integer, Members, no_members, member}
use Rattle.cnb_world.specs.Path.{is_short_path}
use Rattle.cnb_toml.specs.declared.fault.DocFault.{DocFault}
use Rattle.cnb_toml.specs.declared.fault.DocFault.TheVariants.{Wrong}
use Rattle.cnb_toml.specs.Document.{document_of}
use Rattle.cnb_toml.specs.Fields.{required_at, list_at, value_or}
use Rattle.cnb_toml.specs.Form.{Form, TableForm, whole_of, name_of, table_of}
use Rattle.cnb_toml.specs.Label.{label_in, is_label, label_members}
use Rattle.cnb_toml.specs.Reading.{◌>>=◌}
use Rattle.cnb_toml.specs.Rows.{rows_of}
use Rattle.cnb_toml.specs.Written.{list_data, table_data}
use Rattle.image_docs.specs.declared.image.ImageDoc.{ImageDoc}
use Rattle.image_docs.specs.declared.image.Provided.{Provided}
use Rattle.image_docs.specs.declared.row.Row.{Row}
use Rattle.image_docs.specs.Base.{base_in, has_base_names, is_base, base_members}
use Rattle.image_docs.specs.EnvRows.{env_at, is_env, env_data}
use Rattle.image_docs.specs.LaunchDoc.{launch_doc_table_in, has_launch_names, is_launch_doc, launch_doc_members}
use Rattle.image_docs.specs.LayerRow.{layers_at, has_layer_names, are_layers, layers_data}
use Rattle.image_docs.specs.OldRow.{old_rows_at}
use Rattle.image_docs.specs.Row.{rows_at, has_digest, are_rows, rows_data}
use Rattle.image_docs.specs.StoreRow.{store_row_in, has_id, is_store, store_data}

abbrev pub is_one : ℤ → Bool
is_one (pos number) = number == 1
is_one (negsuc number) = false

-- a version of the layout
abbrev pub is_known : ℤ → Bool
is_known (pos number) = number == 1 || number == 2
is_known (negsuc number) = false

abbrev pub version_in : ℤ → Result ℤ DocFault
version_in number = if is_known number then Ok number else Err (Wrong [])

abbrev pub version_of : Form ℤ
version_of value = whole_of value >>= version_in

-- the rows of an image on the run image of this name, in a version of the layout
abbrev pub rows_of_version : ℤ → List ℕ → TableForm (List Row)
rows_of_version version base table = if is_one version then old_rows_at base table else rows_at table

-- what buildpacks gave to an image
abbrev pub provided_in : TableForm Provided
provided_in table = do
  labels ← list_at (table_of label_in) (codes "labels") table
  launch ← required_at (table_of launch_doc_table_in) (codes "launch") table
  layers ← layers_at false table
  store ← value_or [] (rows_of store_row_in) (codes "store") table
  Ok (record { labels = labels; launch = launch; layers = layers; store = store })

abbrev pub image_table_in : TableForm ImageDoc
image_table_in table = do
  version ← required_at version_of (codes "version") table
  base ← required_at (table_of base_in) (codes "base") table
  rows ← rows_of_version version base.name table
  env ← env_at table
  entrypoint ← required_at (name_of is_short_path) (codes "entrypoint") table
  provided ← provided_in table
  Ok (record {
    base = base;
    rows = rows;
    env = env;
    entrypoint = entrypoint;
    labels = provided.labels;
    launch =
        provided.launch;
    layers = provided.layers;
    store = provided.store;
  })

-- the image that bytes read as, or their first fault
abbrev pub image_in : List ℕ → Result ImageDoc DocFault
image_in bytes = document_of image_table_in bytes

abbrev pub has_image_names : ImageDoc → Bool
has_image_names image =
    has_base_names image.base && (list_all has_digest image.rows
    && (has_launch_names image.launch && (list_all has_layer_names image.layers
    && list_all has_id image.store)))

-- an image that can be read
abbrev pub is_image_doc : ImageDoc → Bool
is_image_doc image =
    is_base image.base && (are_rows image.rows && (is_env image.env && (is_short_path image.entrypoint
    && (list_all is_label image.labels && (is_launch_doc image.launch
    && (are_layers false image.layers && is_store image.store))))))

-- what is written of it
abbrev pub image_members : ImageDoc → Members
image_members image =
    member (codes "base") (table_data base_members image.base)
    (member (codes "entrypoint") (string image.entrypoint) (member (codes "env") (env_data image.env)
    (member (codes "labels") (list_data (table_data label_members) image.labels)
    (member (codes "launch") (table_data launch_doc_members image.launch)
    (member (codes "layers") (layers_data image.layers)
    (member (codes "rows") (rows_data image.rows) (member (codes "store") (store_data image.store)
    (member (codes "version") (integer (pos 2)) no_members))))))))
