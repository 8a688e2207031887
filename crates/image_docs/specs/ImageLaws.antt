-- An image reads back.
use Rattle.std.specs.Prelude.{◌≡◌, ◌≤◌, ℤ, true, false, ◌&&◌, Ok}
use Rattle.std.specs.List.{list_all}
use Rattle.std.proofs.Common.{refl}
use Rattle.std.proofs.Math.Nat.{le_refl, le_trans, max-le}
use Rattle.std.proofs.lemmas.Bool.{and_parts, and_from, cond-true, leb-true}
use Rattle.toml.specs.Data.{integer, members_depth, members_have_valid_dates}
use Rattle.cnb_world.specs.Path.{is_short_path}
use Rattle.cnb_toml.specs.Form.{table_of}
use Rattle.cnb_toml.specs.Label.{label_in, is_label, label_members}
use Rattle.cnb_toml.specs.LabelLaws.{label_read}
use Rattle.cnb_toml.specs.Written.{table_data}
use Rattle.cnb_toml.specs.WrittenLaws.{all_true, zero_within, suc_within, name_read, list_read, list_dates, list_within}
use Rattle.image_docs.specs.declared.image.ImageDoc.{ImageDoc}
use Rattle.image_docs.specs.Base.{has_base_names, is_base}
use Rattle.image_docs.specs.BaseLaws.{base_read}
use Rattle.image_docs.specs.EnvRows.{is_env}
use Rattle.image_docs.specs.EnvRowsLaws.{env_read, env_dates, env_within}
use Rattle.image_docs.specs.Image.{is_known, version_of, image_table_in, has_image_names, is_image_doc, image_members}
use Rattle.image_docs.specs.LaunchDoc.{has_launch_names, is_launch_doc}
use Rattle.image_docs.specs.LaunchDocLaws.{launch_doc_read, launch_doc_dates, launch_doc_within}
use Rattle.image_docs.specs.LayerRow.{has_layer_names, are_layers}
use Rattle.image_docs.specs.LayerRowLaws.{layers_read, layers_dates, layers_within}
use Rattle.image_docs.specs.Row.{has_digest, is_row, are_ordered, are_rows}
use Rattle.image_docs.specs.RowLaws.{rows_read_list, ordered_read, rows_dates, rows_within_list}
use Rattle.image_docs.specs.StoreRow.{has_id, is_store}
use Rattle.image_docs.specs.StoreRowLaws.{store_read, store_dates, store_within}

pub version_read : (number : ℤ) → is_known number ≡ true → version_of (integer number) ≡ Ok number
version_read number known = cond-true (is_known number) _ _ known

-- what the types of an image say of its parts
pub record Names (image : ImageDoc) : Type 0 where
  pub base : has_base_names image.base ≡ true
  pub rows : list_all has_digest image.rows ≡ true
  pub launch : has_launch_names image.launch ≡ true
  pub layers : list_all has_layer_names image.layers ≡ true
  pub store : list_all has_id image.store ≡ true

names_of : (image : ImageDoc) → has_image_names image ≡ true → Names image
names_of image typed =
    let a = and_parts (has_base_names image.base)
    (list_all has_digest image.rows && (has_launch_names image.launch
    && (list_all has_layer_names image.layers && list_all has_id image.store))) typed in
    let b = and_parts (list_all has_digest image.rows)
    (has_launch_names image.launch && (list_all has_layer_names image.layers && list_all has_id image.store))
    a.1 in
    let c = and_parts (has_launch_names image.launch)
    (list_all has_layer_names image.layers && list_all has_id image.store) b.1 in
    let d = and_parts (list_all has_layer_names image.layers) (list_all has_id image.store) c.1 in
    record { base = a.0; rows = b.0; launch = c.0; layers = d.0; store = d.1 }

-- what can be read of its parts
pub record Parts (image : ImageDoc) : Type 0 where
  pub base : is_base image.base ≡ true
  pub each_row : list_all is_row image.rows ≡ true
  pub ordered : are_ordered image.rows ≡ true
  pub env : is_env image.env ≡ true
  pub entrypoint : is_short_path image.entrypoint ≡ true
  pub labels : list_all is_label image.labels ≡ true
  pub launch : is_launch_doc image.launch ≡ true
  pub layers : are_layers false image.layers ≡ true
  pub store : is_store image.store ≡ true

parts_of : (image : ImageDoc) → is_image_doc image ≡ true → Parts image
parts_of image sound =
    let a = and_parts (is_base image.base) (are_rows image.rows
    && (is_env image.env && (is_short_path image.entrypoint
    && (list_all is_label image.labels && (is_launch_doc image.launch
    && (are_layers false image.layers && is_store image.store)))))) sound in
    let b = and_parts (are_rows image.rows) (is_env image.env
    && (is_short_path image.entrypoint && (list_all is_label image.labels
    && (is_launch_doc image.launch && (are_layers false image.layers && is_store image.store))))) a.1 in
    let rows = and_parts (list_all is_row image.rows) (are_ordered image.rows) b.0 in
    let c = and_parts (is_env image.env) (is_short_path image.entrypoint
    && (list_all is_label image.labels && (is_launch_doc image.launch
    && (are_layers false image.layers && is_store image.store)))) b.1 in
    let d = and_parts (is_short_path image.entrypoint)
    (list_all is_label image.labels && (is_launch_doc image.launch
    && (are_layers false image.layers && is_store image.store))) c.1 in
    let e = and_parts (list_all is_label image.labels)
    (is_launch_doc image.launch && (are_layers false image.layers && is_store image.store)) d.1 in
    let f = and_parts (is_launch_doc image.launch) (are_layers false image.layers && is_store image.store) e.1 in
    let g = and_parts (are_layers false image.layers) (is_store image.store) f.1 in
    record {
      base = a.0;
      each_row = rows.0;
      ordered = rows.1;
      env = c.0;
      entrypoint = d.0;
      labels = e.0;
      launch =
          f.0;
      layers = g.0;
      store = g.1;
    }

pub image_read : (image : ImageDoc) → has_image_names image ≡ true → is_image_doc image ≡ true
    → image_table_in (image_members image) ≡ Ok image
image_read image typed sound =
    let names = names_of image typed in
    let parts = parts_of image sound in
    rw (
      base_read image.base names.base parts.base,
      rows_read_list image.rows names.rows parts.each_row,
      ordered_read image.rows parts.ordered,
      env_read image.env parts.env,
      name_read is_short_path image.entrypoint parts.entrypoint,
      list_read (table_data label_members) (table_of label_in) (λ label. true) is_label label_read image.labels
          (all_true image.labels) parts.labels,
      launch_doc_read image.launch names.launch parts.launch,
      layers_read false image.layers names.layers parts.layers,
      store_read image.store names.store parts.store,
    )

pub image_dates : (image : ImageDoc) → members_have_valid_dates (image_members image) ≡ true
image_dates image =
    and_from _ _ (env_dates image.env) (and_from _ _
    (list_dates (table_data label_members) (λ label. refl) image.labels)
    (and_from _ _ (launch_doc_dates image.launch)
    (and_from _ _ (layers_dates image.layers) (and_from _ _ (rows_dates image.rows)
    (and_from _ _ (store_dates image.store) refl)))))

pub image_within : (image : ImageDoc) → is_image_doc image ≡ true → members_depth (image_members image) ≤ 35
image_within image sound =
    let parts = parts_of image sound in
    max-le (leb-true 1 35 refl) (max-le (zero_within 35) (max-le (le_trans (env_within image.env) (leb-true 2 35 refl))
    (max-le (le_trans (list_within (table_data label_members) is_label 1
    (λ label sound. le_refl 1) image.labels parts.labels) (leb-true 2 35 refl))
    (max-le (le_trans (suc_within _ 3 (launch_doc_within image.launch parts.launch)) (leb-true 4 35 refl))
    (max-le (layers_within false image.layers parts.layers)
    (max-le (le_trans (rows_within_list image.rows) (leb-true 2 35 refl))
    (max-le (store_within image.store parts.store) (max-le (zero_within 35) (zero_within 35)))))))))
