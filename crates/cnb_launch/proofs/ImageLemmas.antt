-- An image that can be read has rows that can be laid, and a launch that can be read.
use Rattle.std.proofs.Common.{IsTrue, Bool, false, ◌&&◌}
use Rattle.std.specs.List.{list_all}
use Rattle.std.proofs.lemmas.Bool.{and_parts}
use Rattle.cnb_world.specs.Path.{is_short_path}
use Rattle.cnb_toml.specs.Label.{is_label}
use Rattle.image_docs.specs.Base.{is_base}
use Rattle.image_docs.specs.EnvRows.{is_env}
use Rattle.image_docs.specs.Image.{is_image_doc}
use Rattle.image_docs.specs.LaunchDoc.{is_launch_doc}
use Rattle.image_docs.specs.LayerRow.{are_layers}
use Rattle.image_docs.specs.Row.{are_ordered, are_rows, is_row}
use Rattle.image_docs.specs.StoreRow.{is_store}
use Rattle.image_docs.specs.declared.image.ImageDoc.{ImageDoc}

module _ (image : ImageDoc) (readable : IsTrue (is_image_doc image)) where
  abbrev behind_labels : Bool
  behind_labels = is_launch_doc image.launch && (are_layers false image.layers && is_store image.store)

  abbrev behind_env : Bool
  behind_env = is_short_path image.entrypoint && (list_all is_label image.labels && behind_labels)

  behind_base : IsTrue (are_rows image.rows && (is_env image.env && behind_env))
  behind_base = (and_parts (is_base image.base) (are_rows image.rows && (is_env image.env && behind_env)) readable).1

  pub rows_can_be_laid : IsTrue (list_all is_row image.rows)
  rows_can_be_laid = (and_parts (list_all is_row image.rows) (are_ordered image.rows)
      (and_parts (are_rows image.rows) (is_env image.env && behind_env) behind_base).0).0

  pub launch_can_be_read : IsTrue (is_launch_doc image.launch)
  launch_can_be_read =
      let from_env = (and_parts (are_rows image.rows) (is_env image.env && behind_env) behind_base).1 in
      let from_entrypoint = (and_parts (is_env image.env) behind_env from_env).1 in
      let from_labels = (and_parts (is_short_path image.entrypoint)
      (list_all is_label image.labels && behind_labels) from_entrypoint).1 in
      let from_launch = (and_parts (list_all is_label image.labels) behind_labels from_labels).1 in
      (and_parts (is_launch_doc image.launch) (are_layers false image.layers && is_store image.store) from_launch).0
