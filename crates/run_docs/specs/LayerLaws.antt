-- A layer's document reads back.
use Rattle.std.specs.Prelude.{◌≡◌, ◌≤◌, true, Ok, codes}
use Rattle.std.proofs.Common.{refl}
use Rattle.std.proofs.Math.Nat.{le_trans, max-le}
use Rattle.std.proofs.lemmas.Bool.{and_from, leb-true}
use Rattle.toml.specs.Data.{members_depth, members_have_valid_dates}
use Rattle.cnb_toml.specs.WrittenLaws.{zero_within}
use Rattle.cnb_toml.proofs.DataLaws.{metadata_dates, metadata_within}
use Rattle.cnb_toml.proofs.RoundTrip.{kept_read}
use Rattle.run_docs.specs.declared.layer.LayerDoc.{LayerDoc}
use Rattle.run_docs.specs.Layer.{table_in, is_layer_doc, layer_members}

pub layer_read : (layer : LayerDoc) → true ≡ true → is_layer_doc layer ≡ true
    → table_in (layer_members layer) ≡ Ok layer
layer_read layer typed sound = rw (kept_read layer.meta sound (codes "metadata"))

pub layer_dates : (layer : LayerDoc) → members_have_valid_dates (layer_members layer) ≡ true
layer_dates layer = and_from _ _ (metadata_dates layer.meta) refl

pub layer_within : (layer : LayerDoc) → is_layer_doc layer ≡ true → members_depth (layer_members layer) ≤ 33
layer_within layer sound = max-le (metadata_within layer.meta sound) (leb-true 1 33 refl)
