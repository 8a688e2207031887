-- The layers of a cache read back.
use Rattle.std.specs.Prelude.{◌≡◌, ◌≤◌, true, List, Ok}
use Rattle.std.specs.List.{list_all}
use Rattle.std.proofs.Common.{refl}
use Rattle.std.proofs.Math.Nat.{max-le}
use Rattle.std.proofs.lemmas.Bool.{and_from}
use Rattle.toml.specs.Data.{members_depth, members_have_valid_dates}
use Rattle.cnb_toml.specs.WrittenLaws.{zero_within}
use Rattle.image_docs.specs.declared.layer_row.LayerRow.{LayerRow}
use Rattle.image_docs.specs.CacheRows.{is_cache_doc, cache_members}
use Rattle.image_docs.specs.LayerRow.{layers_at, has_layer_names}
use Rattle.image_docs.specs.LayerRowLaws.{layers_read, layers_dates, layers_within}

pub cache_read : (rows : List LayerRow) → list_all has_layer_names rows ≡ true → is_cache_doc rows ≡ true
    → layers_at true (cache_members rows) ≡ Ok rows
cache_read rows typed sound = rw (layers_read true rows typed sound)

pub cache_dates : (rows : List LayerRow) → members_have_valid_dates (cache_members rows) ≡ true
cache_dates rows = and_from _ _ (layers_dates rows) refl

pub cache_within : (rows : List LayerRow) → is_cache_doc rows ≡ true → members_depth (cache_members rows) ≤ 35
cache_within rows sound = max-le (layers_within true rows sound) (zero_within 35)
