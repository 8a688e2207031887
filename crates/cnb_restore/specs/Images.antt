-- What the previous image has, where there is one.
use Rattle.std.specs.Prelude.{ℕ, List, [], Option, Some, None, find}
use Rattle.std.specs.Str.{bytes_eq}
use Rattle.image_docs.specs.declared.image.ImageDoc.{ImageDoc}
use Rattle.image_docs.specs.declared.layer_row.LayerRow.{LayerRow}
use Rattle.image_docs.specs.declared.store_row.StoreRow.{StoreRow}

abbrev pub layers_of : Option ImageDoc → List LayerRow
layers_of None = []
layers_of (Some image) = image.layers

abbrev pub store_of : Option ImageDoc → List StoreRow
store_of None = []
store_of (Some image) = image.store

-- what the previous image keeps for a buildpack
abbrev pub kept_for : List ℕ → List StoreRow → Option StoreRow
kept_for id rows = find (λ row. bytes_eq row.id id) rows
