-- What a group left, gathered layer by layer.
use Rattle.std.specs.Prelude.{ℕ, ◌++◌, ◌&&◌, Bool, true, false, List, [], ◌∷◌, Option, Some, None, Result, Ok}
use Rattle.std.specs.Option.{option_map}
use Rattle.cnb_toml.specs.declared.meta.Meta.{Meta}
use Rattle.image_docs.specs.declared.layer_row.LayerRow.{LayerRow}
use Rattle.layer_flags.specs.declared.flags.Flags.{Flags}
use Rattle.layer_paths.specs.Paths.{layer_document}
use Rattle.run_docs.specs.declared.layer.LayerDoc.{LayerDoc}
use Rattle.steps.specs.Outside.{Seen}
use Rattle.steps.specs.Steps.{◌>>=◌, gives, yields}
use Rattle.cnb_layers.specs.declared.gathered.Gathered.{Gathered}
use Rattle.cnb_layers.specs.declared.gathered.ImageLayer.{ImageLayer}
use Rattle.cnb_layers.specs.declared.fault.ExportFault.{ExportFault}
use Rattle.cnb_layers.specs.declared.gathering.Kept.{Kept}
use Rattle.cnb_layers.specs.declared.layer.Contents.{Contents}
use Rattle.cnb_layers.specs.declared.settling.Settled.{Settled}
use Rattle.cnb_layers.specs.Layer.{finds_contents, flags_of, reads_layer}
use Rattle.cnb_layers.specs.Refusals.{cause_of}
use Rattle.cnb_layers.specs.Settling.{settles}

abbrev pub nothing_gathered : Gathered
nothing_gathered = record {
  labels = [];
  processes = [];
  slices = [];
  store_rows = [];
  layers = [];
  cached = [];
}

abbrev pub layer_of : ImageLayer → LayerRow
layer_of layer = layer.row

-- the image's layers with one more, where it goes into the image
abbrev pub with_image : List ImageLayer → LayerRow → Option Bool → List ImageLayer
with_image layers row None = layers
with_image layers row (Some reused) = layers ++ record { row = row; reused = reused } ∷ []

-- the rows for caches with that of one more layer, where it goes into caches
abbrev pub with_row : List LayerRow → LayerRow → Bool → List LayerRow
with_row rows row false = rows
with_row rows row true = rows ++ row ∷ []

abbrev pub with_layer : Gathered → Kept → Gathered
with_layer gathered kept = record {
  labels = gathered.labels;
  processes = gathered.processes;
  slices = gathered.slices;
  store_rows = gathered.store_rows;
  layers = with_image gathered.layers kept.row kept.reused;
  cached = with_row gathered.cached kept.row kept.cached;
}

abbrev pub with_kept : Gathered → Option Kept → Gathered
with_kept gathered None = gathered
with_kept gathered (Some kept) = with_layer gathered kept

-- a layer goes into caches where its contents are there, and it is to be cached
abbrev pub is_cached : Flags → Contents → Bool
is_cached flags contents = contents.there && flags.cache

-- a layer as its document has it, and whether it goes into caches
abbrev pub kept_with : List ℕ → List ℕ → Flags → Meta → Bool → Settled → Kept
kept_with id layer flags meta cached settled = record {
  row = record { id = id; layer = layer; flags = flags; meta = meta; digest = settled.digest };
  reused = settled.reused;
  cached = cached;
}

abbrev pub kept_of : List ℕ → List ℕ → Flags → Meta → Bool → Option Settled → Option Kept
kept_of id layer flags meta cached settled = option_map (kept_with id layer flags meta cached) settled

-- the contents of a layer that has a document are found, and what becomes of it is settled
unfoldable pub keeps_documented : List ℕ → List LayerRow → List ℕ → List ℕ → List ℕ → LayerDoc → Seen
    → Result (Option Kept) ExportFault → Seen → Type 0
keeps_documented store previous id folder layer doc = do
  contents ← finds_contents store folder layer (flags_of doc)
  settled ← settles store previous id layer (flags_of doc) contents
  gives cause_of (Ok (kept_of id layer (flags_of doc) doc.meta (is_cached (flags_of doc) contents) settled))

abbrev pub keeps_found : List ℕ → List LayerRow → List ℕ → List ℕ → List ℕ → Option LayerDoc → Seen
    → Result (Option Kept) ExportFault → Seen → Type 0
keeps_found store previous id folder layer None = yields None
keeps_found store previous id folder layer (Some doc) = keeps_documented store previous id folder layer doc

-- a layer's document is read, and then its contents
unfoldable pub keeps_layer : List ℕ → List LayerRow → List ℕ → List ℕ → List ℕ → Seen
    → Result (Option Kept) ExportFault → Seen → Type 0
keeps_layer store previous id folder layer = do
  document ← gives cause_of (Ok (layer_document folder layer))
  doc ← reads_layer document
  keeps_found store previous id folder layer doc

-- a layer is read, and added to what was gathered
unfoldable pub exports_layer : List ℕ → List LayerRow → List ℕ → List ℕ → List ℕ → Gathered → Seen
    → Result Gathered ExportFault → Seen → Type 0
exports_layer store previous id folder layer gathered = do
  kept ← keeps_layer store previous id folder layer
  gives cause_of (Ok (with_kept gathered kept))
