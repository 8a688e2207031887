-- What becomes of a layer, by its flags, its contents and the previous image (buildpack.md, "Layer Types"; platform.md,
-- "exporter").
use Rattle.std.specs.Prelude.{ℕ, Bool, true, false, ◌&&◌, List, Option, Some, None, Result, Ok, Err, is_some, find}
use Rattle.std.specs.Prelude.{if◌then◌else◌}
use Rattle.std.specs.Option.{option_map}
use Rattle.std.specs.Str.{bytes_eq}
use Rattle.layer_flags.specs.Export.{export_table}
use Rattle.layer_flags.specs.declared.flags.Flags.{Flags}
use Rattle.layer_flags.specs.declared.export.ExportRow.{ExportRow}
use Rattle.layer_flags.specs.declared.export.ExportRow.TheVariants.{Skip, Add, Reuse, NoContents as NoContentsRow}
use Rattle.layer_flags.specs.declared.export.ExportRow.TheVariants.{NoPrevious as NoPreviousRow}
use Rattle.image_docs.specs.declared.layer_row.LayerRow.{LayerRow}
use Rattle.steps.specs.Outside.{Seen}
use Rattle.steps.specs.Steps.{◌>>=◌, gives, map_err, yields}
use Rattle.tree_store.specs.Steps.{looks_for_tree}
use Rattle.tree_store.specs.declared.fault.StoreFault.TheVariants.{NoTree}
use Rattle.cnb_layers.specs.declared.fault.ExportFault.{ExportFault}
use Rattle.cnb_layers.specs.declared.fault.ExportFault.TheVariants.{NoContents, NoPrevious, Store}
use Rattle.cnb_layers.specs.declared.layer.Contents.{Contents}
use Rattle.cnb_layers.specs.declared.settling.Settled.{Settled}
use Rattle.cnb_layers.specs.Refusals.{cause_of}

-- the previous image's row of a layer
abbrev pub row_of : List LayerRow → List ℕ → List ℕ → Option LayerRow
row_of rows id layer = find (λ row. bytes_eq row.id id && bytes_eq row.layer layer) rows

-- the contents have the digest of the previous image's row
abbrev pub is_equal : Option (List ℕ) → Option LayerRow → Bool
is_equal None before = false
is_equal (Some digest) None = false
is_equal (Some digest) (Some row) = bytes_eq digest row.digest

abbrev pub decision_of : Flags → Contents → Option LayerRow → ExportRow
decision_of flags contents before = export_table flags contents.there (is_some before) (is_equal contents.digest before)

-- the digest of the contents, or where a layer without contents is reused, that of the previous image's row
abbrev pub digest_or : Option (List ℕ) → Option LayerRow → Option (List ℕ)
digest_or (Some digest) before = Some digest
digest_or None before = option_map (λ row. row.digest) before

-- a layer that goes into the image, where `reused` says how, or into caches
abbrev pub settled_as : Option Bool → Option (List ℕ) → Option Settled
settled_as reused digest = option_map (λ d. record { reused = reused; digest = d }) digest

-- a tree that is reused without its contents must be in the store
abbrev pub if_stored : List ℕ → Bool → Result (Unit {0}) ExportFault
if_stored digest stored = if stored then Ok tt else Err (Store (NoTree digest))

unfoldable pub looks_for_stored : List ℕ → List ℕ → Seen → Result (Unit {0}) ExportFault → Seen → Type 0
looks_for_stored store digest = do
  stored ← map_err Store (looks_for_tree store digest)
  gives cause_of (if_stored digest stored)

abbrev pub checks_reused : List ℕ → Option (List ℕ) → Option LayerRow → Seen → Result (Unit {0}) ExportFault
    → Seen → Type 0
checks_reused store (Some digest) before = yields tt
checks_reused store None None = yields tt
checks_reused store None (Some row) = looks_for_stored store row.digest

unfoldable pub reuses : List ℕ → Option (List ℕ) → Option LayerRow → Seen → Result (Option Settled) ExportFault
    → Seen → Type 0
reuses store digest before = do
  checked ← checks_reused store digest before
  yields (settled_as (Some true) (digest_or digest before))

-- by the line of the table that fits
abbrev pub settles_by : ExportRow → List ℕ → List ℕ → List ℕ → Option (List ℕ) → Option LayerRow → Seen
    → Result (Option Settled) ExportFault → Seen → Type 0
settles_by Skip store id layer digest before = yields (settled_as None digest)
settles_by Add store id layer digest before = yields (settled_as (Some false) digest)
settles_by Reuse store id layer digest before = reuses store digest before
settles_by NoContentsRow store id layer digest before = gives cause_of (Err (NoContents id layer))
settles_by NoPreviousRow store id layer digest before = gives cause_of (Err (NoPrevious id layer))

-- what becomes of a layer
abbrev pub settles : List ℕ → List LayerRow → List ℕ → List ℕ → Flags → Contents → Seen
    → Result (Option Settled) ExportFault → Seen → Type 0
settles store previous id layer flags contents =
    settles_by (decision_of flags contents (row_of previous id layer)) store id layer contents.digest
    (row_of previous id layer)
