-- What export does with a layer after the build (buildpack.md, "Layer Types"; platform.md, "exporter").
use Rattle.std.specs.Prelude.{Bool, true, false}
use Rattle.layer_flags.specs.declared.flags.Flags.{Flags}
use Rattle.layer_flags.specs.declared.export.ExportRow.{ExportRow}
use Rattle.layer_flags.specs.declared.export.ExportRow.TheVariants.{Skip, Add, Reuse, NoContents, NoPrevious}

-- The table, of which the first fitting line counts. It reads two of the layer's flags, whether its contents are
-- there, whether the previous image has a row of it, and whether the contents have that row's digest.
abbrev pub export_lines : (launch cache contents previous equal : Bool) → ExportRow
-- launch, cache, contents, previous, equal
export_lines _ true false _ _ = NoContents
export_lines false _ _ _ _ = Skip
export_lines true _ true true true = Reuse
export_lines true _ true _ _ = Add
export_lines true false false true _ = Reuse
export_lines true false false false _ = NoPrevious

-- The line that fits a layer. Its flag `build` plays no part.
abbrev pub export_table : Flags → Bool → Bool → Bool → ExportRow
export_table flags contents previous equal = export_lines flags.launch flags.cache contents previous equal

-- the layer is part of the image
abbrev pub IsImageLayer : ExportRow → Type 0
IsImageLayer Skip = ⊥
IsImageLayer Add = Unit {0}
IsImageLayer Reuse = Unit {0}
IsImageLayer NoContents = ⊥
IsImageLayer NoPrevious = ⊥
