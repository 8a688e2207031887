-- What is restored of a layer before the build (buildpack.md, "Layer Types"; platform.md, "restorer").
use Rattle.std.specs.Prelude.{Bool, true, false, ◌&&◌, is_some, Option}
use Rattle.layer_flags.specs.Flags.{flags_of}
use Rattle.layer_flags.specs.declared.flags.Flags.{Flags}
use Rattle.layer_flags.specs.declared.restore.RestoreRow.{RestoreRow}
use Rattle.layer_flags.specs.declared.restore.RestoreRow.TheVariants.{Nothing, Meta, Both}

-- The table. Of each layer it reads the flags of the previous image's row, those of the row gathered from the
-- caches, and whether both rows are there with equal digests.
abbrev pub restore_lines : (app_launch app_build app_cache gathered_launch gathered_cache same : Bool) → RestoreRow
-- previous image: launch, build, cache; gathered: launch, cache; same
restore_lines true _ true _ _ true = Both
restore_lines true _ true _ _ false = Nothing
restore_lines true true false _ _ _ = Nothing
restore_lines true false false _ _ _ = Meta
restore_lines false _ _ true _ _ = Nothing
restore_lines false _ _ false true _ = Both
restore_lines false _ _ false false _ = Nothing

-- The line that fits a layer. A row that isn't there has no flag, and `same` then says nothing.
abbrev pub restore_table : Option Flags → Option Flags → Bool → RestoreRow
restore_table app gathered same =
    restore_lines (flags_of app).launch (flags_of app).build (flags_of app).cache
    (flags_of gathered).launch (flags_of gathered).cache
    (is_some app && is_some gathered && same)
