-- A buildpack that was not asked has no answer.
use Rattle.std.proofs.Common.{◌≡◌, refl, false, List, is_some, Option, Some, None}
use Rattle.cnb_toml.specs.declared.names.Key.{Key}
use Rattle.detect_core.specs.Kept.{KeptRow, kept_for, has_key}

none_from : {X : Type 0} (found : Option X) → is_some found ≡ false → found ≡ None
none_from None h = refl
none_from (Some x) h = absurd cc

pub not_kept : (rows : List KeptRow) (key : Key) → has_key rows key ≡ false → kept_for rows key ≡ None
not_kept rows key h = none_from (kept_for rows key) h
