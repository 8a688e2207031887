use Rattle.std.proofs.Common.{◌≡◌, ◌++◌, string_bytes}
use Rattle.std.specs.Str.Iter.{chars_rest}
use Rattle.image_docs.specs.By.{plain}
use Rattle.image_docs.proofs.by.plain.Given as goal

abbrev pub invariant-loop-c : goal.invariant-loop-c
invariant-loop-c l = string_bytes l.made ++ plain (chars_rest l.c-iterator) ≡ plain l.text
