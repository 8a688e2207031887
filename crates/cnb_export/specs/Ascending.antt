-- Rows of which the last of each key counts.
use Rattle.std.specs.Prelude.{ℕ, List, fold}
use Rattle.std.specs.Cmp.Lexicographic.{slice_cmp}
use Rattle.std.specs.FinMap.{FinMap, empty, insert, values}
use Rattle.std.specs.Ordering.{nat_cmp}
use Rattle.cnb_toml.specs.declared.label.Label.{Label}
use Rattle.cnb_toml.specs.declared.process.Process.{Process}

abbrev pub label_key : Label → List ℕ
label_key label = label.key

abbrev pub process_key : Process → List ℕ
process_key process = process.kind

module _ {T : Type 0} (key_of : T → List ℕ) where
  -- the last row of each key, by their keys
  abbrev pub latest : List T → FinMap (slice_cmp nat_cmp) T
  latest rows = fold (λ found row. insert found (key_of row) row) empty rows

  -- the same, ascending
  abbrev pub last_of_each : List T → List T
  last_of_each rows = values (latest rows)
