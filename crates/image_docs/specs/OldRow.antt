-- The rows of an image of version 1, which don't say what made them.
use Rattle.std.specs.Prelude.{ℕ, ◌++◌, List, map, Ok, codes}
use Rattle.cnb_world.specs.Path.{is_short_path}
use Rattle.cnb_toml.specs.Fields.{required_at, list_at}
use Rattle.cnb_toml.specs.Form.{TableForm, name_of, table_of}
use Rattle.cnb_toml.specs.Reading.{◌>>=◌}
use Rattle.image_docs.specs.declared.old_row.OldRow.{OldRow}
use Rattle.image_docs.specs.declared.row.Role.{Role}
use Rattle.image_docs.specs.declared.row.Role.TheVariants.{Run, Layer, App, Launcher, Process}
use Rattle.image_docs.specs.declared.row.Row.{Row}
use Rattle.image_docs.specs.By.{plain, run_by}
use Rattle.image_docs.specs.DigestText.{digest_of}
use Rattle.image_docs.specs.Row.{ordered_rows, role_of, role_text}

-- a row of version 1; a key `by` is ignored
abbrev pub old_row_in : TableForm OldRow
old_row_in table = do
  role ← required_at role_of (codes "role") table
  place ← required_at (name_of is_short_path) (codes "place") table
  digest ← required_at digest_of (codes "digest") table
  Ok (record { role = role; place = place; digest = digest })

-- what is said of a row that isn't of the run image
abbrev pub migrated_by : Role → List ℕ → List ℕ
migrated_by role place = codes "migrated " ++ role_text role ++ codes " " ++ plain place

-- what made a row: the run image of this name, or the migration
abbrev pub old_by : List ℕ → Role → List ℕ → List ℕ
old_by base Run place = run_by base
old_by base Layer place = migrated_by Layer place
old_by base App place = migrated_by App place
old_by base Launcher place = migrated_by Launcher place
old_by base Process place = migrated_by Process place

abbrev pub migrated : List ℕ → OldRow → Row
migrated base old = record {
  role = old.role;
  place = old.place;
  digest = old.digest;
  by = old_by base old.role
      old.place;
}

-- the rows of an image on the run image of this name
abbrev pub old_rows_at : List ℕ → TableForm (List Row)
old_rows_at base table = list_at (table_of old_row_in) (codes "rows") table
    >>= (λ rows. ordered_rows (map (migrated base) rows))
