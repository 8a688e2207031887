-- The rows of an image, from the lowest: where each stands, what its tree is and what made it, in this project's own
-- layout.
use Rattle.std.specs.Prelude.{ℕ, Bool, true, false, not, ◌&&◌, List, [], ◌∷◌, Result, Ok, Err, codes, if◌then◌else◌}
use Rattle.std.specs.List.{list_all}
use Rattle.std.specs.Str.{bytes_eq}
use Rattle.toml.specs.Data.{Data, string, Members, no_members, member}
use Rattle.cnb_world.specs.Path.{is_short_path}
use Rattle.cnb_toml.specs.declared.fault.DocFault.{DocFault}
use Rattle.cnb_toml.specs.declared.fault.DocFault.TheVariants as fault
use Rattle.cnb_toml.specs.Fields.{required_at, list_at}
use Rattle.cnb_toml.specs.Form.{Form, TableForm, text_of, name_of, table_of}
use Rattle.cnb_toml.specs.Reading.{◌>>=◌}
use Rattle.cnb_toml.specs.Written.{list_data, table_data}
use Rattle.image_docs.specs.declared.row.Role.{Role}
use Rattle.image_docs.specs.declared.row.Role.TheVariants.{Run, Layer, App, Launcher, Process}
use Rattle.image_docs.specs.declared.row.Row.{Row}
use Rattle.image_docs.specs.By.{by_of, is_by}
use Rattle.image_docs.specs.DigestText.{digest_of, is_digest, digest_data}

-- the word of a role
abbrev pub role_text : Role → List ℕ
role_text Run = codes "run"
role_text Layer = codes "layer"
role_text App = codes "app"
role_text Launcher = codes "launcher"
role_text Process = codes "process"

-- the role that a word names
abbrev pub role_in : List ℕ → Result Role DocFault
role_in text =
    if bytes_eq text (codes "run") then Ok Run
    else if bytes_eq text (codes "layer") then Ok Layer
    else if bytes_eq text (codes "app") then Ok App
    else if bytes_eq text (codes "launcher") then Ok Launcher
    else if bytes_eq text (codes "process") then Ok Process
    else Err (fault.Wrong [])

abbrev pub role_of : Form Role
role_of value = text_of value >>= role_in

abbrev pub role_data : Role → Data
role_data role = string (role_text role)

abbrev pub row_in : TableForm Row
row_in table = do
  role ← required_at role_of (codes "role") table
  place ← required_at (name_of is_short_path) (codes "place") table
  digest ← required_at digest_of (codes "digest") table
  by ← required_at by_of (codes "by") table
  Ok (record { role = role; place = place; digest = digest; by = by })

abbrev pub is_run : Row → Bool
is_run row = bytes_eq (role_text row.role) (role_text Run)

-- rows of which none of the run image stands behind another one
abbrev pub run_rows_first : List Row → Bool
run_rows_first [] = true
run_rows_first (row ∷ rows) = if is_run row then run_rows_first rows else list_all (λ other. not (is_run other)) rows

-- rows that begin with one of the run image at `/`, behind which its other rows stand before all else
abbrev pub are_ordered : List Row → Bool
are_ordered [] = false
are_ordered (first ∷ rows) = is_run first && bytes_eq first.place (codes "/") && run_rows_first rows

abbrev pub ordered_rows : List Row → Result (List Row) DocFault
ordered_rows rows = if are_ordered rows then Ok rows else Err (fault.Wrong (codes "rows"))

abbrev pub rows_at : TableForm (List Row)
rows_at table = list_at (table_of row_in) (codes "rows") table >>= ordered_rows

abbrev pub has_digest : Row → Bool
has_digest row = is_digest row.digest

-- a row that can be read
abbrev pub is_row : Row → Bool
is_row row = is_short_path row.place && is_by row.by

abbrev pub are_rows : List Row → Bool
are_rows rows = list_all is_row rows && are_ordered rows

-- what is written of it
abbrev pub row_members : Row → Members
row_members row =
    member (codes "by") (string row.by) (member (codes "digest") (digest_data row.digest)
    (member (codes "place") (string row.place) (member (codes "role") (role_data row.role) no_members)))

abbrev pub rows_data : List Row → Data
rows_data rows = list_data (table_data row_members) rows
