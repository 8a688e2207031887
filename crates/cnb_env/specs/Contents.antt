-- What stands in one environment file.
use Rattle.std.specs.Prelude.{ℕ, ◌==◌, Bool, not, List, [], ◌∷◌, ◌++◌, codes, if◌then◌else◌, length, nat_lt, Option}
use Rattle.std.specs.Prelude.{Some, None, Result, Ok, Err}
use Rattle.std.specs.List.{list_any}
use Rattle.std.specs.Str.Lossy.{utf8_valid_len}
use Rattle.cnb_world.specs.Path.{joined}
use Rattle.cnb_world.specs.Tree.{Tree, item_at}
use Rattle.cnb_world.specs.declared.limits.LimitKind.TheVariants.{Document as DocumentLimit}
use Rattle.cnb_world.specs.declared.world.Item.{Item}
use Rattle.cnb_world.specs.declared.world.Item.TheVariants as item
use Rattle.cnb_toml.specs.declared.fault.DocFault.TheVariants.{NotUtf8, Wrong}
use Rattle.doc_files.specs.declared.fault.ReadFault.{ReadFault}
use Rattle.doc_files.specs.declared.fault.ReadFault.TheVariants.{Document, Limit}
use Rattle.cnb_env.specs.Names.{is_ignored}
use Rattle.cnb_env.specs.declared.files.EnvFile.{EnvFile}
use Rattle.cnb_env.specs.declared.names.Naming.{Naming}

-- the bytes of a regular file; there are none where there is no such file
abbrev pub contents_of : Option Item → Result (Option (List ℕ)) ReadFault
contents_of (Some (item.File exec bytes)) = if nat_lt 1048576 (length bytes) then Err
    (Limit DocumentLimit) else Ok (Some bytes)
contents_of (Some item.Folder) = Ok None
contents_of (Some (item.Link target)) = Ok None
contents_of (Some item.Odd) = Ok None
contents_of None = Ok None

abbrev pub is_utf8 : List ℕ → Bool
is_utf8 bytes = utf8_valid_len bytes == length bytes

-- contents are text without a zero byte
abbrev pub value_in : List ℕ → List ℕ → Result (List ℕ) ReadFault
value_in path bytes =
    if not (is_utf8 bytes) then Err (Document path NotUtf8)
    else if list_any (λ byte. byte == 0) bytes then Err (Document path (Wrong (codes "value")))
    else Ok bytes

abbrev pub file_of_value : List ℕ → Result (List ℕ) ReadFault → Result (Option EnvFile) ReadFault
file_of_value name (Ok value) = Ok (Some (record { name = name; value = value }))
file_of_value name (Err fault) = Err fault

abbrev pub file_of : List ℕ → List ℕ → Result (Option (List ℕ)) ReadFault → Result (Option EnvFile) ReadFault
file_of name path (Ok (Some bytes)) = file_of_value name (value_in path bytes)
file_of name path (Ok None) = Ok None
file_of name path (Err fault) = Err fault

-- the file of a name in the folder; there is none where the name is passed over, or no regular file stands there
unfoldable pub file_at : Naming → Tree → List ℕ → List ℕ → Result (Option EnvFile) ReadFault
file_at naming files folder name = if is_ignored naming name then Ok None else file_of name (joined folder name)
    (contents_of (item_at files (joined folder name)))

-- a file behind others, where there is one
abbrev pub with_found : List EnvFile → Option EnvFile → List EnvFile
with_found files None = files
with_found files (Some file) = files ++ file ∷ []
