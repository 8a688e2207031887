-- What stands in folders: the layers of buildpacks, and the programs in `exec.d`.
use Rattle.std.specs.Prelude.{ℕ, ◌≤◌, Bool, true, false, List, [], ◌∷◌, codes, filter, length, map, Option, Some, None}
use Rattle.std.specs.Prelude.{Result, Ok, Err}
use Rattle.std.specs.List.{All, IsAmong, flat_map, list_all}
use Rattle.cnb_world.specs.Path.{joined}
use Rattle.cnb_world.specs.Tree.{Tree, item_at, kind_of}
use Rattle.cnb_world.specs.declared.world.Item.{Item}
use Rattle.cnb_world.specs.declared.world.Kind.{Kind}
use Rattle.cnb_world.specs.declared.world.Kind.TheVariants as kind
use Rattle.cnb_toml.specs.Names.{folder_of}
use Rattle.cnb_toml.specs.declared.names.Key.{Key}
use Rattle.cnb_env.specs.Files.{IsOfFolder, is_fit_folder}
use Rattle.cnb_env.specs.Layers.{type_folders}
use Rattle.doc_files.specs.Reading.{names_at}
use Rattle.doc_files.specs.declared.fault.ReadFault.{ReadFault}
use Rattle.steps.specs.Results.{◌>>=◌}
use Rattle.cnb_launch.specs.Places.{layers_folder}
use Rattle.cnb_launch.specs.declared.folders.Wanted.{Wanted}
use Rattle.cnb_launch.specs.declared.folders.Wanted.TheVariants.{Folders, Files}

-- ---- one folder

abbrev pub is_wanted : Wanted → Kind → Bool
is_wanted Folders kind.Folder = true
is_wanted Files (kind.File exec len) = true
is_wanted wanted other = false

-- the paths of these names where such a thing stands
abbrev pub wanted_among : Wanted → Tree → List ℕ → List (List ℕ) → List (List ℕ)
wanted_among wanted files folder names = filter (λ path. is_wanted wanted (kind_of (item_at files path)))
    (map (joined folder) names)

abbrev pub listed : Wanted → Tree → List ℕ → Result (List (List ℕ)) ReadFault
listed wanted files folder = names_at files folder >>= (λ names. Ok (wanted_among wanted files folder names))

abbrev pub wanted_of : Wanted → Tree → List ℕ → Option Item → Result (List (List ℕ)) ReadFault
wanted_of wanted files folder None = Ok []
wanted_of wanted files folder (Some item) = listed wanted files folder

-- what is wanted of a folder, ascending by name; there is none where nothing stands at its path
abbrev pub wanted_in : Wanted → Tree → List ℕ → Result (List (List ℕ)) ReadFault
wanted_in wanted files folder = wanted_of wanted files folder (item_at files folder)

-- the paths are at most this long
abbrev pub AreWithin : ℕ → List (List ℕ) → Type 0
AreWithin room paths = All (λ path. length path ≤ room) paths

-- ---- one folder after another

-- those of one folder, in front of those behind it; the first that is refused decides
abbrev pub in_front : Result (List (List ℕ)) ReadFault → Result (List (List (List ℕ))) ReadFault
    → Result (List (List (List ℕ))) ReadFault
in_front (Ok paths) (Ok behind) = Ok (paths ∷ behind)
in_front (Ok paths) (Err fault) = Err fault
in_front (Err fault) behind = Err fault

unfoldable pub all_in : Wanted → List (List ℕ) → Tree → Result (List (List (List ℕ))) ReadFault
all_in wanted [] files = Ok []
all_in wanted (folder ∷ folders) files = in_front (wanted_in wanted files folder) (all_in wanted folders files)

-- each is a folder, or isn't there
abbrev pub are_fit : List (List ℕ) → Tree → Bool
are_fit folders files = list_all (λ folder. is_fit_folder folder files) folders

-- what is read of some folders: each of them, and what stands right in it
abbrev pub IsOfFolders : List (List ℕ) → List ℕ → Type 0
IsOfFolders folders path = (folder : List ℕ) × IsAmong folders folder × IsOfFolder folder path

-- ---- which folders

-- the folder of a buildpack's layers
abbrev pub set_folder : List ℕ → Key → List ℕ
set_folder root key = joined (layers_folder root) (folder_of key.id)

abbrev pub set_folders : List ℕ → List Key → List (List ℕ)
set_folders root keys = map (set_folder root) keys

-- the folders of a layer's programs: those of every process, then those of the type
abbrev pub exec_folders : Option (List ℕ) → List ℕ → List (List ℕ)
exec_folders kind layer = joined layer (codes "exec.d") ∷ type_folders kind (joined layer (codes "exec.d"))

-- of all layers of all buildpacks
abbrev pub all_exec_folders : Option (List ℕ) → List (List (List ℕ)) → List (List ℕ)
all_exec_folders kind sets = flat_map (λ layers. flat_map (exec_folders kind) layers) sets
