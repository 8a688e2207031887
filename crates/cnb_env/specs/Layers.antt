-- The environment that layers give (buildpack.md, "Layer Paths"; "Provided by the Buildpacks").
use Rattle.std.specs.Prelude.{ℕ, ◌≡◌, ◌≤◌, ◌⊎◌, IfSome, IsTrue, Bool, List, [], ◌∷◌, ◌++◌, codes, filter, map, length}
use Rattle.std.specs.Prelude.{if◌then◌else◌, Option, Some, None, Result, Ok, Err}
use Rattle.std.specs.List.{All, IsAmong, join_by, list_all}
use Rattle.cnb_world.specs.Env.{with_value}
use Rattle.cnb_world.specs.Path.{is_part, joined}
use Rattle.cnb_world.specs.Tree.{Tree, is_folder, item_at}
use Rattle.cnb_world.specs.declared.env.Variable.{Variable}
use Rattle.steps.specs.Results.{◌>>=◌}
use Rattle.doc_files.specs.declared.fault.ReadFault.{ReadFault}
use Rattle.doc_files.specs.declared.fault.ReadFault.TheVariants.{File, Document, Limit, Memory}
use Rattle.cnb_env.specs.Apply.{HasFirst, all_applied, applied_among, in_front, text_of}
use Rattle.cnb_env.specs.Files.{IsOfFolder, folder_files_in, is_fit_folder}
use Rattle.cnb_env.specs.Platform.{with_files}
use Rattle.cnb_env.specs.declared.files.EnvFile.{EnvFile}
use Rattle.cnb_env.specs.declared.names.Naming.TheVariants.{BeforeDot}
use Rattle.cnb_env.specs.declared.layers.Phase.{Phase}
use Rattle.cnb_env.specs.declared.layers.Phase.TheVariants.{Build, Launch}
use Rattle.cnb_env.specs.declared.paths.When.{When}
use Rattle.cnb_env.specs.declared.paths.When.TheVariants as when

-- ---- path folders

-- a path of a layer that leaves room for what stands in the layer
abbrev pub IsShort : List ℕ → Type 0
IsShort layer = length layer ≤ 8192

-- the folders of a name in the layers
abbrev pub standing_at : Tree → List (List ℕ) → List ℕ → List (List ℕ)
standing_at files layers name = filter (λ path. is_folder (item_at files path))
    (map (λ layer. joined layer name) layers)

-- the same, joined by `:`
abbrev pub folders_at : Tree → List (List ℕ) → List ℕ → List ℕ
folders_at files layers name = join_by (λ path. path) (codes ":") (standing_at files layers name)

-- a text with one path more, behind a `:` where it isn't the first
abbrev pub separated : Bool → List ℕ → List ℕ → List ℕ
separated is_first text path = (if is_first then text else text ++ codes ":") ++ path

-- folders in front of a path variable, where there are any
abbrev pub with_front : List ℕ → List ℕ → List Variable → List Variable
with_front name [] env = env
with_front name (byte ∷ bytes) env = with_value name (in_front (text_of env name) (codes ":") (byte ∷ bytes)) env

-- the path folders of one buildpack's layers, in front of their variables
abbrev pub with_launch_paths : Tree → List (List ℕ) → List Variable → List Variable
with_launch_paths files layers env =
    with_front (codes "LD_LIBRARY_PATH") (folders_at files layers (codes "lib"))
    (with_front (codes "PATH") (folders_at files layers (codes "bin")) env)

abbrev pub with_build_paths : Tree → List (List ℕ) → List Variable → List Variable
with_build_paths files layers env =
    with_front (codes "PKG_CONFIG_PATH") (folders_at files layers (codes "pkgconfig"))
    (with_front (codes "CPATH") (folders_at files layers (codes "include"))
    (with_front (codes "LIBRARY_PATH") (folders_at files layers (codes "lib"))
    (with_launch_paths files layers env)))

abbrev pub with_paths : When → Tree → List (List ℕ) → List Variable → List Variable
with_paths when.Launch files layers env = with_launch_paths files layers env
with_paths when.Build files layers env = with_build_paths files layers env

abbrev pub when_of : Phase → When
when_of Build = when.Build
when_of (Launch kind) = when.Launch

-- ---- environment files

-- a call that was done gives this environment
abbrev pub giving : {T : Type 0} → List Variable → Result T ReadFault → Result (List Variable) ReadFault
giving env (Ok done) = Ok env
giving env (Err fault) = Err fault

-- the environment with the files of a folder applied
abbrev pub folder_applied : Tree → List ℕ → List Variable → Result (List Variable) ReadFault
folder_applied files folder env = folder_files_in BeforeDot folder files >>= λ all. Ok (all_applied all env)

-- What is left after a refusal: the environment as before. For want of memory a first part of the folder's files is
-- applied, all of which were read.
abbrev pub LeavesFirst : {T : Type 0} → Result T ReadFault → Option Tree → List ℕ → List Variable → List Variable
    → Type 0
LeavesFirst (Ok done) told folder old new = Unit {0}
LeavesFirst (Err Memory) told folder old new =
    (new ≡ old) ⊎ ((all : List EnvFile) × IfSome told (λ files. folder_files_in BeforeDot folder files ≡ Ok all)
    × HasFirst (applied_among all) all old new)
LeavesFirst (Err fault) told folder old new = new ≡ old

-- ---- layers

-- one step after another
abbrev pub each : {X : Type 0} → (X → List Variable → Result (List Variable) ReadFault) → List X → List Variable
    → Result (List Variable) ReadFault
each step [] env = Ok env
each step (x ∷ xs) env = step x env >>= each step xs

-- the folder that is for a process type, where one is given
abbrev pub type_folders : Option (List ℕ) → List ℕ → List (List ℕ)
type_folders None folder = []
type_folders (Some kind) folder = joined folder kind ∷ []

abbrev pub launch_folders : Option (List ℕ) → List ℕ → List (List ℕ)
launch_folders kind layer = joined layer (codes "env.launch") ∷ type_folders kind (joined layer (codes "env.launch"))

abbrev pub phase_folders : Phase → List ℕ → List (List ℕ)
phase_folders Build layer = joined layer (codes "env.build") ∷ []
phase_folders (Launch kind) layer = launch_folders kind layer

-- the folders of environment files in a layer, in the order in which they are applied
abbrev pub env_folders : Phase → List ℕ → List (List ℕ)
env_folders phase layer = joined layer (codes "env") ∷ phase_folders phase layer

abbrev pub layer_applied : Phase → Tree → List ℕ → List Variable → Result (List Variable) ReadFault
layer_applied phase files layer env = each (folder_applied files) (env_folders phase layer) env

-- one buildpack's layers: their path folders, and then the environment files of each layer
abbrev pub set_applied : Phase → Tree → List (List ℕ) → List Variable → Result (List Variable) ReadFault
set_applied phase files layers env = each (layer_applied phase files) layers
    (with_paths (when_of phase) files layers env)

abbrev pub with_platform : Option (List EnvFile) → List Variable → List Variable
with_platform None env = env
with_platform (Some files) env = with_files files env

-- the environment of a build: what the layers of each earlier buildpack give, and then the platform's files, if any
unfoldable pub build_env : List (List (List ℕ)) → Option (List EnvFile) → List Variable → Tree
    → Result (List Variable) ReadFault
build_env sets platform base files = each (set_applied Build files) sets base >>= λ env. Ok (with_platform platform env)

-- the environment of a launch: what the layers of each buildpack give, for a process of this type, if it has one
unfoldable pub launch_env : List (List (List ℕ)) → Option (List ℕ) → List Variable → Tree
    → Result (List Variable) ReadFault
launch_env sets kind base files = each (set_applied (Launch kind) files) sets base

-- ---- what is read

-- the paths of a buildpack's layers leave room
abbrev pub AreShort : List (List ℕ) → Type 0
AreShort layers = All IsShort layers

-- a folder right in a layer does, too
abbrev pub HasRoom : List ℕ → Type 0
HasRoom folder = length folder ≤ 8448

-- each of these is a folder, or isn't there
abbrev pub are_fit_folders : Tree → List (List ℕ) → Bool
are_fit_folders files folders = list_all (λ folder. is_fit_folder folder files) folders

abbrev pub is_fit_layer : Phase → Tree → List ℕ → Bool
is_fit_layer phase files layer = are_fit_folders files (env_folders phase layer)

abbrev pub is_fit_set : Phase → Tree → List (List ℕ) → Bool
is_fit_set phase files layers = list_all (is_fit_layer phase files) layers

abbrev pub are_fit_sets : Phase → Tree → List (List (List ℕ)) → Bool
are_fit_sets phase files sets = list_all (is_fit_set phase files) sets

abbrev pub are_fit_build_sets : Tree → List (List (List ℕ)) → Bool
are_fit_build_sets files sets = are_fit_sets Build files sets

abbrev pub are_fit_launch_sets : Option (List ℕ) → Tree → List (List (List ℕ)) → Bool
are_fit_launch_sets kind files sets = are_fit_sets (Launch kind) files sets

-- what is read of a folder that stands right in another
abbrev pub IsOfFolderIn : List ℕ → List ℕ → Type 0
IsOfFolderIn folder path = (name : List ℕ) × IsTrue (is_part name) × IsOfFolder (joined folder name) path

-- what is read of a layer: of the folders right in it, and of those right in such a folder
abbrev pub IsOfLayer : List ℕ → List ℕ → Type 0
IsOfLayer layer path = IsOfFolderIn layer path
    ⊎ ((name : List ℕ) × IsTrue (is_part name) × IsOfFolderIn (joined layer name) path)

abbrev pub IsOfLayers : List (List ℕ) → List ℕ → Type 0
IsOfLayers layers path = (layer : List ℕ) × IsAmong layers layer × IsOfLayer layer path

abbrev pub IsOfSets : List (List (List ℕ)) → List ℕ → Type 0
IsOfSets sets path = (layers : List (List ℕ)) × IsAmong sets layers × IsOfLayers layers path

-- a call on one of these paths failed, or memory ran out
abbrev pub FailsOne : (List ℕ → Type 0) → ReadFault → Type 0
FailsOne Among (File blamed) = Among blamed
FailsOne Among Memory = Unit {0}
FailsOne Among (Document blamed fault) = ⊥
FailsOne Among (Limit kind) = ⊥
