-- Reading the environment files of a folder.
use Rattle.std.specs.Prelude.{ℕ, ◌≡◌, ◌⊎◌, IsTrue, Bool, true, false, List, [], ◌∷◌, codes, Option, Some, None, Result}
use Rattle.std.specs.Prelude.{Ok, Err}
use Rattle.cnb_world.specs.Path.{is_part, joined}
use Rattle.cnb_world.specs.Tree.{Tree, is_folder, item_at}
use Rattle.cnb_world.specs.declared.world.Item.{Item}
use Rattle.cnb_world.specs.declared.world.Kind.{Kind}
use Rattle.cnb_world.specs.declared.world.Kind.TheVariants as kind
use Rattle.steps.specs.Results.{◌>>=◌}
use Rattle.doc_files.specs.Reading.{names_at}
use Rattle.doc_files.specs.declared.fault.ReadFault.{ReadFault}
use Rattle.cnb_env.specs.Contents.{file_at}
use Rattle.cnb_env.specs.declared.files.EnvFile.{EnvFile}
use Rattle.cnb_env.specs.declared.names.Naming.{Naming}
use Rattle.cnb_env.specs.declared.names.Naming.TheVariants.{Whole}

-- what one name gives, before what the names behind it give
abbrev pub file_before : Result (Option EnvFile) ReadFault → Result (List EnvFile) ReadFault
    → Result (List EnvFile) ReadFault
file_before (Err fault) behind = Err fault
file_before (Ok None) behind = behind
file_before (Ok (Some file)) (Ok files) = Ok (file ∷ files)
file_before (Ok (Some file)) (Err fault) = Err fault

-- the files of these names, in order; the first that is refused decides
abbrev pub files_of : Naming → Tree → List ℕ → List (List ℕ) → Result (List EnvFile) ReadFault
files_of naming files folder [] = Ok []
files_of naming files folder (name ∷ names) = file_before (file_at naming files folder name)
    (files_of naming files folder names)

abbrev pub is_absent : Kind → Bool
is_absent kind.Absent = true
is_absent (kind.File exec len) = false
is_absent kind.Folder = false
is_absent kind.Link = false
is_absent kind.Odd = false

-- the files of a folder, which has to be one
abbrev pub listed_files : Naming → Tree → List ℕ → Result (List EnvFile) ReadFault
listed_files naming files folder = names_at files folder >>= files_of naming files folder

abbrev pub files_in_folder : Naming → Tree → List ℕ → Option Item → Result (List EnvFile) ReadFault
files_in_folder naming files folder None = Ok []
files_in_folder naming files folder (Some item) = listed_files naming files folder

-- the files of a folder, ascending by name; there are none where nothing stands at its path
abbrev pub folder_files_in : Naming → List ℕ → Tree → Result (List EnvFile) ReadFault
folder_files_in naming folder files = files_in_folder naming files folder (item_at files folder)

-- the folder of the platform's environment files
abbrev pub platform_env : List ℕ → List ℕ
platform_env platform = joined platform (codes "env")

-- the platform's files: the whole name of each is its variable's
unfoldable pub platform_files_in : List ℕ → Tree → Result (List EnvFile) ReadFault
platform_files_in platform files = folder_files_in Whole (platform_env platform) files

-- a folder, or nothing
abbrev pub is_folder_or_absent : Option Item → Bool
is_folder_or_absent None = true
is_folder_or_absent (Some item) = is_folder (Some item)

-- whether the files of a folder can be read
abbrev pub is_fit_folder : List ℕ → Tree → Bool
is_fit_folder folder files = is_folder_or_absent (item_at files folder)

abbrev pub is_fit_platform : List ℕ → Tree → Bool
is_fit_platform platform files = is_fit_folder (platform_env platform) files

-- what is read of a folder: itself, and what stands right in it
abbrev pub IsOfFolder : List ℕ → List ℕ → Type 0
IsOfFolder folder path = (path ≡ folder) ⊎ ((name : List ℕ) × IsTrue (is_part name) × (path ≡ joined folder name))
