-- Places of an image under a root.
use Rattle.std.specs.Prelude.{ℕ, ◌++◌, ◌≤◌, List, codes, length, if◌then◌else◌, Option, Some, None}
use Rattle.std.specs.Option.{ForSome}
use Rattle.cnb_world.specs.Path.{joined}
use Rattle.cnb_world.specs.Tree.{is_root}

-- the path of a place
abbrev pub place_in : List ℕ → List ℕ → List ℕ
place_in root place = if is_root root then place else if is_root place then root else root ++ place

-- the working folder: the one that is said, else the application's
abbrev pub dir_in : List ℕ → Option (List ℕ) → List ℕ
dir_in root None = joined root (codes "workspace")
dir_in root (Some place) = place_in root place

-- a place that leaves room for the root
abbrev pub IsShortDir : Option (List ℕ) → Type 0
IsShortDir dir = ForSome dir (λ place. length place ≤ 4096)

-- the folder of all layers, and the document that says how the image is launched
abbrev pub layers_folder : List ℕ → List ℕ
layers_folder root = joined root (codes "layers")

abbrev pub launch_doc_path : List ℕ → List ℕ
launch_doc_path root = joined (joined (layers_folder root) (codes "config")) (codes "metadata.toml")
