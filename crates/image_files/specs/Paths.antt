-- Where the documents of images stand in a store.
use Rattle.std.specs.Prelude.{ℕ, ◌++◌, List, codes}
use Rattle.cnb_world.specs.Path.{joined}

abbrev pub document_name : List ℕ → List ℕ
document_name name = name ++ codes ".toml"

-- the folders of images and of run images
abbrev pub images_folder : List ℕ → List ℕ
images_folder store = joined store (codes "images")

abbrev pub runs_folder : List ℕ → List ℕ
runs_folder store = joined store (codes "runs")

-- the document of an image
abbrev pub image_path : List ℕ → List ℕ → List ℕ
image_path store name = joined (images_folder store) (document_name name)

-- the document of a run image
abbrev pub run_path : List ℕ → List ℕ → List ℕ
run_path store name = joined (runs_folder store) (document_name name)
