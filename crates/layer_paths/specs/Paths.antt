-- Where the layers of a buildpack and their documents stand.
use Rattle.std.specs.Prelude.{ℕ, ◌++◌, List, codes}
use Rattle.cnb_world.specs.Path.{joined}
use Rattle.cnb_toml.specs.Names.{folder_of}

-- the folder of a buildpack's layers (buildpack.md, "Layers Directory")
abbrev pub layers_folder : List ℕ → List ℕ → List ℕ
layers_folder layers id = joined layers (folder_of id)

-- the document of a layer (buildpack.md, "Layer Content Metadata (TOML)")
abbrev pub layer_document : List ℕ → List ℕ → List ℕ
layer_document folder layer = joined folder (layer ++ codes ".toml")
