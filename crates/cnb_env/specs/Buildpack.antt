-- Where a buildpack's version stands, and the name of its plan's file.
use Rattle.std.specs.Prelude.{ℕ, List, ◌++◌, codes}
use Rattle.cnb_world.specs.Path.{joined}
use Rattle.cnb_toml.specs.declared.names.Key.{Key}
use Rattle.cnb_toml.specs.Names.{folder_of}

-- the folder of a buildpack's version (platform.md, "Buildpacks Directory Layout")
abbrev pub buildpack_folder : List ℕ → Key → List ℕ
buildpack_folder buildpacks key = joined (joined buildpacks (folder_of key.id)) key.version

-- the name of the file of a plan that its child writes or reads
abbrev pub plan_name_of : Key → List ℕ
plan_name_of key = folder_of key.id ++ codes "@" ++ key.version ++ codes ".toml"
