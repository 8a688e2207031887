-- The processes of an image (buildpack.md, "launch.toml (TOML)"; platform.md, "exporter").
use Rattle.std.specs.Prelude.{ℕ, Bool, false, List, map, fold, codes, Option, Some, None, if◌then◌else◌}
use Rattle.std.specs.Str.{bytes_eq}
use Rattle.cnb_world.specs.Path.{joined}
use Rattle.cnb_toml.specs.declared.process.Process.{Process}
use Rattle.tree_canon.specs.declared.node.Named.{Named}
use Rattle.tree_canon.specs.declared.node.Node.{Node}
use Rattle.tree_canon.specs.declared.node.Node.TheVariants.{Folder, Link}

-- whether the default is of this type
abbrev pub has_type : Option (List ℕ) → List ℕ → Bool
has_type None kind = false
has_type (Some default) kind = bytes_eq default kind

-- the default behind one more process: one that says so is it, and one that doesn't clears its type
abbrev pub default_after : Option (List ℕ) → Process → Option (List ℕ)
default_after default process = if process.default then Some process.kind else if has_type default process.kind
    then None else default

-- the type of the default process
abbrev pub default_of : List Process → Option (List ℕ)
default_of processes = fold default_after None processes

-- the program that the image starts
abbrev pub entrypoint_of : Option (List ℕ) → List ℕ
entrypoint_of (Some kind) = joined (codes "/cnb/process") kind
entrypoint_of None = codes "/cnb/lifecycle/launcher"

-- a folder with a link to the launcher for each process, of the name of its type
abbrev pub link_of : Process → Named
link_of process = record { name = process.kind; node = Link (codes "../lifecycle/launcher") }

abbrev pub links_of : List Process → Node
links_of processes = Folder (map link_of processes)
