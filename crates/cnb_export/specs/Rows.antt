-- The rows of an image, from the lowest (platform.md, "exporter").
use Rattle.std.specs.Prelude.{ℕ, List, [], ◌∷◌, ◌++◌, map, codes, Option, Some, None, if◌then◌else◌}
use Rattle.std.specs.Str.{bytes_eq}
use Rattle.cnb_world.specs.Path.{joined}
use Rattle.cnb_toml.specs.Names.{folder_of}
use Rattle.run_docs.specs.declared.group.GroupRow.{GroupRow}
use Rattle.image_docs.specs.By.{plain}
use Rattle.image_docs.specs.declared.layer_row.LayerRow.{LayerRow}
use Rattle.image_docs.specs.declared.row.Role.TheVariants.{Layer, App, Launcher, Process}
use Rattle.image_docs.specs.declared.row.Row.{Row}
use Rattle.image_docs.specs.declared.run_image.RunDoc.{RunDoc}
use Rattle.image_files.specs.RunPart.{run_row}
use Rattle.cnb_export.specs.declared.exported.Digests.{Digests}
use Rattle.cnb_layers.specs.declared.gathered.ImageLayer.{ImageLayer}

-- where a layer stands in the image
abbrev pub layer_place : LayerRow → List ℕ
layer_place row = joined (joined (codes "/layers") (folder_of row.id)) row.layer

-- the version of the group's first buildpack of this id; nothing where there is none
abbrev pub version_of : List GroupRow → List ℕ → List ℕ
version_of [] id = []
version_of (row ∷ rows) id = if bytes_eq row.key.id id then row.key.version else version_of rows id

-- what made a layer: its buildpack, and the layer's own name
abbrev pub layer_by : List GroupRow → LayerRow → List ℕ
layer_by group row = plain (row.id ++ codes "@" ++ version_of group row.id ++ codes ":" ++ row.layer)

abbrev pub layer_row : List GroupRow → ImageLayer → Row
layer_row group layer = record {
  role = Layer;
  place = layer_place layer.row;
  digest = layer.row.digest;
  by =
      layer_by group layer.row;
}

abbrev pub app_row : List ℕ → Row
app_row digest = record { role = App; place = codes "/workspace"; digest = digest; by = codes "app" }

abbrev pub launcher_row : List ℕ → Row
launcher_row digest = record { role = Launcher; place = codes "/cnb/lifecycle"; digest = digest; by = codes "launcher" }

abbrev pub process_rows : Option (List ℕ) → List Row
process_rows (Some digest) = record {
  role = Process;
  place = codes "/cnb/process";
  digest = digest;
  by = codes
      "process";
} ∷ []
process_rows None = []

-- the run image, the layers, the application, the launcher, and the links of the process types
abbrev pub rows_of : List ℕ → RunDoc → List GroupRow → List ImageLayer → Digests → List Row
rows_of name run group layers digests =
    map (run_row name) run.rows ++ map (layer_row group) layers ++ map app_row digests.app
    ++ launcher_row digests.launcher ∷ [] ++ process_rows digests.process
