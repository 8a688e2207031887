-- The export of an image, in the order of work (platform.md, "exporter").
use Rattle.std.specs.Prelude.{ℕ, Bool, List, map, Result, Ok}
use Rattle.cnb_world.specs.Path.{joined}
use Rattle.image_docs.specs.declared.analyzed.Analyzed.{Analyzed}
use Rattle.image_docs.specs.declared.layer_row.LayerRow.{LayerRow}
use Rattle.image_docs.specs.declared.run_image.RunDoc.{RunDoc}
use Rattle.layer_paths.specs.Paths.{layers_folder}
use Rattle.run_docs.specs.declared.group.GroupRow.{GroupRow}
use Rattle.shelf_set.specs.Caches.{WorldAndCaches, in_world}
use Rattle.shelf_set.specs.Caching.{stores_folders}
use Rattle.steps.specs.Steps.{◌>>=◌, gives, map_err, yields}
use Rattle.cnb_export.specs.declared.exported.Digests.{Digests}
use Rattle.cnb_export.specs.declared.exported.Exported.{Exported}
use Rattle.cnb_export.specs.declared.exported.ExportedRow.{ExportedRow}
use Rattle.cnb_layers.specs.declared.frame.ExportFrame.{ExportFrame}
use Rattle.cnb_layers.specs.declared.gathered.Gathered.{Gathered}
use Rattle.cnb_layers.specs.declared.gathered.ImageLayer.{ImageLayer}
use Rattle.cnb_export.specs.declared.exporting.Gained.{Gained}
use Rattle.cnb_layers.specs.declared.fault.ExportFault.{ExportFault}
use Rattle.cnb_layers.specs.declared.fault.ExportFault.TheVariants.{Store}
use Rattle.cnb_layers.specs.Buildpack.{exports_group}
use Rattle.cnb_export.specs.Image.{image_of}
use Rattle.cnb_export.specs.Images.{reads_previous, reads_run_image}
use Rattle.cnb_layers.specs.Refusals.{cause_of}
use Rattle.cnb_export.specs.Trees.{puts_trees}
use Rattle.steps.specs.Outside.{Seen}

-- a layer of the image, as it is told
abbrev pub exported_row : ImageLayer → ExportedRow
exported_row layer = record { id = layer.row.id; layer = layer.row.layer; reused = layer.reused }

-- the image of what was gathered, its layers, and what goes into caches
abbrev pub gained_of : List ℕ → RunDoc → List GroupRow → Gathered → Digests → Gained
gained_of name run group gathered digests = record {
  image = image_of name run group gathered digests;
  rows = map exported_row gathered.layers;
  cached = gathered.cached;
}

-- The images are read, then what each buildpack left and the trees above the layers, and these make the image.
unfoldable pub gains : ExportFrame → List GroupRow → Analyzed → Seen → Result Gained ExportFault → Seen → Type 0
gains frame group analyzed = do
  run ← reads_run_image frame.store analyzed.run
  previous ← reads_previous frame.store analyzed.previous
  gathered ← exports_group frame previous group
  digests ← puts_trees frame gathered.slices gathered.processes
  image ← gives cause_of (Ok (image_of analyzed.run run group gathered digests))
  rows ← gives cause_of (Ok (map exported_row gathered.layers))
  yields (record { image = image; rows = rows; cached = gathered.cached })

-- the same from where the run image and the layers of the previous image are read
unfoldable pub gains_over : ExportFrame → List GroupRow → List ℕ → RunDoc → List LayerRow → Seen
    → Result Gained ExportFault → Seen → Type 0
gains_over frame group name run previous = do
  gathered ← exports_group frame previous group
  digests ← puts_trees frame gathered.slices gathered.processes
  image ← gives cause_of (Ok (image_of name run group gathered digests))
  rows ← gives cause_of (Ok (map exported_row gathered.layers))
  yields (record { image = image; rows = rows; cached = gathered.cached })

-- the folder of a layer's contents
abbrev pub folder_of : List ℕ → LayerRow → List ℕ
folder_of layers row = joined (layers_folder layers row.id) row.layer

-- At last the folders of the layers that go into caches are walked, and the layers are stored, with documents that read
-- as their rows where this is told.
unfoldable pub exports : Bool → ExportFrame → List GroupRow → Analyzed → WorldAndCaches
    → Result Exported ExportFault → WorldAndCaches → Type 0
exports readable frame group analyzed = do
  gained ← in_world (gains frame group analyzed)
  folders ← gives cause_of (Ok (map (folder_of frame.layers) gained.cached))
  gone ← map_err Store (stores_folders readable gained.cached folders)
  yields (record { image = gained.image; rows = gained.rows; gone = gone })
