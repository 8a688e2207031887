-- The run image, and the layers of the previous image.
use Rattle.std.specs.Prelude.{ℕ, List, [], Option, Some, None, Result}
use Rattle.image_docs.specs.declared.layer_row.LayerRow.{LayerRow}
use Rattle.image_docs.specs.declared.run_image.RunDoc.{RunDoc}
use Rattle.image_files.specs.Images as images
use Rattle.steps.specs.Outside.{Seen}
use Rattle.steps.specs.Steps.{◌>>=◌, map_err, yields}
use Rattle.cnb_layers.specs.declared.fault.ExportFault.{ExportFault}
use Rattle.cnb_layers.specs.Refusals.{of_image_fault}

-- the run image, which must be there
abbrev pub reads_run_image : List ℕ → List ℕ → Seen → Result RunDoc ExportFault → Seen → Type 0
reads_run_image store name = map_err of_image_fault (images.reads_run_image store name)

-- the layers of an image, which must be there
unfoldable pub reads_layers : List ℕ → List ℕ → Seen → Result (List LayerRow) ExportFault → Seen → Type 0
reads_layers store name = do
  image ← map_err of_image_fault (images.reads_image store name)
  yields image.layers

-- the layers of the previous image, of which there are none where there is no such image
abbrev pub reads_previous : List ℕ → Option (List ℕ) → Seen → Result (List LayerRow) ExportFault → Seen → Type 0
reads_previous store None = yields []
reads_previous store (Some name) = reads_layers store name
