-- What one buildpack left: its documents, and then its layers, ascending.
use Rattle.std.specs.Prelude.{ℕ, ◌++◌, List, [], ◌∷◌, length, codes, nat_lt, Option, Some, None, Result, Ok, Err}
use Rattle.std.specs.Prelude.{if◌then◌else◌}
use Rattle.std.specs.List.{filter}
use Rattle.app_slices.specs.Slots.{Slices}
use Rattle.cnb_world.specs.Path.{joined}
use Rattle.cnb_toml.specs.declared.process.Process.{Process}
use Rattle.image_docs.specs.declared.layer_row.LayerRow.{LayerRow}
use Rattle.image_docs.specs.declared.store_row.StoreRow.{StoreRow}
use Rattle.run_docs.specs.Launch.{launch_in}
use Rattle.run_docs.specs.Store.{store_in}
use Rattle.run_docs.specs.declared.group.GroupRow.{GroupRow}
use Rattle.run_docs.specs.declared.launch.LaunchToml.{LaunchToml}
use Rattle.run_docs.specs.declared.store.StoreToml.{StoreToml}
use Rattle.steps.specs.Each.{for_each}
use Rattle.steps.specs.Outside.{Seen}
use Rattle.steps.specs.Steps.{◌>>=◌, gives}
use Rattle.cnb_layers.specs.declared.frame.ExportFrame.{ExportFrame}
use Rattle.cnb_layers.specs.declared.gathered.Gathered.{Gathered}
use Rattle.cnb_layers.specs.declared.fault.ExportFault.{ExportFault}
use Rattle.cnb_layers.specs.declared.fault.ExportFault.TheVariants.{TwoDefaults}
use Rattle.cnb_layers.specs.Gathering.{exports_layer, nothing_gathered}
use Rattle.cnb_layers.specs.Names.{reads_layer_names}
use Rattle.layer_paths.specs.Paths.{layers_folder}
use Rattle.cnb_layers.specs.Patterns.{reads_slices}
use Rattle.cnb_layers.specs.Reading.{reads_as, reads_some}
use Rattle.cnb_layers.specs.Refusals.{cause_of}

-- the processes that are marked as the default
abbrev pub defaults_of : List Process → List Process
defaults_of processes = filter (λ process. process.default) processes

-- a `launch.toml` that marks at most one
abbrev pub one_default : List ℕ → LaunchToml → Result LaunchToml ExportFault
one_default id launch = if nat_lt 1 (length (defaults_of launch.processes)) then Err (TwoDefaults id) else Ok launch

unfoldable pub reads_launch : List ℕ → List ℕ → Seen → Result LaunchToml ExportFault → Seen → Type 0
reads_launch folder id = do
  path ← gives cause_of (Ok (joined folder (codes "launch.toml")))
  launch ← reads_as launch_in path
  gives cause_of (one_default id launch)

unfoldable pub reads_store_document : List ℕ → Seen → Result (Option StoreToml) ExportFault → Seen → Type 0
reads_store_document folder = do
  path ← gives cause_of (Ok (joined folder (codes "store.toml")))
  reads_some store_in path

-- what a buildpack keeps for its next build, where it left something
abbrev pub with_store_row : List StoreRow → List ℕ → Option StoreToml → List StoreRow
with_store_row rows id None = rows
with_store_row rows id (Some store_document) = rows ++ record { id = id; meta = store_document.meta } ∷ []

abbrev pub with_documents : Gathered → List ℕ → LaunchToml → Slices → Option StoreToml → Gathered
with_documents gathered id launch slices store_document = record {
  labels = gathered.labels ++ launch.labels;
  processes = gathered.processes ++ launch.processes;
  slices = gathered.slices ++ slices;
  store_rows = with_store_row gathered.store_rows id store_document;
  layers = gathered.layers;
  cached = gathered.cached;
}

-- `store.toml`, behind what `launch.toml` has
unfoldable pub exports_store_document : List ℕ → List ℕ → Gathered → LaunchToml → Slices → Seen
    → Result Gathered ExportFault → Seen
    → Type 0
exports_store_document folder id gathered launch slices = do
  store_document ← reads_store_document folder
  gives cause_of (Ok (with_documents gathered id launch slices store_document))

-- `launch.toml` with the patterns of its slices, and then `store.toml`
unfoldable pub exports_documents : List ℕ → List ℕ → Gathered → Seen → Result Gathered ExportFault → Seen → Type 0
exports_documents folder id gathered = do
  launch ← reads_launch folder id
  slices ← reads_slices id launch.slices
  exports_store_document folder id gathered launch slices

-- the layers, ascending
unfoldable pub exports_layers : List ℕ → List LayerRow → List ℕ → List ℕ → Gathered → Seen
    → Result Gathered ExportFault → Seen → Type 0
exports_layers store previous id folder gathered = do
  names ← reads_layer_names folder
  for_each (exports_layer store previous id folder) names gathered

unfoldable pub exports_buildpack : ExportFrame → List LayerRow → GroupRow → Gathered → Seen
    → Result Gathered ExportFault → Seen → Type 0
exports_buildpack frame previous row gathered = do
  folder ← gives cause_of (Ok (layers_folder frame.layers row.key.id))
  documents ← exports_documents folder row.key.id gathered
  exports_layers frame.store previous row.key.id folder documents

-- the buildpacks of a group, in order
abbrev pub exports_group : ExportFrame → List LayerRow → List GroupRow → Seen → Result Gathered ExportFault → Seen
    → Type 0
exports_group frame previous group = for_each (exports_buildpack frame previous) group nothing_gathered
