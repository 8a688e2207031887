-- The layers that have a document in a folder (buildpack.md, "Layer Content Metadata (TOML)").
use Rattle.std.specs.Prelude.{ℕ, Bool, true, false, List, [], Result, Ok}
use Rattle.cnb_world.specs.Tree.{can_list}
use Rattle.cnb_env.specs.Files.{is_absent}
use Rattle.doc_files.specs.Reading.{names_at}
use Rattle.layer_paths.specs.Names.{layers_among}
use Rattle.steps.specs.Causes.{Only}
use Rattle.steps.specs.Outside.{Seen}
use Rattle.steps.specs.Steps.{◌>>=◌, gives, yields}
use Rattle.cnb_layers.specs.declared.fault.ExportFault.{ExportFault}
use Rattle.cnb_layers.specs.Reading.{reads_files, reads_kind}
use Rattle.cnb_layers.specs.Refusals.{cause_of}

abbrev pub lists : List ℕ → Seen → Result (List (List ℕ)) ExportFault → Seen → Type 0
lists folder = reads_files (Only folder) (λ files. can_list files folder) (λ files. names_at files folder)

-- the names in a folder, of which there are none where nothing stands
abbrev pub lists_unless : Bool → List ℕ → Seen → Result (List (List ℕ)) ExportFault → Seen → Type 0
lists_unless true folder = yields []
lists_unless false folder = lists folder

unfoldable pub reads_names : List ℕ → Seen → Result (List (List ℕ)) ExportFault → Seen → Type 0
reads_names folder = do
  kind ← reads_kind folder
  lists_unless (is_absent kind) folder

-- the names of the layers that have a document in a folder
unfoldable pub reads_layer_names : List ℕ → Seen → Result (List (List ℕ)) ExportFault → Seen → Type 0
reads_layer_names folder = do
  names ← reads_names folder
  gives cause_of (Ok (layers_among names))
