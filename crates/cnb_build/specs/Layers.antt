-- The layers that a buildpack left (buildpack.md, "Layer Content Metadata (TOML)").
use Rattle.std.specs.Prelude.{ℕ, Bool, true, false, ◌++◌, List, [], ◌∷◌, if◌then◌else◌, Option, Some, None, Result, Ok}
use Rattle.cnb_world.specs.Path.{joined}
use Rattle.cnb_world.specs.Tree.{can_list, item_at, kind_of}
use Rattle.cnb_env.specs.Contents.{contents_of}
use Rattle.cnb_env.specs.Files.{is_absent}
use Rattle.doc_files.specs.Reading.{names_at}
use Rattle.layer_paths.specs.Names.{layers_among}
use Rattle.layer_paths.specs.Paths.{layer_document}
use Rattle.run_docs.specs.Layer.{layer_in}
use Rattle.run_docs.specs.declared.layer.LayerDoc.{LayerDoc}
use Rattle.steps.specs.Causes.{Only}
use Rattle.steps.specs.Each.{for_each}
use Rattle.steps.specs.Outside.{Seen}
use Rattle.steps.specs.Results as results
use Rattle.steps.specs.Steps.{◌>>=◌, gives, yields}
use Rattle.cnb_build.specs.declared.fault.BuildFault.{BuildFault}
use Rattle.cnb_build.specs.Reading.{reads_files, value_at}
use Rattle.cnb_build.specs.Refusals.{cause_of}

-- the names in a folder, of which there are none where nothing stands
abbrev pub names_if : List ℕ → Bool → Seen → Result (List (List ℕ)) BuildFault → Seen → Type 0
names_if folder true = yields []
names_if folder false = reads_files (Only folder) (λ files. can_list files folder) (λ files. names_at files folder)

unfoldable pub reads_names : List ℕ → Seen → Result (List (List ℕ)) BuildFault → Seen → Type 0
reads_names folder = do
  kind ← reads_files (Only folder) (λ files. true) (λ files. Ok (kind_of (item_at files folder)))
  names_if folder (is_absent kind)

-- a layer that is there while later buildpacks are built, behind others
abbrev pub with_layer : List ℕ → List ℕ → List (List ℕ) → LayerDoc → List (List ℕ)
with_layer folder layer found doc = if doc.build then found ++ joined folder layer ∷ [] else found

-- what a layer's document says of it; there is no layer where that is no regular file
abbrev pub found_with : List ℕ → List ℕ → List (List ℕ) → Option (List ℕ) → Result (List (List ℕ)) BuildFault
found_with folder layer found None = Ok found
found_with folder layer found (Some bytes) = results.and_then
    (value_at (layer_document folder layer) (layer_in bytes)) (λ doc. Ok (with_layer folder layer found doc))

unfoldable pub reads_layer : List ℕ → List ℕ → List (List ℕ) → Seen → Result (List (List ℕ)) BuildFault → Seen → Type 0
reads_layer folder layer found = do
  document ← reads_files (Only (layer_document folder layer)) (λ files. true)
      (λ files. contents_of (item_at files (layer_document folder layer)))
  gives cause_of (found_with folder layer found document)

-- the folders of those layers that are there while later buildpacks are built, ascending by name
unfoldable pub reads_layers : List ℕ → Seen → Result (List (List ℕ)) BuildFault → Seen → Type 0
reads_layers folder = do
  names ← reads_names folder
  layers ← gives cause_of (Ok (layers_among names))
  for_each (reads_layer folder) layers []
