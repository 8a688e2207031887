-- What a buildpack left of one layer: its document, and its contents.
use Rattle.std.specs.Prelude.{ℕ, Bool, true, false, List, Option, Some, None, Result, Ok, Err}
use Rattle.cnb_world.specs.Path.{joined}
use Rattle.cnb_world.specs.Tree.{item_at}
use Rattle.cnb_world.specs.declared.world.Kind.{Kind}
use Rattle.cnb_world.specs.declared.world.Kind.TheVariants as kind
use Rattle.cnb_env.specs.Contents.{contents_of}
use Rattle.layer_flags.specs.declared.flags.Flags.{Flags}
use Rattle.run_docs.specs.Layer.{layer_in}
use Rattle.run_docs.specs.declared.layer.LayerDoc.{LayerDoc}
use Rattle.steps.specs.Causes.{Only}
use Rattle.steps.specs.Outside.{Seen}
use Rattle.steps.specs.Steps.{◌>>=◌, gives, map_err, yields}
use Rattle.tree_store.specs.Caching.{digests_folder}
use Rattle.tree_store.specs.Steps.{puts_folder}
use Rattle.tree_store.specs.declared.fault.StoreFault.TheVariants.{OddFile}
use Rattle.cnb_layers.specs.declared.fault.ExportFault.{ExportFault}
use Rattle.cnb_layers.specs.declared.fault.ExportFault.TheVariants.{Store}
use Rattle.cnb_layers.specs.declared.layer.Contents.{Contents}
use Rattle.cnb_layers.specs.Reading.{reads_files, reads_kind, some_value_at}
use Rattle.cnb_layers.specs.Refusals.{cause_of}

-- a layer's document is read, where a regular file is there
abbrev pub reads_regular : List ℕ → Seen → Result (Option (List ℕ)) ExportFault → Seen → Type 0
reads_regular path = reads_files (Only path) (λ files. true) (λ files. contents_of (item_at files path))

unfoldable pub reads_layer : List ℕ → Seen → Result (Option LayerDoc) ExportFault → Seen → Type 0
reads_layer path = do
  found ← reads_regular path
  gives cause_of (some_value_at layer_in path found)

-- whether contents are there: a folder is, nothing isn't, and all else is refused
abbrev pub there_by : List ℕ → Kind → Result Bool ExportFault
there_by path kind.Folder = Ok true
there_by path kind.Absent = Ok false
there_by path (kind.File exec len) = Err (Store (OddFile path))
there_by path kind.Link = Err (Store (OddFile path))
there_by path kind.Odd = Err (Store (OddFile path))

unfoldable pub looks_for_contents : List ℕ → Seen → Result Bool ExportFault → Seen → Type 0
looks_for_contents path = do
  kind ← reads_kind path
  gives cause_of (there_by path kind)

-- contents that go into the image are put as they are read
unfoldable pub puts_contents : List ℕ → List ℕ → Seen → Result Contents ExportFault → Seen → Type 0
puts_contents store path = do
  digest ← map_err Store (puts_folder store path)
  yields (record { there = true; digest = Some digest })

-- contents that go into caches alone are hashed as they are read
unfoldable pub digests_contents : List ℕ → Seen → Result Contents ExportFault → Seen → Type 0
digests_contents path = do
  digest ← map_err Store (digests_folder path)
  yields (record { there = true; digest = Some digest })

-- contents that are there, by whether they go into caches and into the image
abbrev pub takes_there : List ℕ → Bool → Bool → List ℕ → Seen → Result Contents ExportFault → Seen → Type 0
takes_there store cache true path = puts_contents store path
takes_there store true false path = digests_contents path
takes_there store false false path = yields (record { there = true; digest = None })

abbrev pub takes_contents : List ℕ → Flags → List ℕ → Bool → Seen → Result Contents ExportFault → Seen → Type 0
takes_contents store flags path true = takes_there store flags.cache flags.launch path
takes_contents store flags path false = yields (record { there = false; digest = None })

abbrev pub flags_of : LayerDoc → Flags
flags_of doc = record { launch = doc.launch; build = doc.build; cache = doc.cache }

-- the contents of a layer are looked for, and taken where they go into the image or into caches
unfoldable pub finds_contents : List ℕ → List ℕ → List ℕ → Flags → Seen → Result Contents ExportFault → Seen → Type 0
finds_contents store folder layer flags = do
  path ← gives cause_of (Ok (joined folder layer))
  there ← looks_for_contents path
  takes_contents store flags path there
