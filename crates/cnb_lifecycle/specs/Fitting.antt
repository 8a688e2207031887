-- Where a command makes no call on a path of the wrong kind: no file is listed, no folder read or written over.
use Rattle.std.specs.Prelude.{ℕ, ◌≡◌, true, false, All, List, IfOk, IfSome, IsTrue, is_some, codes, Bool, not, []}
use Rattle.std.specs.Prelude.{Option, Some, nat_eq, unwrap_or, ◌++◌}
use Rattle.cnb_create.specs.Apart.{are_apart}
use Rattle.cnb_create.specs.Creates.{previous_name}
use Rattle.std.specs.List.{ends_with, list_all, AllByRecursion}
use Rattle.cnb_build.specs.Places.{left_in}
use Rattle.cnb_detect.specs.Detects.{is_fit_detect}
use Rattle.cnb_detect.specs.Documents.{group_document, plan_document}
use Rattle.cnb_detect.specs.Preparation.{is_fit_preparation}
use Rattle.cnb_detect.specs.declared.target.TargetSource.TheVariants as target
use Rattle.cnb_launch.specs.Choosing.{chosen_in}
use Rattle.cnb_launch.specs.Documents.{is_fit_doc, launch_doc_under}
use Rattle.cnb_launch.specs.Planning.{are_fit_execs, are_fit_layers, sets_in}
use Rattle.cnb_env.specs.Buildpack.{buildpack_folder, plan_name_of}
use Rattle.cnb_env.specs.Files.{is_fit_platform, platform_env}
use Rattle.cnb_env.specs.Layers.{are_fit_launch_sets, is_fit_layer}
use Rattle.cnb_env.specs.declared.layers.Phase.TheVariants as phase
use Rattle.cnb_record.specs.Reading.{is_fit_file}
use Rattle.cnb_restore.specs.Analyzes.{image_found, is_fit_image}
use Rattle.cnb_restore.specs.Images.{layers_of}
use Rattle.cnb_toml.specs.Keys.{is_key}
use Rattle.cnb_toml.specs.Names.{is_image_name, is_layer_name}
use Rattle.cnb_toml.specs.declared.names.Key.{Key}
use Rattle.cnb_toml.specs.declared.target.Target.{Target}
use Rattle.cnb_words.specs.declared.analyze.AnalyzeWords.{AnalyzeWords}
use Rattle.cnb_words.specs.declared.base.BaseWords.{BaseWords}
use Rattle.cnb_words.specs.declared.build.BuildWords.{BuildWords}
use Rattle.cnb_words.specs.declared.check.CheckWords.{CheckWords}
use Rattle.cnb_words.specs.declared.create.CreateWords.{CreateWords}
use Rattle.cnb_words.specs.declared.detect.DetectWords.{DetectWords}
use Rattle.cnb_words.specs.declared.export.ExportWords.{ExportWords}
use Rattle.cnb_words.specs.declared.launch.LaunchWords.{LaunchWords}
use Rattle.cnb_words.specs.declared.prune.PruneWords.{PruneWords}
use Rattle.cnb_words.specs.declared.rebase.RebaseWords.{RebaseWords}
use Rattle.cnb_words.specs.declared.restore.RestoreWords.{RestoreWords}
use Rattle.cnb_words.specs.declared.show.ShowWords.{ShowWords}
use Rattle.cnb_words.specs.declared.unpack.UnpackWords.{UnpackWords}
use Rattle.cnb_words.specs.declared.verify.VerifyWords.{VerifyWords}
use Rattle.cnb_words.specs.declared.words.Asked.{Asked}
use Rattle.cnb_words.specs.declared.words.Asked.TheVariants.{Detect, Analyze, Restore, Build, Export, Create, Rebase}
use Rattle.cnb_words.specs.declared.words.Asked.TheVariants.{Base, Unpack, Show, Prune, Verify, Check, Drill, Launch}
use Rattle.cnb_world.specs.Path.{beside, is_short_path, joined, parent_of}
use Rattle.cnb_world.specs.Tree.{Tree, bytes_of, can_be_folders, can_list, folders_above, is_file_or_absent, is_root}
use Rattle.cnb_world.specs.Tree.{is_within, item_at, can_make_folder}
use Rattle.cnb_world.specs.Runs.{Run}
use Rattle.cnb_world.specs.Whole.{can_write, written}
use Rattle.image_docs.specs.declared.row.Row.{Row}
use Rattle.cnb_world.specs.Shelf.{Held}
use Rattle.image_docs.specs.declared.layer_row.LayerRow.{LayerRow}
use Rattle.image_files.specs.Documents.{is_fit_document}
use Rattle.image_files.specs.Images.{image_at}
use Rattle.image_files.specs.Paths.{image_path, images_folder, run_path, runs_folder}
use Rattle.image_files.specs.Target.{analyzed_document, is_fit_target}
use Rattle.layer_paths.specs.Paths.{layers_folder}
use Rattle.order_files.specs.Catalog.{is_fit_catalog}
use Rattle.order_files.specs.OrderFile.{is_fit_order_file}
use Rattle.shelf_set.specs.Gathering.{document_rows}
use Rattle.shelf_set.specs.ShelfState.{ShelfState}
use Rattle.steps.specs.Outside.{Seen}
use Rattle.tree_canon.specs.Division.{Spells}
use Rattle.tree_canon.specs.declared.node.Node.{Node}
use Rattle.tree_store.specs.Overlay.{is_folder_node}
use Rattle.tree_store.specs.Steps.{can_put}
use Rattle.tree_store.specs.Store.{tree_path}
use Rattle.tree_store.specs.Writing.{AreApart, can_begin, trees_of}

-- no such call is counted where the files, which are told, are as this says
abbrev pub NoMisuse : (Tree → Type 0) → Seen → Seen → Type 0
NoMisuse Fit old new = IfSome old.files (λ files. Fit files → new.misused ≡ old.misused)

-- each of these children left files as this says
abbrev pub LeaveFit : (Tree → Type 0) → List Run → Type 0
LeaveFit Fit runs = AllByRecursion (λ run. IfSome run.left Fit) runs

-- no such call is counted where the files are as the first says, and each child that ran left files as the second says
abbrev pub NoMisuseWhere : (Tree → Type 0) → (Tree → Type 0) → Seen → Seen → Type 0
NoMisuseWhere Fit Left old new = IfSome old.files
    (λ files. Fit files → (ran : List Run) → new.runs ≡ old.runs ++ ran → LeaveFit Left ran
    → new.misused ≡ old.misused)

-- a file, or nothing, is at the image's document
abbrev pub FitsShow : ShowWords → Tree → Type 0
FitsShow words files = IsTrue (is_fit_document (image_path words.store words.image) files)

-- a record can be written, its folder isn't at or below one of the documents, and the work folder isn't at or below the
-- record, or the file that is first written in its place
pub record FitsRecord (work path : List ℕ) (files : Tree) : Type 0 where
  pub written : IsTrue (can_write path files)
  pub group_apart : is_within (group_document work) (parent_of path) ≡ false
  pub plan_apart : is_within (plan_document work) (parent_of path) ≡ false
  pub work_apart : is_within path work ≡ false
  pub beside_apart : is_within (beside path) work ≡ false

-- what is read is of the right kinds, and both documents can be written, and so can a record, where one is asked for
pub record FitsDetect (words : DetectWords) (files : Tree) : Type 0 where
  pub choice : IsTrue (is_fit_detect target.Document words.choice files)
  pub record_file : IfSome words.proof_path (λ path. FitsRecord words.choice.work path files)

-- the same of both images, and what was analyzed can be written
pub record FitsAnalyze (words : AnalyzeWords) (files : Tree) : Type 0 where
  pub run : IsTrue (is_fit_document (run_path words.store words.run) files)
  pub previous : IsTrue (is_fit_image words.store words.previous files)
  pub written : IsTrue (can_write (analyzed_document words.work) files)

-- the same of both images, and the image can be written
pub record FitsRebase (words : RebaseWords) (files : Tree) : Type 0 where
  pub image : IsTrue (is_fit_document (image_path words.store words.image) files)
  pub run : IsTrue (is_fit_document (run_path words.store words.run) files)
  pub written : IsTrue (can_write (image_path words.store words.image) files)

-- a tree's file may be begun, a file, or nothing, is at each tree of the store, and the run image can be written
pub record FitsBase (words : BaseWords) (files : Tree) : Type 0 where
  pub begun : IsTrue (can_begin words.store files)
  pub trees : (digest : List ℕ) → IsTrue (is_file_or_absent (item_at files (tree_path words.store digest)))
  pub written : IsTrue (can_write (run_path words.store words.run) files)

-- a file, or nothing, is at the image's document and at each tree of the store
pub record FitsVerify (words : VerifyWords) (files : Tree) : Type 0 where
  pub image : IsTrue (is_fit_document (image_path words.store words.image) files)
  pub trees : (digest : List ℕ) → IsTrue (is_file_or_absent (item_at files (tree_path words.store digest)))

-- a folder, or nothing, is at a path
abbrev pub IsListed : List ℕ → Tree → Type 0
IsListed folder files = is_some (item_at files folder) ≡ true → IsTrue (can_list files folder)

-- a folder, or nothing, is where the documents and the trees are
pub record FitsPrune (words : PruneWords) (files : Tree) : Type 0 where
  pub images : IsListed (images_folder words.store) files
  pub runs : IsListed (runs_folder words.store) files
  pub trees : IsListed (trees_of words.store) files

-- A folder, or nothing, is where each buildpack may have its layers, and a file, or nothing, at its documents there and
-- at the documents of images and run images. The layers folder is apart from that of the trees. Each tree may be put,
-- before its digest is known and after, and the image can be written.
pub record FitsImage (store layers image : List ℕ) (files : Tree) : Type 0 where
  pub apart : IsTrue (are_apart layers (trees_of store))
  pub folders : (id : List ℕ) → IsListed (layers_folder layers id) files
  pub launch : (id : List ℕ) → IsTrue (is_fit_document (joined (layers_folder layers id) (codes "launch.toml")) files)
  pub kept : (id : List ℕ) → IsTrue (is_fit_document (joined (layers_folder layers id) (codes "store.toml")) files)
  pub runs : (name : List ℕ) → IsTrue (is_fit_document (run_path store name) files)
  pub images : (name : List ℕ) → IsTrue (is_fit_document (image_path store name) files)
  pub begun : IsTrue (can_begin store files)
  pub trees : (tree : Node) → IsTrue (can_put store tree files)
  pub written : IsTrue (can_write (image_path store image) files)

-- the same, and a file, or nothing, is at both documents of the work folder
pub record FitsExport (words : ExportWords) (files : Tree) : Type 0 where
  pub group : IsTrue (is_fit_document (group_document words.work) files)
  pub analyzed : IsTrue (is_fit_document (analyzed_document words.work) files)
  pub image : FitsImage words.store words.layers words.image files

-- the order and the buildpacks are where they are looked for, and a file, or nothing, is at the record and both
-- documents
pub record FitsCheck (words : CheckWords) (files : Tree) : Type 0 where
  pub order : IsTrue (is_fit_order_file words.order files)
  pub buildpacks : IsTrue (is_fit_catalog words.buildpacks files)
  pub record_file : IsTrue (is_fit_file words.proof_path files)
  pub group : IsTrue (is_fit_file (group_document words.work) files)
  pub plan : IsTrue (is_fit_file (plan_document words.work) files)

-- a file, or nothing, is at the document, the layers' folders are folders, and so are those of their environment and
-- programs
pub record FitsLaunch (words : LaunchWords) (files : Tree) : Type 0 where
  pub document : IsTrue (is_fit_doc words.root files)
  pub layers : IfOk (launch_doc_under words.root files) (λ doc. IsTrue (are_fit_layers words.root doc.buildpacks files))
  pub process : IfOk (launch_doc_under words.root files)
      (λ doc. IfOk (chosen_in doc words.call) (λ chosen. IfOk (sets_in words.root doc.buildpacks files)
      (λ sets. IsTrue (are_fit_launch_sets chosen.kind files sets) × IsTrue (are_fit_execs chosen.kind sets files))))

-- a row that stands at `/` lays a folder: what its tree's file spells is one
abbrev pub LaysFolder : List ℕ → Tree → Row → Type 0
LaysFolder store files row = is_root row.place ≡ true → (tree : Node)
    → Spells tree (bytes_of (item_at files (tree_path store row.digest))) → IsTrue (is_folder_node tree)

-- A file, or nothing, is at the image's document and at each tree of the store, and what the image lays at `/` is a
-- folder. Folders, or nothing, are above the root, and neither the root nor the folder of the trees is the other or
-- lies in it.
pub record FitsUnpack (words : UnpackWords) (files : Tree) : Type 0 where
  pub image : IsTrue (is_fit_document (image_path words.store words.image) files)
  pub trees : (digest : List ℕ) → IsTrue (is_file_or_absent (item_at files (tree_path words.store digest)))
  pub folders : IfOk (image_at words.store words.image files) (λ image. All (LaysFolder words.store files) image.rows)
  pub above : IsTrue (can_be_folders files (folders_above words.root))
  pub apart : AreApart words.root (trees_of words.store)

-- a name that ends as that of a layer's document does
abbrev pub is_document_like : List ℕ → Bool
is_document_like name = ends_with nat_eq name (codes ".toml")

abbrev pub is_plain_row : LayerRow → Bool
is_plain_row row = not (is_document_like row.layer)

-- no row is of a layer with such a name
abbrev pub have_plain_names : List LayerRow → Bool
have_plain_names rows = list_all is_plain_row rows

-- a cache tells what it holds and its document, which has no such row
abbrev pub tells_plain_names : Option Held → Option (List ℕ) → Bool
tells_plain_names (Some held) (Some document) = have_plain_names (unwrap_or (document_rows document) [])
tells_plain_names held document = false

abbrev pub is_plain_shelf : ShelfState → Bool
is_plain_shelf shelf = tells_plain_names shelf.held shelf.rows

-- A file, or nothing, is at both documents of the work folder and at the document of each image, and the layers folder
-- is there or can be made. Contracts see the caches. No layer, of an image or of a cache, has a name that ends in
-- `.toml`: the documents of layers stand beside their folders, so the folder of a layer `a.toml` would stand at the
-- document of a layer `a`.
pub record FitsRestore (words : RestoreWords) (shelves : List ShelfState) (files : Tree) : Type 0 where
  pub analyzed : IsTrue (is_fit_document (analyzed_document words.work) files)
  pub group : IsTrue (is_fit_document (group_document words.work) files)
  pub images : (name : List ℕ) → IsTrue (is_fit_document (image_path words.store name) files)
  pub names : (name : List ℕ)
      → IfOk (image_found words.store name files) (λ image. IsTrue (have_plain_names (layers_of image)))
  pub layers : IsTrue (can_make_folder files words.layers)
  pub caches : IsTrue (list_all is_plain_shelf shelves)

-- the folder of the Buildpack Plans
abbrev pub plans_folder : List ℕ → List ℕ
plans_folder work = joined work (codes "plans")

-- What the build of a buildpack needs: a file, or nothing, is at its descriptor and at each document that its child
-- leaves, the folder of its layers can be made, its Buildpack Plan can be written, and each folder of environment files
-- of a layer is a folder, or isn't there.
pub record FitsBuildpack (buildpacks work layers : List ℕ) (key : Key) (files : Tree) : Type 0 where
  pub descriptor : IsTrue (is_file_or_absent (item_at files
      (joined (buildpack_folder buildpacks key) (codes "buildpack.toml"))))
  pub folder : IsTrue (can_make_folder files (layers_folder layers key.id))
  pub plan : IsTrue (can_write (joined (plans_folder work) (plan_name_of key)) files)
  pub unmet : IsTrue (is_file_or_absent (item_at files (left_in (layers_folder layers key.id)).unmet))
  pub launch : IsTrue (is_file_or_absent (item_at files (left_in (layers_folder layers key.id)).launch))
  pub store : IsTrue (is_file_or_absent (item_at files (left_in (layers_folder layers key.id)).store))
  pub environments : (layer : List ℕ) → IsTrue (is_layer_name layer)
      → IsTrue (is_fit_layer phase.Build files (joined (layers_folder layers key.id) layer))

-- the same of each buildpack that can be in a group
abbrev pub FitsBuildpacks : List ℕ → List ℕ → List ℕ → Tree → Type 0
FitsBuildpacks buildpacks work layers files = (key : Key) → IsTrue (is_key key)
    → FitsBuildpack buildpacks work layers key files

-- what each child has to leave
abbrev pub FitsBuilt : BuildWords → Tree → Type 0
FitsBuilt words = FitsBuildpacks words.buildpacks words.work words.layers

-- before the first child a file, or nothing, is at the group, the plan and the target besides, a folder, or nothing, at
-- the platform's environment, and the folder of layers isn't at or below that of the Buildpack Plans
pub record FitsBuild (words : BuildWords) (files : Tree) : Type 0 where
  pub group : IsTrue (is_file_or_absent (item_at files (group_document words.work)))
  pub plan : IsTrue (is_file_or_absent (item_at files (plan_document words.work)))
  pub target : IsTrue (is_fit_target words.work files)
  pub platform : IsTrue (is_fit_platform words.platform files)
  pub plans_apart : is_within (plans_folder words.work) words.layers ≡ false
  pub built : FitsBuilt words files

-- What the first build needs before its child: a file, or nothing, is at the buildpack's descriptor, the folder of its
-- layers can be made, and its Buildpack Plan can be written.
pub record FitsFirst (buildpacks work layers : List ℕ) (key : Key) (files : Tree) : Type 0 where
  pub descriptor : IsTrue (is_file_or_absent (item_at files
      (joined (buildpack_folder buildpacks key) (codes "buildpack.toml"))))
  pub folder : IsTrue (can_make_folder files (layers_folder layers key.id))
  pub plan : IsTrue (can_write (joined (plans_folder work) (plan_name_of key)) files)

-- each of these children left files as this says, which are told
abbrev pub LeaveTold : (Tree → Type 0) → List Run → Type 0
LeaveTold Fit runs = AllByRecursion (λ run. (files : Tree) × (run.left ≡ Some files) × Fit files) runs

-- the files with a document of what was analyzed in the work folder, whatever it says
abbrev pub with_analyzed : List ℕ → List ℕ → Tree → Tree
with_analyzed work analyzed files = written (analyzed_document work) analyzed files

-- and with a group,
abbrev pub with_group : List ℕ → List ℕ → List ℕ → Tree → Tree
with_group work analyzed group files = written (group_document work) group (with_analyzed work analyzed files)

-- and with a plan
abbrev pub with_plan : List ℕ → List ℕ → List ℕ → List ℕ → Tree → Tree
with_plan work analyzed group plan files = written (plan_document work) plan (with_group work analyzed group files)

abbrev pub restore_words : CreateWords → RestoreWords
restore_words words = record {
  store = words.store;
  work = words.detect.work;
  layers = words.layers;
  caches =
      words.caches;
}

-- The words' own paths are of their form. The folders of the buildpacks, of the Buildpack Plans and of the platform's
-- environment are apart from the layers folder, and neither a plan's folder nor a folder of a buildpack's layers lies
-- in what stands in such a folder of layers.
pub record ArePlacesApart (words : CreateWords) : Type 0 where
  pub store : IsTrue (is_short_path words.store)
  pub layers : IsTrue (is_short_path words.layers)
  pub image : IsTrue (is_image_name words.image)
  pub platform : IsTrue (are_apart words.layers (platform_env words.detect.platform))
  pub buildpacks : IsTrue (are_apart words.layers words.detect.buildpacks)
  pub plans : IsTrue (are_apart words.layers (plans_folder words.detect.work))
  pub above_plan : (key : Key) → IsTrue (is_key key) → (id name : List ℕ)
      → is_within (joined (layers_folder words.layers id) name)
      (parent_of (joined (plans_folder words.detect.work) (plan_name_of key))) ≡ false
  pub above_layers : (id other name : List ℕ) → is_within (joined (layers_folder words.layers id) name)
      (layers_folder words.layers other) ≡ false

-- What `create` needs at its beginning. Whatever its three documents of the work folder then say, the files fit the
-- detection, a restoration, the first build's beginning and an export.
pub record FitsCreate (words : CreateWords) (shelves : List ShelfState) (files : Tree) : Type 0 where
  pub places : ArePlacesApart words
  pub run : IsTrue (is_fit_document (run_path words.store words.run) files)
  pub previous : IsTrue (is_fit_image words.store (Some (previous_name words)) files)
  pub written : IsTrue (can_write (analyzed_document words.detect.work) files)
  pub choice : (known : Target) (analyzed : List ℕ) → IsTrue
      (is_fit_preparation (target.Given known) words.detect (with_analyzed words.detect.work analyzed files))
  pub group : (analyzed : List ℕ) → IsTrue (can_write (group_document words.detect.work)
      (with_analyzed words.detect.work analyzed files))
  pub plan : (analyzed group : List ℕ) → IsTrue (can_write (plan_document words.detect.work)
      (with_group words.detect.work analyzed group files))
  pub restored : (analyzed group plan : List ℕ) → FitsRestore (restore_words words) shelves
      (with_plan words.detect.work analyzed group plan files)
  pub platform : (analyzed group plan : List ℕ)
      → IsTrue (is_fit_platform words.detect.platform (with_plan words.detect.work analyzed group plan files))
  pub first : (analyzed group plan : List ℕ) (key : Key) → IsTrue (is_key key)
      → FitsFirst words.detect.buildpacks words.detect.work words.layers key
      (with_plan words.detect.work analyzed group plan files)
  pub exported : (analyzed group plan : List ℕ) → FitsImage words.store words.layers words.image
      (with_plan words.detect.work analyzed group plan files)

-- what each child of a build has to leave: what later builds need, and the export
abbrev pub FitsLeft : CreateWords → Tree → Type 0
FitsLeft words files = FitsBuildpacks words.detect.buildpacks words.detect.work words.layers files
    × FitsImage words.store words.layers words.image files

-- What each command needs; `restore` lays what the caches give, so it needs something of them too.
abbrev pub NoMisuseBy : Asked → List ShelfState → Seen → Seen → Type 0
NoMisuseBy (Show options) shelves = NoMisuse (FitsShow options)
NoMisuseBy (Analyze options) shelves = NoMisuse (FitsAnalyze options)
NoMisuseBy (Rebase options) shelves = NoMisuse (FitsRebase options)
NoMisuseBy (Base options) shelves = NoMisuse (FitsBase options)
NoMisuseBy (Verify options) shelves = NoMisuse (FitsVerify options)
NoMisuseBy (Prune options) shelves = NoMisuse (FitsPrune options)
NoMisuseBy (Export options) shelves = NoMisuse (FitsExport options)
NoMisuseBy (Check options) shelves = NoMisuse (FitsCheck options)
NoMisuseBy (Launch options) shelves = NoMisuse (FitsLaunch options)
NoMisuseBy (Drill options) shelves = λ old new. new.misused ≡ old.misused
NoMisuseBy (Detect options) shelves = NoMisuse (FitsDetect options)
NoMisuseBy (Restore options) shelves = NoMisuse (FitsRestore options shelves)
NoMisuseBy (Build options) shelves = NoMisuseWhere (FitsBuild options) (FitsBuilt options)
NoMisuseBy (Create options) shelves = λ old new. IfSome old.files
    (λ files. FitsCreate options shelves files → (ran : List Run) → new.runs ≡ old.runs ++ ran
    → LeaveTold (FitsLeft options) ran → new.misused ≡ old.misused)
NoMisuseBy (Unpack options) shelves = NoMisuse (FitsUnpack options)
