-- What `restore` leaves, whatever its steps: what it is asked for, what comes of that, and what then stands where
-- (platform.md, "restorer").
use Rattle.std.specs.Prelude.{ℕ, false, not, ◌&&◌, ◌≡◌, List, [], ◌∷◌, codes, flat_map, fold, is_some, map, Option}
use Rattle.std.specs.Prelude.{Some, None, Ok, IfSome, if◌then◌else◌}
use Rattle.std.specs.FinMap.{get}
use Rattle.std.specs.List.{AllByRecursion, filter_map, list_any}
use Rattle.std.specs.Str.{bytes_eq}
use Rattle.cnb_world.specs.Path.{beside, joined, parent_of}
use Rattle.cnb_world.specs.Tree.{Tree, is_root, is_within}
use Rattle.cnb_world.specs.declared.world.Item.{Item}
use Rattle.cnb_world.specs.declared.world.Item.TheVariants.{Folder, File}
use Rattle.image_docs.specs.declared.image.ImageDoc.{ImageDoc}
use Rattle.image_docs.specs.declared.layer_row.LayerRow.{LayerRow}
use Rattle.image_docs.specs.declared.store_row.StoreRow.{StoreRow}
use Rattle.image_files.specs.Paths.{document_name}
use Rattle.layer_flags.specs.declared.restore.RestoreRow.{RestoreRow}
use Rattle.layer_flags.specs.declared.restore.RestoreRow.TheVariants as line
use Rattle.layer_paths.specs.Paths.{layers_folder}
use Rattle.run_docs.specs.declared.group.GroupRow.{GroupRow}
use Rattle.shelf_set.specs.Caches.{Caches, WorldAndCaches}
use Rattle.shelf_set.specs.Finding.{Finds, InCaches, Whole, Missing, Broken}
use Rattle.shelf_set.specs.Gathering.{Gathers}
use Rattle.shelf_set.specs.declared.gathering.Gathered.{Gathered}
use Rattle.steps.specs.Keeping.{folder_paths}
use Rattle.tree_canon.specs.declared.node.Node.{Node}
use Rattle.tree_store.specs.Overlay.{given_at, is_replaced, items_of, stands}
use Rattle.cnb_restore.specs.declared.restored.Restored.{Restored}
use Rattle.cnb_restore.specs.declared.sources.Sources.{Sources}
use Rattle.cnb_restore.specs.Analyzes.{previous_in}
use Rattle.cnb_restore.specs.Images.{kept_for, layers_of, store_of}
use Rattle.cnb_restore.specs.Layers.{ReadsAsLayer, ReadsAsStore}
use Rattle.cnb_restore.specs.Restored.{after_search, gathered_first, with_layer}
use Rattle.cnb_restore.specs.Rows.{layer_names, restored_part, row_of, rows_of, source_of}

-- ---- what is asked for

-- a layer that is to be restored: its metadata alone, or its contents too
pub data Wanted : Type 0 where
  Metadata : LayerRow → Wanted
  Contents : LayerRow → Wanted

-- by the row that it comes from, and its line of the table
abbrev pub wanted_by : Option LayerRow → RestoreRow → Option Wanted
wanted_by None part = None
wanted_by (Some row) line.Nothing = None
wanted_by (Some row) line.Meta = Some (Metadata row)
wanted_by (Some row) line.Both = Some (Contents row)

-- of a name, by the rows of a buildpack in the previous image and in the caches
abbrev pub wanted_layer : List LayerRow → List LayerRow → List ℕ → Option Wanted
wanted_layer app cache name = wanted_by (source_of (row_of name app) (row_of name cache))
    (restored_part (row_of name app) (row_of name cache))

-- the layers of a buildpack, by their names ascending
abbrev pub wanted_among : List LayerRow → List LayerRow → List Wanted
wanted_among app cache = filter_map (wanted_layer app cache) (layer_names app cache)

abbrev pub wanted_of : Sources → List ℕ → List Wanted
wanted_of sources id = wanted_among (rows_of id (layers_of sources.previous)) (rows_of id sources.rows)

-- the digests that the caches are searched for
abbrev pub digests_of : List Wanted → List (List ℕ)
digests_of [] = []
digests_of (Metadata row ∷ wanted) = digests_of wanted
digests_of (Contents row ∷ wanted) = row.digest ∷ digests_of wanted

-- what a search found and dropped
pub record CacheSearch : Type 0 where
  pub found : InCaches
  pub gone : List ℕ

-- caches are searched for digests, one after another
abbrev pub Searched : List (List ℕ) → Caches → List CacheSearch → Caches → Type 0
Searched [] old [] new = new ≡ old
Searched (digest ∷ digests) old (search ∷ searches) new = (mid : Caches)
    × Finds old.shelves old.standing digest search.found mid.shelves mid.standing search.gone
    × Searched digests mid searches new
Searched _ old _ new = ⊥

-- ---- what comes of it

-- a layer that is restored, with its contents or without
pub record Layer : Type 0 where
  pub row : LayerRow
  pub contents : Option Node

abbrev pub layer : LayerRow → Option Node → Layer
layer row contents = record { row = row; contents = contents }

-- nothing of a layer whose contents no cache holds; and damaged contents end a restoration
abbrev pub found_layer : LayerRow → InCaches → List Layer → List Layer
found_layer row Missing later = later
found_layer row (Broken asked is bad) later = []
found_layer row (Whole tree) later = layer row (Some tree) ∷ later

-- the layers that come of those that are wanted, by what the searches found
abbrev pub layers_found : List Wanted → List CacheSearch → List Layer
layers_found [] searches = []
layers_found (Metadata row ∷ wanted) searches = layer row None ∷ layers_found wanted searches
layers_found (Contents row ∷ wanted) [] = []
layers_found (Contents row ∷ wanted) (search ∷ searches) = found_layer row search.found (layers_found wanted searches)

-- what was found is not damaged
abbrev pub IsSound : InCaches → Type 0
IsSound Missing = Unit {0}
IsSound (Broken asked is bad) = ⊥
IsSound (Whole tree) = Unit {0}

-- a layer that is restored, and the bytes of its document
pub record Part : Type 0 where
  pub layer : Layer
  pub document : List ℕ

-- what is restored of a buildpack: its folder, the bytes of its `store.toml`, where it has one, what each search for
-- its layers found, and the layers in order
pub record Restoration : Type 0 where
  pub folder : List ℕ
  pub store : Option (List ℕ)
  pub searches : List CacheSearch
  pub parts : List Part

-- `store.toml` is there where the previous image keeps something for the buildpack, and reads as that
abbrev pub HasStore : Option StoreRow → Option (List ℕ) → Type 0
HasStore None None = Unit {0}
HasStore None (Some bytes) = ⊥
HasStore (Some row) None = ⊥
HasStore (Some row) (Some bytes) = ReadsAsStore row.meta bytes

-- this is restored of a buildpack, and the searches lead from caches to caches
pub record RestoresOne (layers : List ℕ) (sources : Sources) (id : List ℕ) (old : Caches) (one : Restoration)
    (new : Caches) : Type 0 where
  pub folder : one.folder ≡ layers_folder layers id
  pub store : HasStore (kept_for id (store_of sources.previous)) one.store
  pub searched : Searched (digests_of (wanted_of sources id)) old one.searches new
  pub sound : AllByRecursion (λ search. IsSound search.found) one.searches
  pub parts : map (λ part. part.layer) one.parts ≡ layers_found (wanted_of sources id) one.searches
  pub documents : AllByRecursion (λ part. ReadsAsLayer part.layer.row.meta part.document) one.parts

-- the same of the buildpacks of a group, in order
abbrev pub RestoresEach : List ℕ → Sources → List GroupRow → Caches → List Restoration → Caches → Type 0
RestoresEach layers sources [] old [] new = new ≡ old
RestoresEach layers sources (row ∷ group) old (one ∷ others) new = (mid : Caches)
    × RestoresOne layers sources row.key.id old one mid × RestoresEach layers sources group mid others new
RestoresEach layers sources _ old _ new = ⊥

-- ---- what is told of it

abbrev pub told_search : Restored → CacheSearch → Restored
told_search restored search = after_search search.gone restored

abbrev pub told_layer : Restored → Layer → Restored
told_layer restored layer = with_layer layer.row (is_some layer.contents) restored

-- what was dropped by the gathering of rows and by each search, and each layer that was restored
abbrev pub told_of : Gathered → List Restoration → Restored
told_of gathered all = fold told_layer
    (fold told_search (gathered_first gathered.unread gathered.gone) (flat_map (λ one. one.searches) all))
    (flat_map (λ one. map (λ part. part.layer) one.parts) all)

-- ---- what then stands at a path, by what stood there

-- a folder, and those above it; at `/` one stands anyway
abbrev pub with_folder : List ℕ → List ℕ → Option Item → Option Item
with_folder folder path old =
    if list_any (bytes_eq path) (folder_paths folder) && not (is_root path) then Some Folder else old

-- a document in its folder; nothing stands beside it, where it is written first
abbrev pub with_document : List ℕ → List ℕ → List ℕ → Option Item → Option Item
with_document document bytes path old =
    if bytes_eq path document then Some (File false bytes) else
    if bytes_eq path (beside document) then None else with_folder (parent_of document) path old

-- the items of a tree, where there is one, over what stood there
abbrev pub with_contents : List ℕ → Option Node → List ℕ → Option Item → Option Item
with_contents root None path old = old
with_contents root (Some tree) path old =
    stands (given_at (items_of tree root) path) (is_replaced (items_of tree root) path) (with_folder root path old)

-- a layer's contents, and over them its document
abbrev pub with_part : List ℕ → Part → List ℕ → Option Item → Option Item
with_part folder part path old = with_document (joined folder (document_name part.layer.row.layer)) part.document path
    (with_contents (joined folder part.layer.row.layer) part.layer.contents path old)

abbrev pub with_store : List ℕ → Option (List ℕ) → List ℕ → Option Item → Option Item
with_store folder None path old = old
with_store folder (Some bytes) path old = with_document (joined folder (codes "store.toml")) bytes path old

-- layers one after another
abbrev pub with_parts : List ℕ → List Part → List ℕ → Option Item → Option Item
with_parts folder parts path old = fold (λ found part. with_part folder part path found) old parts

-- at a buildpack's folder and below it stands what was restored, and nothing that stood there; above it stand folders,
-- and all else as before
abbrev pub with_buildpack : Restoration → List ℕ → Option Item → Option Item
with_buildpack one path old =
    if is_within one.folder path
    then with_parts one.folder one.parts path (with_store one.folder one.store path (with_folder one.folder path None))
    else with_folder one.folder path old

-- buildpacks one after another
abbrev pub with_buildpacks : List Restoration → List ℕ → Option Item → Option Item
with_buildpacks all path old = fold (λ found one. with_buildpack one path found) old all

-- the files now, path by path, by what stood there; or they are not told
abbrev pub AreLeft : (List ℕ → Option Item → Option Item) → Option Tree → Option Tree → Type 0
AreLeft found None new = new ≡ None
AreLeft found (Some files) new = (left : Tree) × (new ≡ Some left)
    × ((path : List ℕ) → get left path ≡ found path (get files path))

-- ---- the whole

-- The previous image is read, the rows of the caches are gathered, what these say of the buildpacks is restored and
-- told, and the files are as they were but for that.
pub record LeavesRestored (store : List ℕ) (name : Option (List ℕ)) (group : List GroupRow) (layers : List ℕ)
    (old : WorldAndCaches) (restored : Restored) (new : WorldAndCaches) : Type 0 where
  pub previous : Option ImageDoc
  pub read : IfSome old.world.files (λ files. previous_in store name files ≡ Ok previous)
  pub gathered : Gathered
  pub between : Caches
  pub gathers : Gathers old.caches.shelves old.caches.standing gathered between.shelves between.standing
  pub all : List Restoration
  pub each : RestoresEach layers (record { previous = previous; rows = gathered.rows }) group between all new.caches
  pub told : restored ≡ told_of gathered all
  pub files : AreLeft (with_buildpacks all) old.world.files new.world.files
