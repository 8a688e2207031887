-- What a store has of an image that was exported.
use Rattle.std.specs.Prelude.{ℕ, ◌≡◌, ◌⊎◌, Bool, false, List, Option, Some, Ok, IsTrue}
use Rattle.std.specs.List.{AllByRecursion, AllZip}
use Rattle.std.specs.Str.{is_utf8}
use Rattle.cnb_export.specs.Exports.{exports}
use Rattle.cnb_export.specs.declared.exported.Exported.{Exported}
use Rattle.cnb_export.specs.declared.exported.ExportedRow.{ExportedRow}
use Rattle.cnb_layers.specs.declared.frame.ExportFrame.{ExportFrame}
use Rattle.cnb_world.specs.Tree.{Tree}
use Rattle.image_docs.specs.Row.{is_run}
use Rattle.image_docs.specs.declared.analyzed.Analyzed.{Analyzed}
use Rattle.image_docs.specs.declared.layer_row.LayerRow.{LayerRow}
use Rattle.image_docs.specs.declared.row.Role.TheVariants.{Layer}
use Rattle.image_docs.specs.declared.row.Row.{Row}
use Rattle.run_docs.specs.declared.group.GroupRow.{GroupRow}
use Rattle.shelf_set.specs.Caches.{WorldAndCaches}
use Rattle.store_prune.specs.Verifying.{HasTreeFile}
use Rattle.store_laws.specs.Texts.{AreTexts}
use Rattle.store_laws.specs.Sound.{Grows, HasFile, IsSound, Stays}

-- A layer was taken over from an earlier image: the file of its tree was there before, and is as it was.
abbrev pub IsTakenOver : List ℕ → Tree → Tree → Row → Type 0
IsTakenOver store before after row = (row.role ≡ Layer) × HasFile store before row.digest
    × Stays store before after row.digest

-- a row's file spells a tree of its digest, unless it is a layer that was taken over
abbrev pub HasRow : List ℕ → Tree → Tree → Row → Type 0
HasRow store before after row = HasTreeFile store after row.digest ⊎ IsTakenOver store before after row

-- this holds of each row that isn't of the run image
abbrev pub AboveRun : (Row → Type 0) → List Row → Type 0
AboveRun P rows = AllByRecursion (λ row. is_run row ≡ false → P row) rows

-- Files that were these and are now those: the store has each row above the run image, and what else is in it was there
-- or spells trees. So where it was sound, it is, and has a tree under the digest of each of those rows.
pub record HoldsRows (store : List ℕ) (before after : Tree) (rows : List Row) : Type 0 where
  pub grows : Grows store before after
  pub above : AboveRun (HasRow store before after) rows
  pub sound : IsSound store before → IsSound store after
  pub trees : IsSound store before → AboveRun (λ row. HasTreeFile store after row.digest) rows

-- a layer that is told as added has a file that spells its tree
abbrev pub IsAdded : List ℕ → Tree → ExportedRow → LayerRow → Type 0
IsAdded store after told layer = told.reused ≡ false → HasTreeFile store after layer.digest

-- The path of the store is text, and so are the names in the folders whose trees are put.
pub record HaveTexts (frame : ExportFrame) (files : Tree) : Type 0 where
  pub store : IsTrue (is_utf8 frame.store)
  pub layers : AreTexts frame.layers files
  pub app : AreTexts frame.app files
  pub launcher : AreTexts frame.launcher files

-- Where the files are told, and these are text, this is what the export of an image leaves when it is done.
pub record StoresImage (store : List ℕ) (before : Tree) (new : Option Tree) (exported : Exported) : Type 0 where
  pub after : Tree
  pub told : new ≡ Some after
  pub holds : HoldsRows store before after exported.image.rows
  pub added : AllZip (IsAdded store after) exported.rows exported.image.layers

abbrev pub ExportsStored : Type 0
ExportsStored = (readable : Bool) (frame : ExportFrame) (group : List GroupRow) (analyzed : Analyzed)
    (files : Tree) → HaveTexts frame files
    → (old new : WorldAndCaches) (exported : Exported) → old.world.files ≡ Some files
    → exports readable frame group analyzed old (Ok exported) new
    → StoresImage frame.store files new.world.files exported
