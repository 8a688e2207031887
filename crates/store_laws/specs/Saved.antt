-- What a store has once the document of an image that was exported is saved.
use Rattle.std.specs.Prelude.{ℕ, ◌≡◌, ◌≤◌, false, true, List, length, Option, Some, Result, Ok, IfErr, IsTrue}
use Rattle.std.specs.List.{AllByRecursion}
use Rattle.cnb_create.specs.Creates.{export_frame}
use Rattle.cnb_create.specs.Headline.{ComesToImage}
use Rattle.cnb_create.specs.Surroundings.{Surroundings}
use Rattle.cnb_export.specs.Command.{exports_command}
use Rattle.cnb_export.specs.Given.{frame_of}
use Rattle.cnb_launch.specs.Unpacking.{unpacks}
use Rattle.cnb_launch.specs.declared.fault.LaunchFault.{LaunchFault}
use Rattle.cnb_words.specs.declared.create.CreateWords.{CreateWords}
use Rattle.cnb_words.specs.declared.export.ExportWords.{ExportWords}
use Rattle.cnb_world.specs.Path.{is_path}
use Rattle.cnb_world.specs.Tree.{Tree, bytes_of, item_at}
use Rattle.cnb_world.specs.declared.env.Variable.{Variable}
use Rattle.image_docs.specs.Image.{image_in}
use Rattle.image_docs.specs.Row.{is_run}
use Rattle.image_docs.specs.declared.image.ImageDoc.{ImageDoc}
use Rattle.image_docs.specs.declared.row.Row.{Row}
use Rattle.image_files.specs.Paths.{image_path}
use Rattle.shelf_set.specs.Caches.{WorldAndCaches}
use Rattle.steps.specs.Causes.{Decided}
use Rattle.steps.specs.Outside.{Seen}
use Rattle.store_prune.specs.Faults.{verify_cause}
use Rattle.store_prune.specs.Verifies.{trees_of_rows}
use Rattle.store_prune.specs.Verifying.{IsWhole, VerifiesExactly}
use Rattle.store_prune.specs.declared.fault.VerifyFault.{VerifyFault}
use Rattle.tree_store.specs.Writing.{AreApart, trees_of}
use Rattle.unpack_laws.specs.Verified.{lacks_tree}
use Rattle.store_laws.specs.Sound.{HasFile, IsSound}
use Rattle.store_laws.specs.Stored.{HaveTexts, HoldsRows}

-- A file was there before under the digest of each row of the run image.
abbrev pub HasRunRows : List ℕ → Tree → List Row → Type 0
HasRunRows store before rows = AllByRecursion (λ row. is_run row ≡ true → HasFile store before row.digest) rows

-- An image's document has no more bytes than a document that is read may have.
abbrev pub IsWithinLimit : List ℕ → List ℕ → Tree → Type 0
IsWithinLimit store name files = length (bytes_of (item_at files (image_path store name))) ≤ 1048576

-- `verify` of an image is refused for no more than a failed call or want of memory.
abbrev pub PassesVerify : List ℕ → List ℕ → Tree → Type 0
PassesVerify store name files = (result : Result ℕ VerifyFault) → VerifiesExactly store name (Some files) result
    → IfErr result (λ fault. verify_cause fault ≡ Decided → ⊥)

-- `unpack` of an image, under a root apart from the folder of the trees, is refused for no tree that is missing or
-- damaged.
abbrev pub PassesUnpack : List ℕ → List ℕ → Tree → Type 0
PassesUnpack store name files = (root : List ℕ) → IsTrue (is_path root) → AreApart root (trees_of store)
    → (old new : Seen) (result : Result (Unit {0}) LaunchFault) → old.files ≡ Some files
    → unpacks store name root old result new → IfErr result (λ fault. lacks_tree fault ≡ false)

-- An image is whole: so `verify` says yes, and `unpack` finds its trees.
pub record IsUsable (store name : List ℕ) (files : Tree) (count : ℕ) : Type 0 where
  pub whole : IsWhole store name files count
  pub verifies : PassesVerify store name files
  pub unpacks : PassesUnpack store name files

-- An image was saved under a name, whose document reads as it, and the store has its rows above the run image. Where
-- the store was sound and had the trees of the run image, and the document isn't too long to be read, the image is
-- whole.
pub record SavesImage (store name : List ℕ) (before : Tree) (new : Option Tree) : Type 0 where
  pub after : Tree
  pub told : new ≡ Some after
  pub image : ImageDoc
  pub reads : image_in (bytes_of (item_at after (image_path store name))) ≡ Ok image
  pub holds : HoldsRows store before after image.rows
  pub usable : IsSound store before → HasRunRows store before image.rows → IsWithinLimit store name after
      → IsUsable store name after (length (trees_of_rows image))

-- This is what the command `export` leaves when it is done, where the files are told, and the store's path and the
-- names in the folders whose trees are put are text;
abbrev pub ExportsSaved : Type 0
ExportsSaved = (words : ExportWords) (files : Tree) → HaveTexts (frame_of words) files
    → (old new : WorldAndCaches) (text : List ℕ) → old.world.files ≡ Some files
    → exports_command words old (Ok text) new
    → SavesImage words.store words.image files new.world.files

-- and what `create` leaves of the files that the builds left.
abbrev pub CreatesSaved : Type 0
CreatesSaved = (words : CreateWords) (files : Tree) → HaveTexts (export_frame words) files
    → (env : List Variable) (old new : Surroundings) (text : List ℕ)
    (made : ComesToImage words env old (Ok text) new)
    → made.built.built_at.world.files ≡ Some files → SavesImage words.store words.image files new.world.files
