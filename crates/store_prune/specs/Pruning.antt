-- What a prune removes, by the files at one moment, and what it leaves.
use Rattle.std.specs.Prelude.{ℕ, ◌≡◌, ◌++◌, ◌↔◌, Bool, true, false, List, [], ◌∷◌, map, is_some, Option, Some, None}
use Rattle.std.specs.Prelude.{Result, Ok, Err, IfOk, IfSome, IsTrue, if◌then◌else◌}
use Rattle.std.specs.List.{list_any}
use Rattle.std.specs.Option.{option_map}
use Rattle.cnb_toml.specs.Form.{TableForm}
use Rattle.cnb_toml.specs.Names.{is_image_name}
use Rattle.cnb_world.specs.Memory.{all_without}
use Rattle.cnb_world.specs.Path.{joined}
use Rattle.cnb_world.specs.Tree.{Tree, is_file, is_within, item_at}
use Rattle.doc_files.specs.Reading.{names_at}
use Rattle.image_docs.specs.Image.{image_table_in}
use Rattle.image_docs.specs.RunImage.{table_in}
use Rattle.image_files.specs.Images.{image_at}
use Rattle.image_files.specs.Paths.{images_folder, runs_folder}
use Rattle.steps.specs.Causes.{WhereDecided}
use Rattle.steps.specs.Keeping.{standing}
use Rattle.steps.specs.Results.{and_then, with_fault}
use Rattle.tree_store.specs.Store.{tree_path}
use Rattle.tree_store.specs.Writing.{trees_of}
use Rattle.store_prune.specs.Digests.{is_among, tree_digest}
use Rattle.store_prune.specs.Faults.{cause_of, of_read_fault}
use Rattle.store_prune.specs.Named.{digests_of_image, digests_of_run, is_document_name, names_of_document}
use Rattle.store_prune.specs.Report.{pruned_text}
use Rattle.store_prune.specs.Surveys.{pruned_of}
use Rattle.store_prune.specs.Trees.{with_tree}
use Rattle.store_prune.specs.Verifying.{IsWhole}
use Rattle.store_prune.specs.declared.fault.PruneFault.{PruneFault}
use Rattle.store_prune.specs.declared.surveying.Pruned.{Pruned}

-- the names in a folder; none where nothing stands there
abbrev pub listed_where : List ℕ → Tree → Bool → Result (List (List ℕ)) PruneFault
listed_where folder files true = with_fault of_read_fault (names_at files folder)
listed_where folder files false = Ok []

abbrev pub listed_in : List ℕ → Tree → Result (List (List ℕ)) PruneFault
listed_in folder files = listed_where folder files (is_some (item_at files folder))

-- one after another: the first refusal ends them
abbrev pub each_in : {A X : Type 0} → (X → A → Result A PruneFault) → List X → A → Result A PruneFault
each_in step [] so_far = Ok so_far
each_in step (x ∷ xs) so_far = and_then (step x so_far) (each_in step xs)

module _ {A : Type 0} (form : TableForm A) (digests : A → List (List ℕ)) where
  abbrev pub found_in : List ℕ → Tree → List (List ℕ) → Bool → Result (List (List ℕ)) PruneFault
  found_in path files named true = and_then (names_of_document form digests path files) (λ more. Ok (named ++ more))
  found_in path files named false = Ok named

  -- what a name in a folder of documents gives
  abbrev pub name_in : List ℕ → Tree → List ℕ → List (List ℕ) → Result (List (List ℕ)) PruneFault
  name_in folder files name named =
      if is_document_name name then found_in (joined folder name) files named
      (is_file (item_at files (joined folder name))) else Ok named

  -- what the documents of a folder name, by file name ascending: the regular files with such names
  abbrev pub folder_in : List ℕ → Tree → List (List ℕ) → Result (List (List ℕ)) PruneFault
  folder_in folder files named = and_then (listed_in folder files) (λ names. each_in (name_in folder files) names named)

-- what the documents of a store name; of refused ones the first decides
abbrev pub named_in : List ℕ → Tree → Result (List (List ℕ)) PruneFault
named_in store files =
    and_then (folder_in image_table_in digests_of_image (images_folder store) files [])
    (λ named. folder_in table_in digests_of_run (runs_folder store) files named)

-- a digest more, if its tree's file is a regular file
abbrev pub digest_at : List ℕ → Tree → Option (List ℕ) → List (List ℕ) → Result (List (List ℕ)) PruneFault
digest_at store files None trees = Ok trees
digest_at store files (Some digest) trees = Ok
    (with_tree trees digest (is_file (item_at files (tree_path store digest))))

-- the digests of the tree files of a store, ascending
abbrev pub trees_in : List ℕ → Tree → Result (List (List ℕ)) PruneFault
trees_in store files = and_then (listed_in (trees_of store) files)
    (λ names. each_in (λ name trees. digest_at store files (tree_digest name) trees) names [])

-- what a prune removes
abbrev pub pruned_in : List ℕ → Tree → Result Pruned PruneFault
pruned_in store files = and_then (named_in store files)
    (λ named. and_then (trees_in store files) (λ trees. Ok (pruned_of named trees)))

-- the files of the trees that are removed
abbrev pub removed_files : List ℕ → Pruned → List (List ℕ)
removed_files store pruned = map (tree_path store) pruned.removed

-- the files without exactly those of the trees that aren't named, where all went well; after a refused document as
-- before
abbrev pub PrunesUnnamed : List ℕ → Option Tree → Result Pruned PruneFault → Option Tree → Type 0
PrunesUnnamed store old (Ok pruned) new = IfSome old (λ files. pruned_in store files ≡ Ok pruned)
    × (new ≡ option_map (all_without (removed_files store pruned)) old)
PrunesUnnamed store old (Err fault) new = WhereDecided (cause_of fault) (new ≡ old)

-- the same of the command, which prints what it removed and how many trees are left
abbrev pub PrunesPrinted : List ℕ → Option Tree → Result (List ℕ) PruneFault → Option Tree → Type 0
PrunesPrinted store old (Ok text) new = (pruned : Pruned) × (text ≡ pruned_text pruned)
    × PrunesUnnamed store old (Ok pruned) new
PrunesPrinted store old (Err fault) new = PrunesUnnamed store old (Err fault) new

-- what is neither at these paths nor below them is as before
abbrev pub KeepsOthers : List (List ℕ) → Option Tree → Option Tree → Type 0
KeepsOthers paths old new = (path : List ℕ) → list_any (λ removed. is_within removed path) paths ≡ false
    → standing new path ≡ standing old path

abbrev pub KeepsWhere : List ℕ → Result Pruned PruneFault → Option Tree → Option Tree → Type 0
KeepsWhere store (Ok pruned) old new = KeepsOthers (removed_files store pruned) old new
KeepsWhere store (Err fault) old new = new ≡ old

-- whatever is answered: all but the files of trees that aren't named is as before, and all of them where a document is
-- refused
abbrev pub KeepsNamed : List ℕ → Option Tree → Option Tree → Type 0
KeepsNamed store old new = IfSome old (λ files. KeepsWhere store (pruned_in store files) old new)

-- the file of each tree that a document names is as before
abbrev pub StandNamed : List ℕ → List (List ℕ) → Option Tree → Option Tree → Type 0
StandNamed store named old new = (digest : List ℕ) → IsTrue (is_among named digest)
    → standing new (tree_path store digest) ≡ standing old (tree_path store digest)

-- whatever is answered: the file of each tree that a document names is as before
abbrev pub KeepsNamedTrees : List ℕ → Option Tree → Option Tree → Type 0
KeepsNamedTrees store old new = IfSome old (λ files. IfOk (named_in store files)
    (λ named. StandNamed store named old new))

-- an image's document, and the file of each tree that it names, are as before; so `verify` says yes where it did
pub record KeepsImage (store name : List ℕ) (old : Tree) (new : Option Tree) : Type 0 where
  pub document : option_map (image_at store name) new ≡ Some (image_at store name old)
  pub trees : IfOk (image_at store name old) (λ image. StandNamed store (digests_of_image image) (Some old) new)
  pub whole : (count : ℕ) → IfSome new (λ files. IsWhole store name files count) ↔ IsWhole store name old count

-- whatever is answered: each image is as before, and so are its trees
abbrev pub KeepsImages : List ℕ → Option Tree → Option Tree → Type 0
KeepsImages store old new =
    IfSome old (λ files. (name : List ℕ) → IsTrue (is_image_name name) → KeepsImage store name files new)
