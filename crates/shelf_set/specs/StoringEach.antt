-- Storing trees on several shelves at once, which private calls alone speak of.
use Rattle.std.specs.Prelude.{ℕ, Bool, true, false, ◌≡◌, ◌⊎◌, List, [], ◌∷◌, length, map, take, Result, Ok, Err}
use Rattle.std.specs.Option.{option_map}
use Rattle.steps.specs.Outside.{Seen}
use Rattle.steps.specs.Steps.{reads}
use Rattle.tree_canon.specs.declared.node.Node.{Node}
use Rattle.tree_store.specs.Answers.{cause_of}
use Rattle.tree_store.specs.declared.fault.StoreFault.{StoreFault}
use Rattle.image_docs.specs.declared.layer_row.LayerRow.{LayerRow}
use Rattle.shelf_set.specs.ShelfState.{ShelfState}
use Rattle.shelf_set.specs.Dropping.{Counted}
use Rattle.shelf_set.specs.Storing.{with_trees, HasSome, HasAll, HasEither, TreeBytes}
use Rattle.shelf_set.specs.Caching.{AtOne, digest_of_row, digest_of_tree, reads_trees, spelled, trees_under}

-- no shelf has failed so far
abbrev pub HasNotFailed : Bool → Type 0
HasNotFailed failed = failed ≡ false

-- Of the first shelves of a list this holds, by whether each has failed, before and after. Those behind them stay.
abbrev pub EachBy : (Bool → ShelfState → ShelfState → Type 0) → List Bool → List ShelfState → List ShelfState → Type 0
EachBy Has [] old new = new ≡ old
EachBy Has (fails ∷ failed) (s ∷ old) (t ∷ new) = Has fails s t × EachBy Has failed old new
EachBy Has _ _ _ = ⊥

-- ---- one shelf

-- a shelf that failed has some of the trees so far, and any other has all; each has its old rows
abbrev pub HasSoFar : Bool → List TreeBytes → ShelfState → ShelfState → Type 0
HasSoFar true trees before now = HasSome trees before now
HasSoFar false trees before now = (now.held ≡ option_map (with_trees trees) before.held) × (now.rows ≡ before.rows)

abbrev pub Holds : List TreeBytes → Bool → ShelfState → ShelfState → Type 0
Holds trees fails before now = HasSoFar fails trees before now × Counted fails before.faults now.faults

-- each has some of them
abbrev pub HoldsSome : List TreeBytes → Bool → ShelfState → ShelfState → Type 0
HoldsSome trees fails before now = HasSome trees before now × Counted fails before.faults now.faults

-- a shelf that failed has some of the trees, and any other has all, and the rows
abbrev pub Stored : List TreeBytes → List ℕ → Bool → ShelfState → ShelfState → Type 0
Stored trees rows fails before now = HasEither fails trees rows before now × Counted fails before.faults now.faults

-- each has some of the trees, or all and the rows
abbrev pub MaybeStored : List TreeBytes → List ℕ → Bool → ShelfState → ShelfState → Type 0
MaybeStored trees rows fails before now = (HasSome trees before now ⊎ HasAll trees rows before now)
    × Counted fails before.faults now.faults

-- ---- all shelves

-- so many of the folders were read and put on the shelves
pub record Putting (rows : List LayerRow) (folders : List (List ℕ)) (count : ℕ) (before failed : List Bool)
    (old now : List ShelfState) (start here : Seen) : Type 0 where
  pub trees : List Node
  pub size : length trees ≡ count
  pub reads : reads cause_of (AtOne folders) (λ files. true)
      (trees_under (take count (map digest_of_row rows)) (take count folders)) start (Ok trees) here
  pub named : map digest_of_tree trees ≡ take count (map digest_of_row rows)
  pub each : EachBy (Holds (map spelled trees)) failed old now
  pub paired : length failed ≡ length before

-- what was read, by the answer: all trees, or a refusal
abbrev pub ReadsAll : Result Unit StoreFault → Result (List Node) StoreFault → List LayerRow → List Node → Type 0
ReadsAll (Ok done) read rows trees = (read ≡ Ok trees) × (map digest_of_row rows ≡ map digest_of_tree trees)
ReadsAll (Err fault) read rows trees = read ≡ Err fault

-- what the shelves have by the answer
abbrev pub EachHolds : Result Unit StoreFault → List TreeBytes → List Bool → List ShelfState → List ShelfState → Type 0
EachHolds (Ok done) trees failed old new = EachBy (Holds trees) failed old new
EachHolds (Err fault) trees failed old new = EachBy (HoldsSome trees) failed old new

-- the folders are read and put on the shelves, until one is refused
pub record PutsFolders (rows : List LayerRow) (folders : List (List ℕ)) (result : Result Unit StoreFault)
    (before failed : List Bool) (old new : List ShelfState) (start end : Seen) : Type 0 where
  pub read : Result (List Node) StoreFault
  pub trees : List Node
  pub reads : reads_trees rows folders start read end
  pub answer : ReadsAll result read rows trees
  pub named : map digest_of_tree trees ≡ take (length trees) (map digest_of_row rows)
  pub each : EachHolds result (map spelled trees) failed old new
  pub paired : length failed ≡ length before

-- the same where the rows are set
abbrev pub EachStored : Result Unit StoreFault → List TreeBytes → List ℕ → List Bool → List ShelfState
    → List ShelfState → Type 0
EachStored (Ok done) trees document failed old new = EachBy (Stored trees document) failed old new
EachStored (Err fault) trees document failed old new = EachBy (MaybeStored trees document) failed old new

-- the same, and then the rows are set
pub record PutsAll (rows : List LayerRow) (folders : List (List ℕ)) (document : List ℕ)
    (result : Result Unit StoreFault)
    (before failed : List Bool) (old new : List ShelfState) (start end : Seen) : Type 0 where
  pub read : Result (List Node) StoreFault
  pub trees : List Node
  pub reads : reads_trees rows folders start read end
  pub answer : ReadsAll result read rows trees
  pub named : map digest_of_tree trees ≡ take (length trees) (map digest_of_row rows)
  pub each : EachStored result (map spelled trees) document failed old new
  pub paired : length failed ≡ length before
