-- What a shelf's turn does in a search for a tree, which private calls alone speak of.
use Rattle.std.specs.Prelude.{ℕ, Bool, true, false, ◌≡◌, ◌⊎◌, List, codes, Option, Some, None, Result, Ok, Err, IfErr}
use Rattle.std.specs.Prelude.{IfOk}
use Rattle.std.specs.List.{AllByRecursion}
use Rattle.std.specs.Option.{option_map}
use Rattle.cnb_world.specs.Calls.{RemovesSome}
use Rattle.cnb_world.specs.Path.{parent_of}
use Rattle.cnb_world.specs.Tree.{Tree, is_folder, item_at, without}
use Rattle.cnb_world.specs.declared.shelf.ShelfFault.{ShelfFault}
use Rattle.cnb_world.specs.declared.shelf.ShelfFault.TheVariants as shelf
use Rattle.cnb_world.specs.declared.values.Memory.{Memory}
use Rattle.steps.specs.Causes.{Cause, ended_by}
use Rattle.steps.specs.Counts.{FileCounts}
use Rattle.steps.specs.Outside.{Seen}
use Rattle.tree_canon.specs.declared.judging.Judged.{Judged}
use Rattle.tree_canon.specs.declared.judging.Judged.TheVariants as judged
use Rattle.tree_canon.specs.declared.node.Node.{Node}
use Rattle.tree_store.specs.Answers.{cause_of}
use Rattle.tree_store.specs.Around.{LeavesAround}
use Rattle.tree_store.specs.Held.{HoldsTree, LaysSome}
use Rattle.tree_store.specs.Overlay.{tree_laid}
use Rattle.tree_store.specs.Steps.{IsCauseWithin, lays_tree}
use Rattle.tree_store.specs.declared.fault.StoreFault.{StoreFault}
use Rattle.tree_store.specs.declared.fault.StoreFault.TheVariants as store
use Rattle.shelf_set.specs.Restoring.{IsChanged, LaysNothing, Tells}
use Rattle.shelf_set.specs.Searching.{Asks, Searches}
use Rattle.shelf_set.specs.Dropping.{Counted}
use Rattle.shelf_set.specs.ShelfState.{ShelfState}
use Rattle.shelf_set.specs.Turns.{Replaces, TakesTurn, is_failed}
use Rattle.shelf_set.specs.declared.ask.Checked.{Checked}
use Rattle.shelf_set.specs.declared.ask.Checked.TheVariants as checked
use Rattle.shelf_set.specs.declared.restoring.Found.{Found}
use Rattle.shelf_set.specs.declared.restoring.Found.TheVariants as found

-- files are told, a path's folder is there, and where it is said to be free, nothing is at the path
abbrev pub Fits : Bool → List ℕ → Option Tree → Type 0
Fits free root None = ⊥
Fits free root (Some files) = (is_folder (item_at files (parent_of root)) ≡ true)
    × (free ≡ true → item_at files root ≡ None)

-- the tree of a refused laying
abbrev pub IsRefused : List ℕ → StoreFault → Seen → Seen → Type 0
IsRefused root fault old new = (tree : Node) × lays_tree root (codes "/") tree old (Err fault) new

-- What ends a turn, by what the shelf was asked and gave.
abbrev pub EndsBy : List ℕ → Result (Option Judged) ShelfFault → Option (Result Found StoreFault) → Type 0
EndsBy root (Ok None) end = end ≡ None
EndsBy root (Ok (Some (judged.Damaged asked is bad))) end = end ≡ Some (Ok (found.Damaged asked is bad))
EndsBy root (Ok (Some (judged.Tree tree))) None = ⊥
EndsBy root (Ok (Some (judged.Tree tree))) (Some (Ok answer)) = (answer ≡ found.Laid) ⊎ IsChanged answer
EndsBy root (Ok (Some (judged.Tree tree))) (Some (Err fault)) = IsCauseWithin root (cause_of fault)
EndsBy root (Err shelf.Memory) end = end ≡ Some (Err store.Memory)
EndsBy root (Err shelf.Failed) None = Unit {0}
EndsBy root (Err shelf.Failed) (Some (Ok answer)) = ⊥
EndsBy root (Err shelf.Failed) (Some (Err fault)) = IsCauseWithin root (cause_of fault)

-- and what of the files, where they and the shelf are told
abbrev pub EndsTold : List ℕ → Option (Result Found StoreFault) → Result (Option Judged) ShelfFault → Seen → Seen
    → Type 0
EndsTold root None asked old new = LaysNothing old new
EndsTold root (Some (Err fault)) asked old new = IsRefused root fault old new
EndsTold root (Some (Ok answer)) (Ok (Some (judged.Tree tree))) old new =
    (answer ≡ found.Laid) × lays_tree root (codes "/") tree old (Ok tt) new
EndsTold root (Some (Ok answer)) (Ok (Some (judged.Damaged asked is bad))) old new = LaysNothing old new
EndsTold root (Some (Ok answer)) (Ok None) old new = LaysNothing old new
EndsTold root (Some (Ok answer)) (Err fault) old new = LaysNothing old new

-- the files by what a shelf gave, whatever it tells: where nothing was refused, a tree was laid, or nothing
abbrev pub JudgedFiles : List ℕ → Found → Option Judged → Option Tree → Option Tree → Type 0
JudgedFiles root answer None old new = new ≡ old
JudgedFiles root answer (Some (judged.Damaged asked is bad)) old new = new ≡ old
JudgedFiles root answer (Some (judged.Tree tree)) old new =
    answer ≡ found.Laid → new ≡ option_map (tree_laid root (codes "/") tree) old

abbrev pub EndsFiles : List ℕ → Option (Result Found StoreFault) → Result (Option Judged) ShelfFault → Option Tree
    → Option Tree → Type 0
EndsFiles root None asked old new = new ≡ old
EndsFiles root (Some (Err fault)) asked old new = Unit {0}
EndsFiles root (Some (Ok answer)) (Ok given) old new = JudgedFiles root answer given old new
EndsFiles root (Some (Ok answer)) (Err fault) old new = Unit {0}

abbrev pub end_of : Option (Result Found StoreFault) → Option Cause
end_of None = None
end_of (Some result) = ended_by cause_of result

pub record TurnEnds (free : Bool) (root : List ℕ) (asked : Result (Option Judged) ShelfFault) (before : ShelfState)
    (end : Option (Result Found StoreFault)) (old new : Seen) : Type 0 where
  pub around : LeavesAround root old new
  pub counts : FileCounts (end_of end) old new
  pub by : EndsBy root asked end
  pub told : Tells before → Fits free root old.files → EndsTold root end asked old new
  pub files : Fits free root old.files → EndsFiles root end asked old.files new.files

-- the shelf at a place is asked for a tree, which is laid at a path where it has it
pub record TakesAt (free : Bool) (digest root : List ℕ) (shelves : List ShelfState) (at : ℕ) (failed : Bool)
    (end : Option (Result Found StoreFault)) (left : List ShelfState) (old new : Seen) : Type 0 where
  pub asked : Result (Option Judged) ShelfFault
  pub before : ShelfState
  pub after : ShelfState
  pub replaced : Replaces shelves at before after left
  pub asks : Asks digest asked before after
  pub fails : failed ≡ is_failed asked
  pub ends : TurnEnds free root asked before end old new

-- what was asked of a shelf that has a tree, by whether it failed then
abbrev pub asked_as : Node → Bool → Result (Option Judged) ShelfFault
asked_as tree true = Err shelf.Failed
asked_as tree false = Ok (Some (judged.Tree tree))

-- the tree that was laid is one of the digest
abbrev pub LaidFiles : List ℕ → List ℕ → Option (Result Found StoreFault) → Option Tree → Option Tree → Type 0
LaidFiles digest root None old new = Unit {0}
LaidFiles digest root (Some (Err fault)) old new = Unit {0}
LaidFiles digest root (Some (Ok found.Laid)) old new = LaysSome root digest old new
LaidFiles digest root (Some (Ok found.None)) old new = Unit {0}
LaidFiles digest root (Some (Ok (found.Damaged asked is bad))) old new = Unit {0}

-- a tree that was judged is laid, or one whose bytes came in their place
pub record LaysChecked (digest root : List ℕ) (shelves : List ShelfState) (at : ℕ) (failed : Bool)
    (end : Option (Result Found StoreFault)) (left : List ShelfState) (old new : Seen) : Type 0 where
  pub before : ShelfState
  pub after : ShelfState
  pub replaced : Replaces shelves at before after left
  pub held : after.held ≡ before.held
  pub rows : after.rows ≡ before.rows
  pub faults : Counted failed before.faults after.faults
  pub around : LeavesAround root old new
  pub counts : FileCounts (end_of end) old new
  pub by : (tree : Node) → EndsBy root (asked_as tree failed) end
  pub told : (tree : Node) → HoldsTree before digest tree → Fits true root old.files
      → EndsTold root end (asked_as tree failed) old new
  pub laid : LaidFiles digest root end old.files new.files
  pub cleared : end ≡ None → Fits true root old.files → new.files ≡ old.files

-- the same, with the shelf settled
pub record TakesTree (free : Bool) (digest root : List ℕ) (shelves : List ShelfState) (numbers : List ℕ) (at : ℕ)
    (end : Option (Result Found StoreFault)) (left : List ShelfState) (later : List ℕ) (next : ℕ)
    (old new : Seen) : Type 0 where
  pub asked : Result (Option Judged) ShelfFault
  pub turn : TakesTurn shelves numbers at (λ before after. Asks digest asked before after
      × TurnEnds free root asked before end old new) (is_failed asked) left later next
  pub by : EndsBy root asked end

-- turns passed, and nothing was laid
pub record Passes (free : Bool) (root : List ℕ) (shelves : List ShelfState) (old now : Seen) : Type 0 where
  pub around : LeavesAround root old now
  pub counts : FileCounts None old now
  pub told : AllByRecursion Tells shelves → Fits free root old.files → LaysNothing old now
  pub files : Fits free root old.files → now.files ≡ old.files

-- what a search answers, by what was found
abbrev pub AnswersBy : List ℕ → Result Found StoreFault → Result (Option Judged) Memory → Type 0
AnswersBy root (Err fault) found = IsCauseWithin root (cause_of fault)
AnswersBy root (Ok answer) (Ok None) = answer ≡ found.None
AnswersBy root (Ok answer) (Ok (Some (judged.Damaged asked is bad))) = answer ≡ found.Damaged asked is bad
AnswersBy root (Ok answer) (Ok (Some (judged.Tree tree))) = (answer ≡ found.Laid) ⊎ IsChanged answer
AnswersBy root (Ok answer) (Err memory) = ⊥

abbrev pub AnswersTold : List ℕ → Result Found StoreFault → Result (Option Judged) Memory → Seen → Seen → Type 0
AnswersTold root (Err fault) found old new = IsRefused root fault old new
AnswersTold root (Ok answer) (Ok (Some (judged.Tree tree))) old new =
    (answer ≡ found.Laid) × lays_tree root (codes "/") tree old (Ok tt) new
AnswersTold root (Ok answer) (Ok (Some (judged.Damaged asked is bad))) old new = LaysNothing old new
AnswersTold root (Ok answer) (Ok None) old new = LaysNothing old new
AnswersTold root (Ok answer) (Err memory) old new = LaysNothing old new

abbrev pub AnswersFiles : List ℕ → Result Found StoreFault → Result (Option Judged) Memory → Option Tree → Option Tree
    → Type 0
AnswersFiles root (Err fault) found old new = Unit {0}
AnswersFiles root (Ok answer) (Ok given) old new = JudgedFiles root answer given old new
AnswersFiles root (Ok answer) (Err memory) old new = Unit {0}

-- a search, and what it answers and leaves
pub record SearchesTree (free : Bool) (digest root : List ℕ) (shelves : List ShelfState) (places : List ℕ)
    (answer : Result Found StoreFault) (left : List ShelfState) (numbers : List ℕ) (standing : ℕ)
    (old new : Seen) : Type 0 where
  pub found : Result (Option Judged) Memory
  pub searches : Searches shelves places digest found left numbers standing
  pub around : LeavesAround root old new
  pub counts : FileCounts (ended_by cause_of answer) old new
  pub by : AnswersBy root answer found
  pub told : AllByRecursion Tells shelves → Fits free root old.files → AnswersTold root answer found old new
  pub files : Fits free root old.files → AnswersFiles root answer found old.files new.files

-- a tree is written whole
abbrev pub WritesWhole : List ℕ → Node → Seen → Result Found StoreFault → Seen → Type 0
WritesWhole root tree old (Ok answer) new = (answer ≡ found.Laid) × lays_tree root (codes "/") tree old (Ok tt) new
WritesWhole root tree old (Err fault) new = lays_tree root (codes "/") tree old (Err fault) new

-- a tree that was judged, or that its bytes are damaged
abbrev pub tree_of : Judged → Result Node Found
tree_of (judged.Tree tree) = Ok tree
tree_of (judged.Damaged asked is bad) = Err (found.Damaged asked is bad)

-- the same of bytes of which nothing is kept
abbrev pub damage_of : Checked → Option Found
damage_of checked.Tree = None
damage_of (checked.Damaged asked is bad) = Some (found.Damaged asked is bad)

-- what a refused laying comes to
abbrev pub refused_as : StoreFault → Result Found StoreFault
refused_as (store.File path) = Err (store.File path)
refused_as (store.Damaged asked is bad) = Ok (found.Damaged asked is bad)
refused_as (store.OddFile path) = Err store.Memory
refused_as (store.Limit kind) = Err store.Memory
refused_as (store.NoTree digest) = Err store.Memory
refused_as (store.Clash digest) = Err store.Memory
refused_as store.Memory = Err store.Memory

-- what is left of files where what is at a path is removed, or a part of it
abbrev pub LeavesRemoved : List ℕ → Option (Result Found StoreFault) → Option Tree → Option Tree → Type 0
LeavesRemoved root None old new = new ≡ option_map (without root) old
LeavesRemoved root (Some end) old new = RemovesSome old new root

abbrev pub ClearsBy : List ℕ → Option (Result Found StoreFault) → Type 0
ClearsBy root None = Unit {0}
ClearsBy root (Some (Ok answer)) = ⊥
ClearsBy root (Some (Err fault)) = IsCauseWithin root (cause_of fault)

pub record Clears (root : List ℕ) (end : Option (Result Found StoreFault)) (old new : Seen) : Type 0 where
  pub around : LeavesAround root old new
  pub counts : FileCounts (end_of end) old new
  pub by : ClearsBy root end
  pub files : LeavesRemoved root end old.files new.files
  pub same : new.misused ≡ old.misused

-- whether nothing is at a path
abbrev pub FindsFree : List ℕ → Bool → Option Tree → Type 0
FindsFree path free None = Unit {0}
FindsFree path free (Some files) = free ≡ true → item_at files path ≡ None

pub record LooksAt (path : List ℕ) (old : Seen) (result : Result Bool StoreFault) (new : Seen) : Type 0 where
  pub files : new.files ≡ old.files
  pub runs : new.runs ≡ old.runs
  pub misused : new.misused ≡ old.misused
  pub counts : FileCounts (ended_by cause_of result) old new
  pub cause : IfErr result (λ fault. IsCauseWithin path (cause_of fault))
  pub free : IfOk result (λ free. FindsFree path free old.files)
