-- Giving the tree of a folder to a target, which private calls alone speak of.
use Rattle.std.specs.Prelude.{ℕ, ◌≡◌, ◌⊎◌, Bool, true, false, List, [], Result, Ok, Err, OnOk}
use Rattle.sha2.specs.Sha256.{sha256}
use Rattle.steps.specs.Outside.{Seen}
use Rattle.tree_canon.specs.Spelling.{spelling_of}
use Rattle.tree_canon.specs.declared.node.Node.{Node}
use Rattle.tree_store.specs.Answers.{is_odd_file}
use Rattle.tree_store.specs.Caching.{HasPut, MayHavePut, is_read, reads_under}
use Rattle.tree_store.specs.Reading.{tree_in}
use Rattle.tree_store.specs.Receiving.{GivesEach}
use Rattle.tree_store.specs.Shelves.{OnEachSeen}
use Rattle.tree_store.specs.Target.{AsTold, Receiver, shelf_of}
use Rattle.tree_store.specs.Writing.{Adds, IsTreeOf, LeavesNew, Refuses, WriterState}
use Rattle.tree_store.specs.declared.fault.StoreFault.{StoreFault}
use Rattle.tree_store.specs.declared.fault.StoreFault.TheVariants.{Memory as NoMemory}
use Rattle.tree_store.specs.declared.receivers.Giving.TheVariants.{Keep}
use Rattle.cnb_world.specs.declared.values.Memory.{Memory as OutOfMemory}

-- all the bytes of a folder's tree are handed on
pub record WalksFolder (path : List ℕ) (writer : WriterState) (old : Seen) (result : Result Unit StoreFault)
    (after : WriterState) (new : Seen) : Type 0 where
  pub leaves : LeavesNew path writer old result after new
  pub adds : Adds path (λ before done more. (len : ℕ) × IsTreeOf before path len more)
      (λ before fault. Refuses before (tree_in path) fault) writer old result after new
  pub held : OnOk result (after.piece ≡ [])

-- what was begun is kept, where the digest that was found is the one that is asked for
abbrev pub KeepsFound : Bool → List ℕ → List ℕ → List Receiver → List Bool → Result Unit StoreFault → List Receiver
    → List Bool → Type 0
KeepsFound true digest path old failed (Ok done) new fails = GivesEach Keep [] old failed (Ok done) new fails
KeepsFound true digest path old failed (Err fault) new fails = (fault ≡ NoMemory)
    × ((memory : OutOfMemory) × GivesEach Keep [] old failed (Err memory) new fails)
KeepsFound false digest path old failed (Ok done) new fails = ⊥
KeepsFound false digest path old failed (Err fault) new fails = is_odd_file path fault × (new ≡ old)
    × (fails ≡ failed)

-- what shelves have by what was read of a folder
abbrev pub GivenRead : List ℕ → Result Node StoreFault → List Bool → List Bool → List Receiver → List Receiver → Type 0
GivenRead digest (Ok tree) failed fails old new = (digest ≡ sha256 (spelling_of tree))
    × OnEachSeen shelf_of (λ b a. HasPut digest (spelling_of tree) b.shelf a.shelf) failed fails old new
GivenRead digest (Err fault) failed fails old new = OnEachSeen shelf_of AsTold failed fails old new
    ⊎ ((fault ≡ NoMemory) × (tree : Node) × (digest ≡ sha256 (spelling_of tree))
    × OnEachSeen shelf_of (λ b a. MayHavePut digest (spelling_of tree) b.shelf a.shelf) failed fails old new)

-- the tree of a folder is given to shelves on which it was begun
pub record GivesFolder (digest path : List ℕ) (old : List Receiver) (failed : List Bool) (before : Seen)
    (result : Result Unit StoreFault) (new : List Receiver) (fails : List Bool) (after : Seen) : Type 0 where
  pub read : Result Node StoreFault
  pub reads : reads_under digest path before read after
  pub answer : result ≡ is_read read
  pub given : GivenRead digest read failed fails old new
