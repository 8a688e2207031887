-- What giving something to shelves does, which private calls alone speak of.
use Rattle.std.specs.Prelude.{ℕ, zero, suc, Bool, ◌≡◌, ◌⊎◌, List, ◌∷◌, Result, Ok, Err, OnErr, OnOk}
use Rattle.std.specs.Option.{option_map}
use Rattle.cnb_world.specs.Calls.{CountsShelf}
use Rattle.cnb_world.specs.Shelf.{empty_at, with_kept, with_more}
use Rattle.cnb_world.specs.declared.shelf.ShelfFault.{ShelfFault}
use Rattle.cnb_world.specs.declared.values.Memory.{Memory}
use Rattle.tree_store.specs.ShelfState.{Replaces, ShelfState}
use Rattle.tree_store.specs.Shelves.{OnEachSeen, OnSeen}
use Rattle.tree_store.specs.Target.{AsTold, Receiver, shelf_of}
use Rattle.tree_store.specs.declared.receivers.Giving.{Giving}
use Rattle.tree_store.specs.declared.receivers.Giving.TheVariants.{Begin, Append, Keep, SetRows}

-- what a shelf has where it went well
abbrev pub HasDone : Giving → List ℕ → Receiver → Receiver → Type 0
HasDone (Begin digest) bytes before after = AsTold before after
    × (after.begun ≡ option_map (λ _. empty_at digest) before.shelf.held)
HasDone Append bytes before after = AsTold before after
    × (after.begun ≡ option_map (with_more bytes) before.begun)
HasDone Keep bytes before after = (after.shelf.held ≡ with_kept before.shelf.held before.begun)
    × (after.shelf.rows ≡ before.shelf.rows)
HasDone SetRows bytes before after = (after.shelf.rows ≡ option_map (λ _. bytes) before.shelf.rows)
    × (after.shelf.held ≡ before.shelf.held)

abbrev pub MayHaveDone : Giving → List ℕ → Receiver → Receiver → Type 0
MayHaveDone giving bytes before after = AsTold before after ⊎ HasDone giving bytes before after

pub record IsDone (giving : Giving) (bytes : List ℕ) (result : Result Unit ShelfFault)
    (before after : Receiver) : Type 0 where
  pub ok : OnOk result (HasDone giving bytes before after)
  pub err : OnErr result (AsTold before after)
  pub faults : CountsShelf result before.shelf.faults after.shelf.faults

-- by whether there was memory for it
abbrev pub DoesBy : Giving → List ℕ → Result Unit Memory → Bool → Bool → Receiver → Receiver → Type 0
DoesBy giving bytes (Ok done) failed fails before after =
    OnSeen shelf_of (HasDone giving bytes) failed fails before after
DoesBy giving bytes (Err memory) failed fails before after = OnSeen shelf_of AsTold failed fails before after

-- it is done on the shelf of a number, unless that had failed
pub record GivesAt (giving : Giving) (bytes : List ℕ) (number : ℕ) (old : List Receiver) (failed : List Bool)
    (result : Result Unit Memory) (new : List Receiver) (fails : List Bool) : Type 0 where
  pub before : Receiver
  pub after : Receiver
  pub had : Bool
  pub has : Bool
  pub shelf : Replaces old number before after new
  pub flag : Replaces failed number had has fails
  pub does : DoesBy giving bytes result had has before after

-- and on each
abbrev pub GivesEach : Giving → List ℕ → List Receiver → List Bool → Result Unit Memory → List Receiver
    → List Bool → Type 0
GivesEach giving bytes old failed (Ok done) new fails =
    OnEachSeen shelf_of (HasDone giving bytes) failed fails old new
GivesEach giving bytes old failed (Err memory) new fails =
    OnEachSeen shelf_of (MayHaveDone giving bytes) failed fails old new

-- the same of so many of them, and all others are as they were
abbrev pub OnFirst : {X : Type 0} → ℕ → (X → ShelfState) → (X → X → Type 0) → List Bool → List Bool → List X → List X
    → Type 0
OnFirst zero shelf Does failed fails old new = (fails ≡ failed) × (new ≡ old)
OnFirst (suc n) shelf Does (failed ∷ before) (fails ∷ after) (s ∷ old) (t ∷ new) = OnSeen shelf Does failed fails s t
    × OnFirst n shelf Does before after old new
OnFirst (suc n) shelf Does _ _ _ _ = ⊥
