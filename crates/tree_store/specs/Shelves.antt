-- What a call leaves of shelves, of which each had failed or has.
use Rattle.std.specs.Prelude.{Bool, true, false, ◌≡◌, List, [], ◌∷◌}
use Rattle.cnb_world.specs.Calls.{Rose}
use Rattle.tree_store.specs.ShelfState.{ShelfState}

-- a shelf that tells the same before and after
abbrev pub KeepsTold : ShelfState → ShelfState → Type 0
KeepsTold before after = (after.held ≡ before.held) × (after.rows ≡ before.rows)

-- What a call does to a shelf, of which more may be seen than it tells, by whether it had failed and has: one that had
-- failed isn't asked; one that fails tells what it told; and of any other this holds.
abbrev pub OnSeen : {X : Type 0} → (X → ShelfState) → (X → X → Type 0) → Bool → Bool → X → X → Type 0
OnSeen shelf Does true true before after = after ≡ before
OnSeen shelf Does true false before after = ⊥
OnSeen shelf Does false true before after = KeepsTold (shelf before) (shelf after)
    × Rose (shelf before).faults (shelf after).faults
OnSeen shelf Does false false before after = Does before after × ((shelf after).faults ≡ (shelf before).faults)

-- the same of the first shelves of a list, by whether each had failed and has; those behind them stay
abbrev pub OnEachSeen : {X : Type 0} → (X → ShelfState) → (X → X → Type 0) → List Bool → List Bool → List X → List X
    → Type 0
OnEachSeen shelf Does [] [] old new = new ≡ old
OnEachSeen shelf Does (failed ∷ before) (fails ∷ after) (s ∷ old) (t ∷ new) = OnSeen shelf Does failed fails s t
    × OnEachSeen shelf Does before after old new
OnEachSeen shelf Does _ _ _ _ = ⊥

abbrev pub OnShelf : (ShelfState → ShelfState → Type 0) → Bool → Bool → ShelfState → ShelfState → Type 0
OnShelf Does before after old new = OnSeen (λ s. s) Does before after old new

abbrev pub OnEach : (ShelfState → ShelfState → Type 0) → List Bool → List Bool → List ShelfState → List ShelfState
    → Type 0
OnEach Does before after old new = OnEachSeen (λ s. s) Does before after old new
