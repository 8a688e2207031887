-- What contracts see of a shelf.
use Rattle.std.specs.Prelude.{ℕ, Bool, true, false, ◌≡◌, ◌++◌, List, ◌∷◌, length, map, Option}
use Rattle.std.specs.declared.dyn_box.DynBox.{DynBox}
use Rattle.cnb_world.specs.Calls.{Rose}
use Rattle.cnb_world.specs.Shelf.{Held}
use Rattle.cnb_world.specs.declared.shelf.Shelf as shelf

-- what it tells, and its count of faults
pub record ShelfState : Type 0 where
  pub held : Option Held
  pub rows : Option (List ℕ)
  pub faults : ℕ

abbrev pub state_of : Option Held → Option (List ℕ) → ℕ → ShelfState
state_of h r f = record { held = h; rows = r; faults = f }

-- what contracts see of a shelf
abbrev pub shelf_seen : {H : Type 0} → shelf.Ghosts H → H → ShelfState
shelf_seen ghosts h = state_of (ghosts.held h) (ghosts.rows h) (ghosts.faults h)

-- of boxed shelves, each with its own calls
abbrev pub shelves_seen : {X Z : Type 0} {F : X → Type 0} → ((x : X) → shelf.Ghosts (F x)) → List (DynBox X Z F)
    → List ShelfState
shelves_seen ghosts boxes = map (λ box. shelf_seen (ghosts box.vtable) box.value) boxes

-- an item is replaced
pub record Replaces {X : Type 0} (old : List X) (at : ℕ) (before after : X) (new : List X) : Type 0 where
  pub front : List X
  pub back : List X
  pub entry : old ≡ front ++ before ∷ back
  pub place : at ≡ length front
  pub exit : new ≡ front ++ after ∷ back

-- a count of faults rose where the shelf failed, and else it stayed
abbrev pub Counted : Bool → ℕ → ℕ → Type 0
Counted true before now = Rose before now
Counted false before now = now ≡ before
