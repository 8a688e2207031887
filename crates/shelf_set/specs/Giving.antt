-- Rows of one shelf after another, which private calls alone speak of.
use Rattle.std.specs.Prelude.{ℕ, ◌≡◌, ◌≤◌, List, [], ◌∷◌, ◌++◌, length, take, drop, Option, Result, IfSome, IfOk, OnOk}
use Rattle.std.specs.Prelude.{OnErr}
use Rattle.std.specs.List.{AllByRecursion}
use Rattle.cnb_world.specs.Calls.{CountsShelf}
use Rattle.cnb_world.specs.declared.shelf.ShelfFault.{ShelfFault}
use Rattle.cnb_world.specs.declared.values.Memory.{Memory}
use Rattle.image_docs.specs.declared.layer_row.LayerRow.{LayerRow}
use Rattle.shelf_set.specs.ShelfState.{ShelfState}
use Rattle.shelf_set.specs.Dropping.{Turn, left_of, Drops}
use Rattle.shelf_set.specs.Turns.{Goes}
use Rattle.shelf_set.specs.Finding.{TellsSame}
use Rattle.shelf_set.specs.Gathering.{document_rows, held_rows, given_by, HaveGiven}
use Rattle.shelf_set.specs.declared.giving.Given.{Given}

-- a shelf tells the same after an answer, which its count fits
pub record Answered {A : Type 0} (result : Result A ShelfFault) (before after : ShelfState) : Type 0 where
  pub held : after.held ≡ before.held
  pub rows : after.rows ≡ before.rows
  pub faults : CountsShelf result before.faults after.faults

-- the rows of a shelf's document
pub record ReadsRows (result : Result (Option (List LayerRow)) ShelfFault) (before after : ShelfState) : Type 0 where
  pub answered : Answered result before after
  pub told : IfSome before.rows (λ document. IfOk result (λ rows. rows ≡ document_rows document))

-- a row is put behind others, if the shelf holds its tree
pub record KeepsRow (row : LayerRow) (old : List LayerRow) (result : Result Unit ShelfFault) (new : List LayerRow)
    (before after : ShelfState) : Type 0 where
  pub answered : Answered result before after
  pub told : IfSome before.held (λ held. OnOk result (new ≡ old ++ held_rows held (row ∷ [])))

-- those of these rows so far that the shelf holds
pub record Keeping (seen kept : List LayerRow) (before now : ShelfState) : Type 0 where
  pub held : now.held ≡ before.held
  pub rows : now.rows ≡ before.rows
  pub faults : now.faults ≡ before.faults
  pub told : IfSome before.held (λ h. kept ≡ held_rows h seen)

-- those of some rows that a shelf holds
pub record KeepsRows (rows : List LayerRow) (result : Result (List LayerRow) ShelfFault)
    (before after : ShelfState) : Type 0 where
  pub answered : Answered result before after
  pub told : IfSome before.held (λ held. IfOk result (λ kept. kept ≡ held_rows held rows))

-- what a shelf gives
pub record Gives (result : Result (Option (List LayerRow)) ShelfFault) (before after : ShelfState) : Type 0 where
  pub answered : Answered result before after
  pub told : IfSome before.rows (λ document. IfSome before.held
      (λ held. IfOk result (λ rows. rows ≡ given_by held document)))

-- the same, put behind what others gave
pub record GivesMore (number : ℕ) (old : List Given) (result : Result Unit ShelfFault) (new : List Given)
    (before after : ShelfState) : Type 0 where
  pub answered : Answered result before after
  pub more : OnOk result ((rows : Option (List LayerRow)) × (new ≡ old ++ record { number = number; rows = rows } ∷ [])
      × IfSome before.rows (λ document. IfSome before.held (λ held. rows ≡ given_by held document)))
  pub less : OnErr result (new ≡ old)

-- so many shelves had their turns, and those that stand gave this
pub record Giving (old now : List ShelfState) (places numbers : List ℕ) (given : List Given)
    (at asked : ℕ) : Type 0 where
  pub turns : List Turn
  pub goes : Goes turns old now places numbers at
  pub same : AllByRecursion TellsSame turns
  pub gave : HaveGiven (left_of turns) given
  pub count : length turns ≡ asked

-- what asking each shelf answers and leaves; the first of the numbers, so many, are those of the shelves that stand
pub record GivesEach (old : List ShelfState) (places : List ℕ) (given : Result (List Given) Memory)
    (new : List ShelfState) (numbers : List ℕ) (standing : ℕ) : Type 0 where
  pub turns : List Turn
  pub drops : Drops turns old new places (take standing numbers) (drop standing numbers)
  pub same : AllByRecursion TellsSame turns
  pub gave : IfOk given (HaveGiven (left_of turns))
  pub fits : standing ≤ length numbers
