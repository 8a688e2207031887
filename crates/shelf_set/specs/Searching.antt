-- Searching shelves for bytes, which private calls alone speak of.
use Rattle.std.specs.Prelude.{ℕ, ◌≡◌, ◌≤◌, List, length, map, take, drop, Option, Some, None, Result, Ok, Err, IfSome}
use Rattle.std.specs.Prelude.{IfOk}
use Rattle.std.specs.Prelude.{OnOk}
use Rattle.std.specs.List.{AllByRecursion}
use Rattle.std.specs.FinMap.{get}
use Rattle.std.specs.Option.{option_map}
use Rattle.cnb_world.specs.Calls.{CountsShelf}
use Rattle.cnb_world.specs.declared.shelf.ShelfFault.{ShelfFault}
use Rattle.cnb_world.specs.declared.values.Memory.{Memory}
use Rattle.tree_canon.specs.Judging.{IsJudged}
use Rattle.tree_canon.specs.declared.judging.Judged.{Judged}
use Rattle.tree_canon.specs.declared.judging.Judged.TheVariants as judged
use Rattle.tree_canon.specs.declared.node.Node.{Node}
use Rattle.shelf_set.specs.ShelfState.{ShelfState}
use Rattle.shelf_set.specs.Dropping.{Turn, after_of, left_of, Drops}
use Rattle.shelf_set.specs.Turns.{Goes}
use Rattle.shelf_set.specs.Finding.{TellsSame, IsFirst, NoneBehind}
use Rattle.shelf_set.specs.declared.ask.Checked.{Checked}
use Rattle.shelf_set.specs.declared.ask.Checked.TheVariants as checked

-- what one shelf gives of the bytes under a digest, from a place on
pub record Reads (digest : List ℕ) (at : ℕ) (result : Result (Option (List ℕ)) ShelfFault)
    (before after : ShelfState) : Type 0 where
  pub held : after.held ≡ before.held
  pub rows : after.rows ≡ before.rows
  pub faults : CountsShelf result before.faults after.faults
  pub told : IfSome before.held (λ h. IfOk result (λ found. found
      ≡ option_map (λ bytes. take 65536 (drop at bytes)) (get h digest)))

-- what these bytes are under a digest, where there are any
abbrev pub HoldsJudged : List ℕ → Option (List ℕ) → Option Judged → Type 0
HoldsJudged digest None judged = judged ≡ None
HoldsJudged digest (Some bytes) None = ⊥
HoldsJudged digest (Some bytes) (Some judged) = IsJudged digest bytes judged

-- what one shelf holds and answers, and how it is before and after
pub record Asks (digest : List ℕ) (result : Result (Option Judged) ShelfFault)
    (before after : ShelfState) : Type 0 where
  pub held : after.held ≡ before.held
  pub rows : after.rows ≡ before.rows
  pub faults : CountsShelf result before.faults after.faults
  pub bytes : Option (List ℕ)
  pub judged : IfOk result (HoldsJudged digest bytes)
  pub told : IfSome before.held (λ h. OnOk result (bytes ≡ get h digest))

-- the same of bytes of which nothing is kept
abbrev pub IsSpelled : List ℕ → List ℕ → Checked → Type 0
IsSpelled digest bytes checked.Tree = (tree : Node) × IsJudged digest bytes (judged.Tree tree)
IsSpelled digest bytes (checked.Damaged asked is bad) = IsJudged digest bytes (judged.Damaged asked is bad)

abbrev pub checked_of : Judged → Checked
checked_of (judged.Tree tree) = checked.Tree
checked_of (judged.Damaged asked is bad) = checked.Damaged asked is bad

abbrev pub IsChecked : Result (Option Judged) ShelfFault → Result (Option Checked) ShelfFault → Type 0
IsChecked (Ok found) result = result ≡ Ok (option_map checked_of found)
IsChecked (Err fault) result = result ≡ Err fault

-- a shelf that tells doesn't hold the digest
abbrev pub Lacks : List ℕ → ShelfState → Type 0
Lacks digest s = IfSome s.held (λ h. get h digest ≡ None)

-- so many shelves were asked, and none of those that stand holds the digest
pub record Searching (old now : List ShelfState) (places numbers : List ℕ) (digest : List ℕ)
    (at asked : ℕ) : Type 0 where
  pub turns : List Turn
  pub goes : Goes turns old now places numbers at
  pub same : AllByRecursion TellsSame turns
  pub lacks : AllByRecursion (Lacks digest) (map after_of (left_of turns))
  pub count : length turns ≡ asked

-- what the search answers and leaves; the first of the numbers, so many, are those of the shelves that stand
pub record Searches (old : List ShelfState) (places : List ℕ) (digest : List ℕ)
    (found : Result (Option Judged) Memory) (new : List ShelfState) (numbers : List ℕ)
    (standing : ℕ) : Type 0 where
  pub turns : List Turn
  pub drops : Drops turns old new places (take standing numbers) (drop standing numbers)
  pub same : AllByRecursion TellsSame turns
  pub bytes : Option (List ℕ)
  pub judged : IfOk found (HoldsJudged digest bytes)
  pub first : OnOk found (IsFirst (map after_of (left_of turns)) digest bytes)
  pub unasked : NoneBehind digest turns
  pub fits : standing ≤ length numbers
