-- From the search to what is found.
use Rattle.std.proofs.Common.{◌≡◌, ℕ, List, take, drop, sym, subst, Option, Result, Ok}
use Rattle.cnb_world.specs.declared.values.Memory.{Memory}
use Rattle.tree_canon.specs.declared.judging.Judged.{Judged}
use Rattle.shelf_set.specs.ShelfState.{ShelfState}
use Rattle.shelf_set.specs.Dropping.{Drops, AreStanding}
use Rattle.shelf_set.specs.Searching.{HoldsJudged, Searches}
use Rattle.shelf_set.specs.Finding.{Finds, InCaches, IsFound, LeavesSearched}
use Rattle.shelf_set.proofs.TurnLemmas.{standing_again}

pub finds : (old : List ShelfState) (places digest : List ℕ) (found : Result (Option Judged) Memory)
    (judged : Option Judged) (answer : InCaches) (new : List ShelfState) (numbers standing gone : List ℕ) (n : ℕ)
    → Searches old places digest found new numbers n
    → found ≡ Ok judged → standing ≡ take n numbers → gone ≡ drop n numbers
    → ((digest : List ℕ) (held : Option (List ℕ)) → HoldsJudged digest held judged → IsFound digest held answer)
    → Finds old places digest answer new standing gone
finds old places digest found judged answer new numbers standing gone n s is left dropped f =
    let t : Searches old places digest (Ok judged) new numbers n = subst
    (λ r. Searches old places digest r new numbers n) is s in
    let d : Drops t.turns old new places standing gone = subst (λ x. Drops t.turns old new places x gone)
    (sym left) (subst (λ x. Drops t.turns old new places (take n numbers) x) (sym dropped) t.drops) in
    record {
      turns = t.turns;
      drops = d;
      same = t.same;
      held = t.bytes;
      first = t.first;
      found = f digest t.bytes t.judged;
      unasked = t.unasked;
    }

pub leaves : (old : List ShelfState) (places digest : List ℕ) (found : Result (Option Judged) Memory)
    (new : List ShelfState) (numbers standing : List ℕ) (n : ℕ) → Searches old places digest found new numbers n
    → standing ≡ take n numbers → LeavesSearched old places digest new standing
leaves old places digest found new numbers standing n s left = record {
  turns = s.turns;
  gone = drop n numbers;
  drops = subst (λ x. Drops s.turns old new places x (drop n numbers))
      (sym left) s.drops;
  same = s.same;
  unasked = s.unasked;
}

pub again : (old : List ShelfState) (given digest : List ℕ) (found : Result (Option Judged) Memory)
    (new : List ShelfState) (numbers standing : List ℕ) (n : ℕ) → Searches old given digest found new numbers n
    → standing ≡ take n numbers → AreStanding standing new
again old given digest found new numbers standing n s left =
    let d : Drops s.turns old new given standing (drop n numbers) = subst
    (λ x. Drops s.turns old new given x (drop n numbers)) (sym left) s.drops in
    standing_again s.turns old new given standing (drop n numbers) d
