-- How many shelves a call drops.
use Rattle.std.proofs.Common.{◌≡◌, ℕ, ◌+◌, Bool, true, false, cond, not, List, [], ◌∷◌, length, refl, ap, ◌∙◌, arith}
use Rattle.std.proofs.lemmas.List.{length-map}
use Rattle.shelf_set.specs.ShelfState.{ShelfState}
use Rattle.shelf_set.specs.Dropping.{Turn, has_failed, number_of, failed_of, left_of, Drops}
use Rattle.shelf_set.specs.Gathering.{Gathers}
use Rattle.shelf_set.specs.declared.gathering.Gathered.{Gathered}

-- each shelf that stood is dropped or left
count_split : (turns : List Turn) → length (failed_of turns) + length (left_of turns) ≡ length turns
count_split [] = refl
count_split (t ∷ ts) = by (has_failed t) (count_split ts)
  where
    by : (b : Bool) → length (failed_of ts) + length (left_of ts) ≡ length ts
        → length (cond b (t ∷ failed_of ts) (failed_of ts)) + length (cond (not b) (t ∷ left_of ts) (left_of ts))
        ≡ length (t ∷ ts)
    by true h = omega (arith, h)
    by false h = omega (arith, h)

pub dropped_count : (turns : List Turn) (old new : List ShelfState) (places standing gone : List ℕ)
    → Drops turns old new places standing gone → length gone + length standing ≡ length places
dropped_count turns old new places standing gone d =
    let all : length places ≡ length turns = ap length d.numbers ∙ length-map turns number_of in
    let left : length standing ≡ length (left_of turns) = ap length d.left ∙ length-map (left_of turns) number_of in
    let dropped : length gone ≡ length (failed_of turns) = ap length d.dropped
    ∙ length-map (failed_of turns) number_of in
    omega (arith, count_split turns, all, left, dropped)

pub gathers_count : (old : List ShelfState) (places : List ℕ) (answer : Gathered) (new : List ShelfState)
    (standing : List ℕ) → Gathers old places answer new standing
    → length answer.gone + length standing ≡ length places
gathers_count old places answer new standing g = dropped_count g.turns old new places standing answer.gone g.drops
