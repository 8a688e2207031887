-- The contents of a layer, restored from caches.
use Rattle.std.proofs.Common.{◌≡◌, ◌∙◌, refl, sym, ap, subst, ℕ, ◌≤◌, List, [], ◌∷◌, ◌++◌, append-nil, drop, length}
use Rattle.std.proofs.Common.{map}
use Rattle.std.proofs.Common.{arith, take, Result, Ok, Err}
use Rattle.std.proofs.lemmas.List.{length-map, length-take-le, take-append-drop}
use Rattle.cnb_world.specs.Path.{joined}
use Rattle.image_docs.specs.declared.layer_row.LayerRow.{LayerRow}
use Rattle.shelf_set.proofs.RestoreLemmas.{nothing_laid}
use Rattle.shelf_set.proofs.TurnLemmas.{Stills, all_still, still, stills}
use Rattle.shelf_set.specs.Caches.{Caches, WorldAndCaches, world_and_caches}
use Rattle.shelf_set.specs.Dropping.{IsCounted, Turn, after_of, failed_of, number_of}
use Rattle.shelf_set.specs.Finding.{IsUnasked, LeavesSearched, NoneBehind, TellsSame}
use Rattle.shelf_set.specs.Restoring.{restores_tree}
use Rattle.shelf_set.specs.ShelfState.{ShelfState}
use Rattle.shelf_set.specs.declared.restoring.Search.{Search}
use Rattle.steps.specs.Outside.{Seen}
use Rattle.steps.specs.Results.{with_fault}
use Rattle.steps.specs.Steps.{map_err}
use Rattle.steps.proofs.StepLemmas.{mapped, mapped_fault}
use Rattle.tree_store.specs.declared.fault.StoreFault.{StoreFault}
use Rattle.tree_store.specs.declared.fault.StoreFault.TheVariants as store
use Rattle.cnb_restore.specs.declared.fault.RestoreFault.{RestoreFault}
use Rattle.cnb_restore.specs.declared.fault.RestoreFault.TheVariants.{Memory}
use Rattle.cnb_restore.specs.Faults.{of_laying_fault}
use Rattle.cnb_restore.specs.Restores.{restores_held}

-- ---- no cache is asked

none_behind : (digest : List ℕ) (shelves : List ShelfState) (numbers : List ℕ)
    → NoneBehind digest (still shelves numbers)
none_behind digest [] numbers = tt
none_behind digest (s ∷ ss) [] = tt
none_behind digest (s ∷ ss) (n ∷ ns) = (
  λ stands tells. all_still IsUnasked (λ n s. (refl, refl)) ss ns,
  none_behind digest ss ns,
)

unsearched : (digest : List ℕ) (caches : Caches) → length caches.standing ≤ length caches.shelves
    → LeavesSearched caches.shelves caches.standing digest caches.shelves caches.standing
unsearched digest caches fits =
    let n : ℕ = length caches.standing in
    let asked : List ShelfState = take n caches.shelves in
    let earlier : List ShelfState = drop n caches.shelves in
    let turns : List Turn = still asked caches.standing in
    let same : Stills asked caches.standing = stills asked caches.standing (length-take-le n caches.shelves fits) in
    let whole : asked ++ earlier ≡ caches.shelves = take-append-drop n caches.shelves in
    record {
      turns = turns;
      gone = [];
      drops = record {
        counted = all_still IsCounted (λ n s. refl) asked caches.standing;
        earlier = earlier;
        entry = sym (ap (λ l. l ++ earlier) same.before ∙ whole);
        exit = sym (ap (λ l. map after_of l ++ (earlier ++ map after_of (failed_of turns))) same.stand
            ∙ ap (λ l. map after_of turns ++ (earlier ++ map after_of l)) same.none
            ∙ ap (λ l. map after_of turns ++ l) (append-nil earlier) ∙ ap (λ l. l ++ earlier) same.after
            ∙ whole);
        numbers = sym same.number;
        left = sym (ap (map number_of) same.stand ∙ same.number);
        dropped = sym (ap (map number_of) same.none);
      };
      same = all_still TellsSame (λ n s. (refl, refl)) asked caches.standing;
      unasked = none_behind digest asked caches.standing;
    }

-- as many stand as are seen of them
pub seen_standing : {X Y : Type 0} (see : X → Y) (shelves : List X) (standing : ℕ) → standing ≤ length shelves
    → standing ≤ length (map see shelves)
seen_standing see shelves standing fits = let same : length (map see shelves) ≡ length shelves = length-map shelves see
    in omega (arith, same, fits)

-- ---- a layer's contents

told : {S E F A : Type 0} (of : E → F) (step : S → Result A E → S → Type 0) (old new : S) (answer : Result A E)
    → step old answer new → map_err of step old (with_fault of answer) new
told of step old new (Ok value) h = mapped of step old new value h
told of step old new (Err fault) h = mapped_fault of step old new fault h

-- memory ran out before any cache was asked
pub not_held : (folder : List ℕ) (row : LayerRow) (w : Seen) (caches : Caches)
    → length caches.standing ≤ length caches.shelves
    → restores_held folder row (world_and_caches w caches) (Err Memory) (world_and_caches w caches)
not_held folder row w caches fits = mapped_fault of_laying_fault (restores_tree row.digest (joined folder row.layer))
    (world_and_caches w caches) (world_and_caches w caches) store.Memory
    (nothing_laid row.digest (joined folder row.layer) w caches caches (unsearched row.digest caches fits))

-- a tree was restored at the path of the contents
pub held_so : (folder : List ℕ) (row : LayerRow) (path : List ℕ) (answer : Result Search StoreFault)
    (result : Result Search RestoreFault) (old new : WorldAndCaches)
    → path ≡ joined folder row.layer → result ≡ with_fault of_laying_fault answer
    → restores_tree row.digest path old answer new → restores_held folder row old result new
held_so folder row path answer result old new at is h = subst (λ r. restores_held folder row old r new) (sym is)
    (told of_laying_fault (restores_tree row.digest (joined folder row.layer)) old new answer
    (subst (λ p. restores_tree row.digest p old answer new) at h))
