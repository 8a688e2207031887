-- Caches that are searched tell what they told.
use Rattle.std.proofs.Common.{sym, subst, ℕ, Bool, true, false, cond, List, [], ◌∷◌, ◌++◌, codes, map}
use Rattle.std.proofs.Common.{Option, Err}
use Rattle.std.specs.List.{AllByRecursion, filter}
use Rattle.std.specs.Prelude.{IsTrue, is_some}
use Rattle.cnb_world.specs.Shelf.{Held}
use Rattle.steps.specs.Outside.{Seen}
use Rattle.steps.proofs.EndLaws.{files_rest}
use Rattle.tree_canon.specs.declared.node.Node.TheVariants as node
use Rattle.tree_store.proofs.Around.{itself}
use Rattle.tree_store.proofs.CallSteps.{lay_nothing}
use Rattle.tree_store.specs.declared.fault.StoreFault.TheVariants as store
use Rattle.shelf_set.proofs.Lists.{all_both}
use Rattle.shelf_set.specs.Caches.{Caches, world_and_caches}
use Rattle.shelf_set.specs.Dropping.{Turn, has_failed, before_of, after_of, left_of, Drops}
use Rattle.shelf_set.specs.Finding.{LeavesSearched, TellsSame}
use Rattle.shelf_set.specs.Restoring.{AllTell, Tells, restores_tree}
use Rattle.shelf_set.specs.ShelfState.{ShelfState}

-- ---- caches tell what they told

pub all_split : {X : Type 0} (P : X → Type 0) (xs ys : List X) → AllByRecursion P (xs ++ ys)
    → AllByRecursion P xs × AllByRecursion P ys
all_split P [] ys h = (tt, h)
all_split P (x ∷ xs) ys h = let (front, back) = all_split P xs ys h.1 in ((h.0, front), back)

pub still_tell : (turns : List Turn) → AllByRecursion TellsSame turns → AllByRecursion Tells (map before_of turns)
    → AllByRecursion (λ t. Tells t.after) turns
still_tell [] same tell = tt
still_tell (t ∷ ts) same tell = (
  subst (λ (h : Option Held). IsTrue (is_some h)) (sym same.0.0) tell.0,
  still_tell ts same.1 tell.1,
)

pub chosen : (keep : Turn → Bool) (turns : List Turn) → AllByRecursion (λ t. Tells t.after) turns
    → AllByRecursion Tells (map after_of (filter keep turns))
chosen keep [] tell = tt
chosen keep (t ∷ ts) tell = by (keep t) (chosen keep ts tell.1)
  where
    by : (v : Bool) → AllByRecursion Tells (map after_of (filter keep ts))
        → AllByRecursion Tells (map after_of (cond v (t ∷ filter keep ts) (filter keep ts)))
    by true rest = (tell.0, rest)
    by false rest = rest

pub drops_tell : (turns : List Turn) (old new : List ShelfState) (places standing gone : List ℕ)
    → Drops turns old new places standing gone → AllByRecursion TellsSame turns → AllByRecursion Tells old
    → AllByRecursion Tells new
drops_tell turns old new places standing gone d same tell =
    let (asked, earlier) = all_split Tells (map before_of turns) d.earlier
    (subst (AllByRecursion Tells) d.entry tell) in
    let after = still_tell turns same asked in
    subst (AllByRecursion Tells) (sym d.exit)
    (all_both Tells (map after_of (left_of turns)) _ (chosen _ turns after)
    (all_both Tells d.earlier _ earlier (chosen has_failed turns after)))

pub searched_tell : (digest : List ℕ) (old new : Caches)
    → LeavesSearched old.shelves old.standing digest new.shelves new.standing → AllTell old → AllTell new
searched_tell digest old new s = drops_tell s.turns old.shelves new.shelves old.standing new.standing s.gone s.drops
    s.same

-- memory ran out before anything was laid
pub nothing_laid : (digest root : List ℕ) (w : Seen) (old new : Caches)
    → LeavesSearched old.shelves old.standing digest new.shelves new.standing
    → restores_tree digest root (world_and_caches w old) (Err store.Memory) (world_and_caches w new)
unfolding restores_tree
nothing_laid digest root w old new s = record {
  around = itself root w;
  counts = files_rest.memory w;
  by = (tt, s, λ tell there. (node.Folder [], lay_nothing root (codes "/") (node.Folder []) w));
  tell = searched_tell digest old new s;
}
