-- Restoring a tree from caches: it is searched, and laid where a cache has it.
use Rattle.std.specs.Prelude.{ℕ, true, ◌≡◌, ◌⊎◌, List, codes, Option, Some, None, Result, Ok, Err, IsTrue, is_some}
use Rattle.std.specs.List.{AllByRecursion}
use Rattle.std.specs.Option.{option_map}
use Rattle.cnb_world.specs.Path.{parent_of}
use Rattle.cnb_world.specs.Tree.{Tree, is_folder, item_at}
use Rattle.steps.specs.Causes.{ended_by}
use Rattle.steps.specs.Counts.{FileCounts}
use Rattle.steps.specs.Outside.{Seen}
use Rattle.tree_canon.specs.declared.node.Node.{Node}
use Rattle.tree_store.specs.Answers.{cause_of}
use Rattle.tree_store.specs.Around.{LeavesAround}
use Rattle.tree_store.specs.Overlay.{tree_laid}
use Rattle.tree_store.specs.Steps.{IsCauseWithin, lays_tree}
use Rattle.tree_store.specs.declared.fault.StoreFault.{StoreFault}
use Rattle.shelf_set.specs.Caches.{Caches, WorldAndCaches}
use Rattle.shelf_set.specs.Finding.{Finds, InCaches, LeavesSearched, Whole, Missing, Broken}
use Rattle.shelf_set.specs.ShelfState.{ShelfState}
use Rattle.shelf_set.specs.declared.restoring.Found.{Found}
use Rattle.shelf_set.specs.declared.restoring.Found.TheVariants as found
use Rattle.shelf_set.specs.declared.restoring.Search.{Search}

-- a cache tells what it holds
abbrev pub Tells : ShelfState → Type 0
Tells s = IsTrue (is_some s.held)

abbrev pub AllTell : Caches → Type 0
AllTell caches = AllByRecursion Tells caches.shelves

-- what is answered where caches hold this
abbrev pub answer_of : InCaches → Found
answer_of (Whole tree) = found.Laid
answer_of Missing = found.None
answer_of (Broken asked is bad) = found.Damaged asked is bad

-- or that the bytes changed since they were judged
abbrev pub IsChanged : Found → Type 0
IsChanged found.Laid = ⊥
IsChanged found.None = ⊥
IsChanged (found.Damaged asked is bad) = Unit {0}

-- files are told, and the folder that a path stands in is there
abbrev pub HasFolder : List ℕ → Option Tree → Type 0
HasFolder root None = ⊥
HasFolder root (Some files) = is_folder (item_at files (parent_of root)) ≡ true

-- nothing was laid
pub record LaysNothing (old new : Seen) : Type 0 where
  pub files : new.files ≡ old.files
  pub misused : new.misused ≡ old.misused

-- what is laid where caches hold this
abbrev pub LaysIn : List ℕ → InCaches → Seen → Seen → Type 0
LaysIn root (Whole tree) old new = lays_tree root (codes "/") tree old (Ok tt) new
LaysIn root Missing old new = LaysNothing old new
LaysIn root (Broken asked is bad) old new = LaysNothing old new

-- the files that are laid where caches hold this
abbrev pub LaysFiles : List ℕ → InCaches → Option Tree → Option Tree → Type 0
LaysFiles root (Whole tree) old new = new ≡ option_map (tree_laid root (codes "/") tree) old
LaysFiles root Missing old new = new ≡ old
LaysFiles root (Broken asked is bad) old new = new ≡ old

-- What caches hold decides what is answered and laid, except that bytes which changed meanwhile are answered as
-- damaged. Where all caches tell what they hold, none change. A refusal is for a failed call at the path or below it,
-- or for want of memory, and where caches tell, it leaves a part of a tree there.
abbrev pub RestoresBy : List ℕ → List ℕ → WorldAndCaches → Result Search StoreFault → WorldAndCaches → Type 0
RestoresBy digest root old (Ok search) new =
    (held : InCaches) × Finds old.caches.shelves old.caches.standing digest held new.caches.shelves
    new.caches.standing search.gone × ((search.found ≡ answer_of held) ⊎ IsChanged search.found)
    × (HasFolder root old.world.files → search.found ≡ answer_of held
    → LaysFiles root held old.world.files new.world.files)
    × (AllTell old.caches → HasFolder root old.world.files → (search.found ≡ answer_of held)
    × LaysIn root held old.world new.world)
RestoresBy digest root old (Err fault) new =
    IsCauseWithin root (cause_of fault) × LeavesSearched old.caches.shelves old.caches.standing digest
    new.caches.shelves new.caches.standing × (AllTell old.caches → HasFolder root old.world.files
    → (tree : Node) × lays_tree root (codes "/") tree old.world (Err fault) new.world)

-- The tree of a digest is searched, and laid at a path. Nothing changes but at the path and below it, and folders above
-- it may be made.
pub record RestoresTree (digest root : List ℕ) (old : WorldAndCaches) (result : Result Search StoreFault)
    (new : WorldAndCaches) : Type 0 where
  pub around : LeavesAround root old.world new.world
  pub counts : FileCounts (ended_by cause_of result) old.world new.world
  pub by : RestoresBy digest root old result new
  pub tell : AllTell old.caches → AllTell new.caches

unfoldable pub restores_tree : List ℕ → List ℕ → WorldAndCaches → Result Search StoreFault → WorldAndCaches → Type 0
restores_tree digest root old result new = RestoresTree digest root old result new
