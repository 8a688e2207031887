-- What steps over more than the world leave alone, and steps that remove, restore and put.
use Rattle.std.proofs.Common.{◌≡◌, ◌∙◌, refl, sym, ap, ℕ, Bool, true, false, not, cond, ◌||◌, List, [], ◌∷◌, Option}
use Rattle.std.proofs.Common.{Some, None, Result, Ok, Err, inl, inr, ◌⊎◌}
use Rattle.std.specs.FinMap.{get, retain_keys, get-retain_keys, slice_cmp-IsAntisymmetric, nat_cmp-IsAntisymmetric}
use Rattle.cnb_world.specs.Calls.{RemovesSome}
use Rattle.cnb_world.specs.Tree.{Tree, is_root, is_within, item_at, without}
use Rattle.cnb_world.specs.declared.world.Item.{Item}
use Rattle.cnb_world.specs.declared.world.Item.TheVariants.{Folder}
use Rattle.cnb_world.proofs.EffectLemmas.{emptied_elsewhere}
use Rattle.shelf_set.specs.Caches.{Caches, WorldAndCaches, in_caches, in_world as in_cached_world}
use Rattle.image_docs.specs.declared.layer_row.LayerRow.{LayerRow}
use Rattle.shelf_set.specs.Caching.{reads_trees, stores_folders}
use Rattle.shelf_set.specs.Restoring.{restores_tree}
use Rattle.steps.specs.Causes.{Cause}
use Rattle.steps.specs.Each.{for_each}
use Rattle.steps.specs.Keeping.{Keeps, is_free, standing, touched}
use Rattle.steps.specs.Outside.{Outside, Seen, SpawnerSeen}
use Rattle.steps.specs.Steps.{◌>>=◌, gives, in_spawners, in_world, map_err, removes, yields}
use Rattle.steps.proofs.KeepingLaws.{Preserves, keeps_reads, keeps_same, keeps_then, part_left, step_at, written_free}
use Rattle.tree_canon.specs.declared.node.Node.{Node}
use Rattle.tree_store.specs.Around.{IsMadeAbove, KeptAround, LeavesAround}
use Rattle.tree_store.specs.Steps.{LeavesPut, puts_tree, reads_tree}
use Rattle.tree_store.specs.Store.{LeavesStore, left_or_written, tree_path, tree_put}
use Rattle.tree_store.specs.declared.fault.StoreFault.{StoreFault}
use Rattle.tree_store.specs.declared.fault.StoreFault.TheVariants.{OddFile, Limit, File, NoTree, Damaged, Clash, Memory}
use Rattle.cnb_create.specs.Surroundings.{Surroundings, over_caches, over_outside, over_world}
use Rattle.cnb_create.proofs.ApartLemmas.{Below, above}

-- steps after which a path of the world is as it was, but for what children did, and those of which that holds where
-- they are refused
abbrev pub KeepsIn : {S E A : Type 0} → (S → Seen) → List ℕ → (S → Result A E → S → Type 0) → Type 0
KeepsIn {S} {E} {A} view path step = (old new : S) (result : Result A E) → step old result new
    → Keeps path (view old) (view new)

abbrev pub KeepsRefused : {S E A : Type 0} → (S → Seen) → List ℕ → (S → Result A E → S → Type 0) → Type 0
KeepsRefused {S} {E} {A} view path step = (old new : S) (fault : E) → step old (Err fault) new
    → Keeps path (view old) (view new)

unmoved : {S : Type 0} (view : S → Seen) (path : List ℕ) (old new : S) → new ≡ old → Keeps path (view old) (view new)
unmoved view path old new e = keeps_same path (view old) (view new) (ap (λ s. (view s).runs) e)
    (ap (λ s. standing (view s).files path) e)

pub in_bind : {S E A B : Type 0} (view : S → Seen) (path : List ℕ) (first : S → Result A E → S → Type 0)
    (next : A → S → Result B E → S → Type 0) → KeepsIn view path first → ((a : A) → KeepsIn view path (next a))
    → KeepsIn view path (first >>= next)
unfolding ◌>>=◌
in_bind view path first next p q old new (Ok value) (a, mid, h, k) = keeps_then path (view old) (view mid)
    (view new) (p old mid (Ok a) h) (q a mid new (Ok value) k)
in_bind view path first next p q old new (Err fault) (inl h) = p old new (Err fault) h
in_bind view path first next p q old new (Err fault) (inr (a, mid, h, k)) = keeps_then path (view old) (view mid)
    (view new) (p old mid (Ok a) h) (q a mid new (Err fault) k)

pub refused_bind : {S E A B : Type 0} (view : S → Seen) (path : List ℕ) (first : S → Result A E → S → Type 0)
    (next : A → S → Result B E → S → Type 0) → KeepsIn view path first
    → ((a : A) → KeepsRefused view path (next a)) → KeepsRefused view path (first >>= next)
unfolding ◌>>=◌
refused_bind view path first next p q old new fault (inl h) = p old new (Err fault) h
refused_bind view path first next p q old new fault (inr (a, mid, h, k)) = keeps_then path (view old) (view mid)
    (view new) (p old mid (Ok a) h) (q a mid new fault k)

-- one step, of whose value this holds, and steps behind it that keep to this where that holds
pub refused_where : {S E A B : Type 0} (view : S → Seen) (path : List ℕ) (first : S → Result A E → S → Type 0)
    (next : A → S → Result B E → S → Type 0) (P : A → Type 0)
    → KeepsIn view path first → ((old new : S) (a : A) → first old (Ok a) new → P a)
    → ((a : A) → P a → KeepsRefused view path (next a)) → KeepsRefused view path (first >>= next)
unfolding ◌>>=◌
refused_where view path first next P kept holds later old new fault (inl h) = kept old new (Err fault) h
refused_where view path first next P kept holds later old new fault (inr (a, mid, h, k)) =
    keeps_then path (view old) (view mid) (view new) (kept old mid (Ok a) h)
    (later a (holds old mid a h) mid new fault k)

pub in_told : {S E F A : Type 0} (view : S → Seen) (path : List ℕ) (of : E → F)
    (step : S → Result A E → S → Type 0) → KeepsIn view path step → KeepsIn view path (map_err of step)
unfolding map_err
in_told view path of step p old new (Ok value) h = p old new (Ok value) h
in_told view path of step p old new (Err refusal) (fault, is, h) = p old new (Err fault) h

pub in_gives : {S E A : Type 0} (view : S → Seen) (path : List ℕ) (cause_of : E → Cause) (want : Result A E)
    → KeepsIn view path (gives {S = S} cause_of want)
unfolding gives
in_gives view path cause_of want old new result h = unmoved view path old new h.0

pub in_yields : {S E A : Type 0} (view : S → Seen) (path : List ℕ) (want : A)
    → KeepsIn {E = E} view path (yields {S = S} want)
unfolding yields
in_yields view path want old new (Ok value) h = unmoved view path old new h.1
in_yields view path want old new (Err fault) h = absurd h

pub in_each : {S E A X : Type 0} (view : S → Seen) (path : List ℕ) (step : X → A → S → Result A E → S → Type 0)
    (xs : List X) (so_far : A) → ((x : X) (a : A) → KeepsIn view path (step x a))
    → KeepsIn view path (for_each step xs so_far)
unfolding for_each
in_each view path step [] so_far h = in_yields view path so_far
in_each view path step (x ∷ xs) so_far h = in_bind view path (step x so_far) (for_each step xs) (h x so_far)
    (λ more. in_each view path step xs more h)

-- ---- steps over a part of what is seen

abbrev pub cached_world : WorldAndCaches → Seen
cached_world s = s.world

abbrev pub spawners_world : Outside → Seen
spawners_world s = s.world

abbrev pub all_world : Surroundings → Seen
all_world s = s.world

pub cached_in_world : {E A : Type 0} (path : List ℕ) (step : Seen → Result A E → Seen → Type 0)
    → Preserves path step → KeepsIn cached_world path (in_cached_world step)
unfolding in_cached_world
cached_in_world path step p old new result h = p old.world new.world result h.0

pub cached_in_caches : {E A : Type 0} (path : List ℕ) (step : Caches → Result A E → Caches → Type 0)
    → KeepsIn cached_world path (in_caches step)
unfolding in_caches
cached_in_caches path step old new result h = unmoved (λ (s : Seen). s) path old.world new.world h.1

pub spawners_in_world : {E A : Type 0} (path : List ℕ) (step : Seen → Result A E → Seen → Type 0)
    → Preserves path step → KeepsIn spawners_world path (in_world step)
unfolding in_world
spawners_in_world path step p old new result h = p old.world new.world result h.0

pub spawners_in_spawners : {E A : Type 0} (path : List ℕ)
    (step : List SpawnerSeen → Result A E → List SpawnerSeen → Type 0)
    → KeepsIn spawners_world path (in_spawners step)
unfolding in_spawners
spawners_in_spawners path step old new result h = unmoved (λ (s : Seen). s) path old.world new.world h.1

pub all_over_world : {E A : Type 0} (path : List ℕ) (step : Seen → Result A E → Seen → Type 0)
    → Preserves path step → KeepsIn all_world path (over_world step)
unfolding over_world
all_over_world path step p old new result h = p old.world new.world result h.0

pub all_over_outside : {E A : Type 0} (path : List ℕ) (step : Outside → Result A E → Outside → Type 0)
    → KeepsIn spawners_world path step → KeepsIn all_world path (over_outside step)
unfolding over_outside
all_over_outside path step p old new result h = p _ _ result h.0

pub all_over_caches : {E A : Type 0} (path : List ℕ)
    (step : WorldAndCaches → Result A E → WorldAndCaches → Type 0) → KeepsIn cached_world path step
    → KeepsIn all_world path (over_caches step)
unfolding over_caches
all_over_caches path step p old new result h = p _ _ result h.0

pub refused_over_caches : {E A : Type 0} (path : List ℕ)
    (step : WorldAndCaches → Result A E → WorldAndCaches → Type 0) → KeepsRefused cached_world path step
    → KeepsRefused all_world path (over_caches step)
unfolding over_caches
refused_over_caches path step p old new fault h = p _ _ fault h.0

-- ---- steps that remove, restore and put

pub at_get : (t u : Tree) (q : List ℕ) → get t q ≡ get u q → item_at t q ≡ item_at u q
at_get t u q e = ap (cond (is_root q) (Some Folder)) e

retained : (t : Tree) (stays : List ℕ → Bool) (q : List ℕ) → stays q ≡ true
    → item_at (retain_keys t stays) q ≡ item_at t q
retained t stays q is =
    at_get (retain_keys t stays) t q (get-retain_keys t stays q
    (λ x tied. ap stays (sym (slice_cmp-IsAntisymmetric nat_cmp-IsAntisymmetric q x tied)))
    ∙ ap (λ v. cond v (get t q) None) is)

or_first : (v w : Bool) → v ≡ true → (v || w) ≡ true
or_first true w h = refl
or_first false w h = absurd (cc)

removed_some : (o n : Option Tree) (at path : List ℕ) → is_within at path ≡ false → RemovesSome o n at
    → standing n path ≡ standing o path
removed_some o n at path away (inl same) = ap (λ files. standing files path) same
removed_some o n at path away (inr (stays, is)) =
    step_at o n (λ files. retain_keys files (λ q. not (is_within at q) || stays q)) path
    (λ t. retained t (λ q. not (is_within at q) || stays q) path
    (or_first (not (is_within at path)) (stays path) (ap not away))) is

pub keeps_removes : {E : Type 0} (path : List ℕ) (cause_of : E → Cause) (at : List ℕ) → is_within at path ≡ false
    → Preserves path (removes cause_of at)
unfolding removes
keeps_removes path cause_of at away old new (Ok done) h = keeps_same path old new h.0.runs
    (step_at old.files new.files (without at) path
    (λ t. at_get (without at t) t path (emptied_elsewhere t at path away)) h.0.files)
keeps_removes path cause_of at away old new (Err fault) h = keeps_same path old new h.1.runs
    (removed_some old.files new.files at path away h.1.files)

pub kept_around : (root path : List ℕ) (o n : Option Tree) → is_within root path ≡ false → (Below path root → ⊥)
    → KeptAround root o n → standing n path ≡ standing o path
unfolding KeptAround
kept_around root path None None away apart h = refl
kept_around root path None (Some new) away apart h = absurd h
kept_around root path (Some old) None away apart h = absurd h
kept_around root path (Some old) (Some new) away apart h = by (h path away)
  where
    by : (item_at new path ≡ item_at old path) ⊎ IsMadeAbove root path old new
        → Some (item_at new path) ≡ Some (item_at old path)
    by (inl same) = ap Some same
    by (inr made) = absurd (apart (above path root made.above))

laid : (root path : List ℕ) (old new : Seen) → is_within root path ≡ false → (Below path root → ⊥)
    → LeavesAround root old new → Keeps path old new
laid root path old new away apart h = keeps_same path old new h.runs
    (kept_around root path old.files new.files away apart h.files)

pub keeps_restored : (path digest root : List ℕ) → is_within root path ≡ false → (Below path root → ⊥)
    → KeepsIn cached_world path (restores_tree digest root)
unfolding restores_tree
keeps_restored path digest root away apart old new result h = laid root path old.world new.world away apart h.around

put_free : (found : Option Item) (p q bytes : List ℕ) (t : Tree) → is_free (touched p) q ≡ true
    → item_at (left_or_written found p bytes t) q ≡ item_at t q
put_free None p q bytes t free = written_free t p q bytes free
put_free (Some item) p q bytes t free = refl

store_left : (fault : StoreFault) (p q bytes : List ℕ) (o n : Option Tree) → is_free (touched p) q ≡ true
    → LeavesStore fault p bytes o n → standing n q ≡ standing o q
store_left (File blamed) p q bytes o n free h = part_left o n p q bytes free h
store_left Memory p q bytes o n free h = part_left o n p q bytes free h
store_left (OddFile odd) p q bytes o n free h = ap (λ files. standing files q) h
store_left (Limit kind) p q bytes o n free h = ap (λ files. standing files q) h
store_left (NoTree digest) p q bytes o n free h = ap (λ files. standing files q) h
store_left (Damaged asked found bad) p q bytes o n free h = ap (λ files. standing files q) h
store_left (Clash digest) p q bytes o n free h = ap (λ files. standing files q) h

put_left : (path store : List ℕ) (tree : Node) (old new : Seen) (result : Result (List ℕ) StoreFault)
    → ((digest : List ℕ) → is_free (touched (tree_path store digest)) path ≡ true)
    → LeavesPut store tree old result new
    → standing new.files path ≡ standing old.files path
put_left path store tree old new (Ok digest) free h = step_at old.files new.files (tree_put store tree) path
    (λ t. put_free (item_at t (tree_path store _)) (tree_path store _) path _ t (free _)) h.1
put_left path store tree old new (Err fault) free h = store_left fault
    (tree_path store _) path _ old.files new.files (free _) h

-- trees that are stored are read alone
pub keeps_stored : (path : List ℕ) (readable : Bool) (rows : List LayerRow) (folders : List (List ℕ))
    → KeepsIn cached_world path (stores_folders readable rows folders)
unfolding stores_folders reads_trees
keeps_stored path readable rows folders old new result h = keeps_reads path _ _ _ _ old.world new.world h.read h.reads

pub keeps_puts : (path store : List ℕ) (tree : Node)
    → ((digest : List ℕ) → is_free (touched (tree_path store digest)) path ≡ true)
    → Preserves path (puts_tree store tree)
unfolding puts_tree
keeps_puts path store tree free old new result h = keeps_same path old new h.runs
    (put_left path store tree old new result free h.leaves)

pub keeps_reads_tree : (path folder : List ℕ) → Preserves path (reads_tree folder)
unfolding reads_tree
keeps_reads_tree path folder = keeps_reads path _ _ _ _
