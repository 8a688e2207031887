-- Steps over a world and its caches: what holds of what is seen of the world, by what ended them.
use Rattle.std.proofs.Common.{◌≡◌, sym, subst, ℕ, Bool, List, Option, Some, None, Result, Ok, Err}
use Rattle.tree_canon.specs.declared.node.Node.{Node}
use Rattle.image_docs.specs.declared.layer_row.LayerRow.{LayerRow}
use Rattle.steps.specs.Causes.{Cause, FileFailed, ChildFailed, OutOfMemory, Decided, ended_by}
use Rattle.steps.specs.Steps.{reads}
use Rattle.tree_store.specs.declared.fault.StoreFault.{StoreFault}
use Rattle.steps.specs.Outside.{Seen}
use Rattle.steps.proofs.EndLaws.{Links, Obeys, Relation, Rests}
use Rattle.shelf_set.specs.CacheSteps.{gathers}
use Rattle.shelf_set.specs.Caches.{Caches, WorldAndCaches, in_caches, in_world}
use Rattle.shelf_set.specs.Caching.{StoresRead, reads_trees, stores_folders}
use Rattle.shelf_set.specs.Restoring.{restores_tree}
use Rattle.steps.specs.Counts.{FileCounts}
use Rattle.tree_store.specs.Answers as tree_store

-- a relation of worlds, whatever the caches are
abbrev pub BesideCaches : Relation Seen → Relation WorldAndCaches
BesideCaches R last old new = R last old.world new.world

pub beside_link : (R : Relation Seen) → Links R → Links (BesideCaches R)
beside_link R links last a b c h k = links last a.world b.world c.world h k

pub beside_rest : (R : Relation Seen) → Rests R → Rests (BesideCaches R)
beside_rest R rests = record {
  none = λ s. rests.none s.world;
  memory = λ s. rests.memory s.world;
  decided = λ s. rests.decided s.world;
}

pub obeys_in_world : {E A : Type 0} (R : Relation Seen) (cause_of : E → Cause)
    (step : Seen → Result A E → Seen → Type 0)
    → Obeys R cause_of step → Obeys (BesideCaches R) cause_of (in_world step)
unfolding in_world
obeys_in_world R cause_of step p old new result h = p old.world new.world result h.0

-- ---- what caches are refused for

-- it went well, or memory ran out
abbrev pub IsMemoryEnd : Option Cause → Type 0
IsMemoryEnd None = Unit {0}
IsMemoryEnd (Some (FileFailed path)) = ⊥
IsMemoryEnd (Some ChildFailed) = ⊥
IsMemoryEnd (Some OutOfMemory) = Unit {0}
IsMemoryEnd (Some Decided) = ⊥

-- a step over caches is refused for want of memory alone
abbrev pub WantsMemory : Relation Caches
WantsMemory last old new = IsMemoryEnd last

memory_end : (cause : Cause) → cause ≡ OutOfMemory → IsMemoryEnd (Some cause)
memory_end cause is = subst (λ (c : Cause). IsMemoryEnd (Some c)) (sym is) tt

pub gathers_ends : {E : Type 0} (cause_of : E → Cause) → Obeys WantsMemory cause_of (gathers cause_of)
unfolding gathers
gathers_ends cause_of old new (Ok gathered) h = tt
gathers_ends cause_of old new (Err fault) h = memory_end (cause_of fault) h.0

memory_rests : (R : Relation Seen) → Rests R → (last : Option Cause) (s : Seen) → IsMemoryEnd last → R last s s
memory_rests R rests None s h = rests.none s
memory_rests R rests (Some (FileFailed path)) s h = absurd h
memory_rests R rests (Some ChildFailed) s h = absurd h
memory_rests R rests (Some OutOfMemory) s h = rests.memory s
memory_rests R rests (Some Decided) s h = absurd h

-- steps over caches leave the world alone
pub obeys_in_caches : {E A : Type 0} (R : Relation Seen) (cause_of : E → Cause)
    (step : Caches → Result A E → Caches → Type 0)
    → Rests R → Obeys WantsMemory cause_of step → Obeys (BesideCaches R) cause_of (in_caches step)
unfolding in_caches
obeys_in_caches R cause_of step rests p old new (Ok value) h = subst (R None old.world) (sym h.1) (rests.none old.world)
obeys_in_caches R cause_of step rests p old new (Err fault) h =
    subst (R (Some (cause_of fault)) old.world) (sym h.1)
    (memory_rests R rests (Some (cause_of fault)) old.world (p old.caches new.caches (Err fault) h.0))

-- ---- trees that are restored and stored

pub restores_tree_counts : (digest root : List ℕ)
    → Obeys (BesideCaches FileCounts) tree_store.cause_of (restores_tree digest root)
unfolding restores_tree
restores_tree_counts digest root old new result h = h.counts

pub stores_folders_counts : (readable : Bool) (rows : List LayerRow) (folders : List (List ℕ))
    → Obeys (BesideCaches FileCounts) tree_store.cause_of (stores_folders readable rows folders)
unfolding stores_folders reads_trees reads
stores_folders_counts readable rows folders old new result h = by h.read result h.reads.counts h.stores
  where
    by : (read : Result (List Node) StoreFault) (result : Result (List ℕ) StoreFault)
        → FileCounts (ended_by tree_store.cause_of read) old.world new.world
        → StoresRead readable rows read result old.caches new.caches
        → FileCounts (ended_by tree_store.cause_of result) old.world new.world
    by (Ok trees) (Ok gone) counts h = counts
    by (Err refusal) (Err fault) counts h = subst
        (λ f. FileCounts (Some (tree_store.cause_of f)) old.world new.world) h.0 counts
    by (Ok trees) (Err fault) counts h = absurd h
    by (Err refusal) (Ok gone) counts h = absurd h
