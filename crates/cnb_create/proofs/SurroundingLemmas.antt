-- Steps over a part of what is seen, as steps over all of it.
use Rattle.std.proofs.Common.{◌≡◌, refl, subst, ℕ, length, List, Result}
use Rattle.cnb_restore.specs.declared.restored.Restored.{Restored}
use Rattle.cnb_words.specs.declared.create.CreateWords.{CreateWords}
use Rattle.image_docs.specs.declared.analyzed.Analyzed.{Analyzed}
use Rattle.run_docs.specs.declared.group.GroupRow.{GroupRow}
use Rattle.run_docs.specs.declared.plan.PlanEntry.{PlanEntry}
use Rattle.steps.specs.Outside.{Outside, Seen, SpawnerSeen}
use Rattle.shelf_set.specs.Caches.{Caches, WorldAndCaches}
use Rattle.cnb_create.specs.Creates.{leaves_image}
use Rattle.cnb_create.specs.declared.phases.Phases.{Phases}
use Rattle.cnb_create.specs.declared.refusal.CreateRefusal.{CreateRefusal}
use Rattle.cnb_create.specs.Surroundings.{over_caches, over_outside, over_world, surroundings}

pub with_world : {E A : Type 0} (step : Seen → Result A E → Seen → Type 0) (old new : Seen)
    (spawners : List SpawnerSeen) (caches : Caches) (result : Result A E) → step old result new
    → over_world step (record { world = old; spawners = spawners; caches = caches }) result
    (record { world = new; spawners = spawners; caches = caches })
unfolding over_world
with_world step old new spawners caches result h = (h, refl, refl)

pub with_outside : {E A : Type 0} (step : Outside → Result A E → Outside → Type 0) (old new : Outside)
    (caches : Caches) (result : Result A E) → step old result new
    → over_outside step (surroundings old caches) result (surroundings new caches)
unfolding over_outside
with_outside step old new caches result h = (h, refl)

pub with_caches : {E A : Type 0} (step : WorldAndCaches → Result A E → WorldAndCaches → Type 0)
    (old new : WorldAndCaches) (spawners : List SpawnerSeen) (result : Result A E) → step old result new
    → over_caches step (record { world = old.world; spawners = spawners; caches = old.caches }) result
    (record { world = new.world; spawners = spawners; caches = new.caches })
unfolding over_caches
with_caches step old new spawners result h = (h, refl)

abbrev with_plan : Analyzed → List GroupRow → Restored → List PlanEntry → Phases
with_plan analyzed group restored plan = record
    { analyzed = analyzed; group = group; entries = length plan; restored = restored }

-- two spellings of the plan whose entries are counted
pub leaves_as : (words : CreateWords) (analyzed : Analyzed) (group : List GroupRow) (restored : Restored)
    (plan want : List PlanEntry) (old : WorldAndCaches) (result : Result (List ℕ) CreateRefusal)
    (new : WorldAndCaches) → plan ≡ want
    → leaves_image words (with_plan analyzed group restored plan) old result new
    → leaves_image words (with_plan analyzed group restored want) old result new
leaves_as words analyzed group restored plan want old result new same h = subst
    (λ p. leaves_image words (with_plan analyzed group restored p) old result new) same h
