-- The image's document that `create` wrote stands, and can be read.
use Rattle.std.proofs.Common.{subst, sym, ℕ, List, Result, Ok, Err}
use Rattle.std.specs.Prelude.{OnOk}
use Rattle.cnb_words.specs.declared.create.CreateWords.{CreateWords}
use Rattle.cnb_world.specs.declared.env.Variable.{Variable}
use Rattle.image_files.specs.Images.{ImageStands}
use Rattle.image_files.proofs.StandLaws.{image_stands}
use Rattle.shelf_set.specs.Caches.{WorldAndCaches, in_world}
use Rattle.steps.specs.Steps.{◌>>=◌, map_err, yields}
use Rattle.cnb_create.specs.Creates.{creates, leaves_image}
use Rattle.cnb_create.specs.Surroundings.{Surroundings, caches_beside, over_caches}
use Rattle.cnb_create.specs.declared.phases.Phases.{Phases}
use Rattle.cnb_create.specs.declared.refusal.CreateRefusal.{CreateRefusal}

left_stands : (words : CreateWords) (phases : Phases) (text : List ℕ) (old new : WorldAndCaches)
    → leaves_image words phases old (Ok text) new → ImageStands words.store words.image new.world.files
unfolding leaves_image ◌>>=◌ map_err yields in_world
left_stands words phases text old new (
  exported,
  m1,
  exporting,
  (told, m2, telling, (done, m3, (write, same), (is, end))),
) =
    subst (λ (s : WorldAndCaches). ImageStands words.store words.image s.world.files) (sym end)
    (image_stands words.store words.image exported.image m2.world m3.world done write)

pub created_stands : (words : CreateWords) (env : List Variable) (result : Result (List ℕ) CreateRefusal)
    (old new : Surroundings) → creates words env old result new
    → OnOk result (ImageStands words.store words.image new.world.files)
unfolding creates ◌>>=◌ over_caches
created_stands words env (Err refusal) old new h = tt
created_stands words env (Ok text) old new (
  analyzed,
  m1,
  looking,
  (choice, m2, choosing, (restored, m3, restoring, (built, m4, building, (leaving, same)))),
) =
    left_stands words _ text (caches_beside m4) (caches_beside new) leaving
