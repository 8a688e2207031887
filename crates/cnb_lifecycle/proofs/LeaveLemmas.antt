-- What stands where a command did its work.
use Rattle.std.proofs.Common.{ℕ, List, Option, Some, None, Result, Ok, Err}
use Rattle.cnb_world.specs.declared.env.Variable.{Variable}
use Rattle.cnb_words.specs.declared.words.Asked.{Asked}
use Rattle.cnb_words.specs.declared.words.Asked.TheVariants.{Detect, Analyze, Restore, Build, Export, Create, Rebase}
use Rattle.cnb_words.specs.declared.words.Asked.TheVariants.{Base, Unpack, Show, Prune, Verify, Check, Drill, Launch}
use Rattle.cnb_create.specs.Surroundings.{Surroundings, caches_beside, over_caches, over_world, surroundings}
use Rattle.cnb_create.proofs.StandLaws.{created_stands}
use Rattle.cnb_export.proofs.StandLaws.{exported_stands}
use Rattle.cnb_rebase.proofs.StandLaws.{based_stands, rebased_stands}
use Rattle.shelf_set.specs.Caches.{caches_of}
use Rattle.shelf_set.specs.ShelfState.{ShelfState}
use Rattle.steps.specs.Outside.{Outside}
use Rattle.steps.specs.Steps.{◌>>=◌}
use Rattle.cnb_lifecycle.specs.declared.answer.Answer.{Answer}
use Rattle.cnb_lifecycle.specs.declared.refusal.Refusal.{Refusal}
use Rattle.cnb_lifecycle.specs.declared.status.Status.{Status}
use Rattle.cnb_lifecycle.specs.declared.status.Status.TheVariants.{Done, Output, Refused, Launched}
use Rattle.cnb_lifecycle.specs.Commands.{On, after_words, does}
use Rattle.cnb_lifecycle.specs.Ends.{Ends}
use Rattle.cnb_lifecycle.specs.Leaving.{LeavesImage, OnDone}
use Rattle.cnb_lifecycle.specs.Printing.{Finishes}
use Rattle.cnb_lifecycle.specs.Telling.{tells}

image_left : (asked : Asked) (env : List Variable) (answer : Answer) (old new : Surroundings)
    → does asked env old (Ok answer) new → LeavesImage asked new.world.files
unfolding over_caches over_world tells
image_left (Export options) env answer old new ((text, is, steps), spawners) = exported_stands options text
    (caches_beside old) (caches_beside new) steps
image_left (Create options) env answer old new (text, is, steps) = created_stands options env (Ok text) old new steps
image_left (Rebase options) env answer old new ((text, is, steps), spawners, caches) = rebased_stands options
    (Ok text) old.world new.world steps
image_left (Base options) env answer old new ((text, is, steps), spawners, caches) = based_stands options text
    old.world new.world steps
image_left (Detect options) env answer old new h = tt
image_left (Analyze options) env answer old new h = tt
image_left (Restore options) env answer old new h = tt
image_left (Build options) env answer old new h = tt
image_left (Unpack options) env answer old new h = tt
image_left (Show options) env answer old new h = tt
image_left (Prune options) env answer old new h = tt
image_left (Verify options) env answer old new h = tt
image_left (Check options) env answer old new h = tt
image_left (Drill options) env answer old new h = tt
image_left (Launch options) env answer old new h = tt

left_behind_words : (asked : Asked) (env : List Variable) (end : Result Answer Refusal) (old new : Surroundings)
    (taken_old taken_new : Option (List ℕ)) → after_words (does asked env) old end new
    → Finishes end Done taken_old taken_new
    → LeavesImage asked new.world.files
unfolding ◌>>=◌
left_behind_words asked env (Ok answer) old new taken_old taken_new
    (read, mid, given, did) finishes = image_left asked env answer mid new did
left_behind_words asked env (Err refusal) old new taken_old taken_new did finishes = absurd finishes

left_by : (asked : Asked) (env : List Variable) (old : Surroundings) (outside : Outside)
    (shelves : List ShelfState) (status : Status) (taken_old taken_new : Option (List ℕ))
    → Ends (after_words (does asked env)) old outside shelves status taken_old taken_new
    → OnDone status (LeavesImage asked outside.world.files)
left_by asked env old outside shelves Done taken_old taken_new h = left_behind_words asked env h.end old
    (surroundings outside (caches_of shelves h.standing)) taken_old taken_new h.did h.finishes
left_by asked env old outside shelves Output taken_old taken_new h = tt
left_by asked env old outside shelves (Refused refusal) taken_old taken_new h = tt
left_by asked env old outside shelves (Launched code) taken_old taken_new h = tt

-- for every command
pub leaves_image : (o : Option Asked) (env : List Variable) (old : Surroundings) (outside : Outside)
    (shelves : List ShelfState) (status : Status) (taken_old taken_new : Option (List ℕ))
    → On o (λ asked. Ends (after_words (does asked env)) old outside shelves status taken_old taken_new)
    → On o (λ asked. OnDone status (LeavesImage asked outside.world.files))
leaves_image None env old outside shelves status taken_old taken_new h = tt
leaves_image (Some asked) env old outside shelves status taken_old taken_new h = left_by asked env old outside
    shelves status taken_old taken_new h
