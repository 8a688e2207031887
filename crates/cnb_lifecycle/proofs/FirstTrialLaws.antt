-- Who was asked, and what was chosen, follows from the steps of a command, and so it is what an end of it says.
use Rattle.std.proofs.Common.{◌≡◌, ap, ℕ, List, Option, Some, None, Result, Ok, Err, true}
use Rattle.std.specs.Prelude.{IfSome, IsTrue}
use Rattle.cnb_create.specs.Surroundings.{Surroundings, over_caches, over_world}
use Rattle.cnb_create.proofs.HeadlineLaws.{comes_to_image, decides_image}
use Rattle.cnb_detect.proofs.OutcomeLaws.{comes_to}
use Rattle.cnb_detect.specs.declared.target.TargetSource.TheVariants.{Document}
use Rattle.cnb_record.proofs.RecordLaws.{comes_to_recorded, decides_recorded}
use Rattle.cnb_words.specs.RecordPath.{is_record_path}
use Rattle.cnb_words.specs.declared.choice.ChoiceWords.{ChoiceWords}
use Rattle.cnb_words.specs.declared.words.Asked.{Asked}
use Rattle.cnb_words.specs.declared.words.Asked.TheVariants.{Detect, Analyze, Restore, Build, Export, Create, Rebase}
use Rattle.cnb_words.specs.declared.words.Asked.TheVariants.{Base, Unpack, Show, Prune, Verify, Check, Drill, Launch}
use Rattle.cnb_world.specs.Path.{is_path}
use Rattle.cnb_world.specs.declared.env.Variable.{Variable}
use Rattle.shelf_set.specs.ShelfState.{ShelfState}
use Rattle.steps.specs.Outside.{Outside}
use Rattle.steps.specs.Steps.{gives}
use Rattle.cnb_lifecycle.specs.declared.answer.Answer.TheVariants.{Printed}
use Rattle.cnb_lifecycle.specs.declared.refusal.Refusal.{Refusal}
use Rattle.cnb_lifecycle.specs.declared.status.Status.{Status}
use Rattle.cnb_lifecycle.specs.Commands.{On, after_words, asked_of, does}
use Rattle.cnb_lifecycle.specs.Detecting.{detects_into}
use Rattle.cnb_lifecycle.specs.Ends.{Ends}
use Rattle.cnb_lifecycle.specs.Faults.{of_detect}
use Rattle.cnb_lifecycle.specs.FirstTrial.{decides, decides_into}
use Rattle.cnb_lifecycle.specs.PhaseFaults.{of_create}
use Rattle.cnb_lifecycle.proofs.OutcomeLaws.{Come, ends_so, outside_so, told_so, words_so}
use Rattle.cnb_lifecycle.proofs.WordLaws.{HasPaths}

into_so : (path : Option (List ℕ)) (choice : ChoiceWords) (env : List Variable) → is_path choice.work ≡ true
    → IfSome path (λ p. IsTrue (is_record_path choice.work p))
    → Come (detects_into path choice env) (decides_into path choice env)
into_so None choice env work free old new end did = (comes_to Document choice env work old new end did).first
into_so (Some path) choice env work free old new end did = decides_recorded Document choice path env work free old new
    end (comes_to_recorded Document choice path env work free old new end did)

decides_so : (asked : Asked) (env : List Variable) → HasPaths asked → Come (does asked env) (decides asked env)
unfolding over_world over_caches gives
decides_so (Detect options) env paths = outside_so _ _ (told_so Printed of_detect _ _
    (into_so options.proof_path options.choice env paths.0 paths.1))
decides_so (Create options) env paths = told_so Printed of_create _ _ (λ old new result did. decides_image options env
    old new result (comes_to_image options env paths.0 old new result did))
decides_so (Analyze options) env paths = λ old new result did. did.1
decides_so (Restore options) env paths = λ old new result did. did.1
decides_so (Build options) env paths = λ old new result did. did.1
decides_so (Export options) env paths = λ old new result did. did.1
decides_so (Rebase options) env paths = λ old new result did. did.1
decides_so (Base options) env paths = λ old new result did. did.1
decides_so (Unpack options) env paths = λ old new result did. did.1
decides_so (Show options) env paths = λ old new result did. did.1
decides_so (Prune options) env paths = λ old new result did. did.1
decides_so (Verify options) env paths = λ old new result did. did.1
decides_so (Check options) env paths = λ old new result did. did.1
decides_so (Drill options) env paths = λ old new result did. ap (λ s. s.spawners) did.0
decides_so (Launch options) env paths = λ old new result did. did.1

pub first_trial : (asked : Result Asked Refusal) (env : List Variable) (old : Surroundings) (outside : Outside)
    (shelves : List ShelfState) (status : Status) (taken_old taken_new : Option (List ℕ))
    → On (asked_of asked) HasPaths → On (asked_of asked) (λ command. Ends
    (after_words (does command env)) old outside shelves status taken_old taken_new)
    → On (asked_of asked) (λ command. Ends (after_words (decides command env)) old outside shelves status taken_old
    taken_new)
first_trial (Err refusal) env old outside shelves status taken_old taken_new paths h = tt
first_trial (Ok command) env old outside shelves status taken_old taken_new paths h =
    ends_so _ _ old outside shelves status taken_old taken_new (words_so _ _ (decides_so command env paths)) h
