-- What `detect` and `create` come to follows from their steps, and so it is what an end of theirs comes to.
use Rattle.std.proofs.Common.{◌≡◌, ℕ, List, Option, Some, None, Result, Ok, Err, true, inl, inr}
use Rattle.std.specs.Prelude.{IfSome, IsTrue}
use Rattle.cnb_create.specs.Headline.{ComesToImage}
use Rattle.cnb_create.specs.Surroundings.{Surroundings, over_outside}
use Rattle.cnb_create.proofs.HeadlineLaws.{comes_to_image}
use Rattle.cnb_detect.proofs.OutcomeLaws.{comes_to}
use Rattle.cnb_detect.specs.declared.target.TargetSource.TheVariants.{Document}
use Rattle.cnb_record.proofs.RecordLaws.{comes_to_recorded}
use Rattle.cnb_words.specs.RecordPath.{is_record_path}
use Rattle.cnb_words.specs.declared.choice.ChoiceWords.{ChoiceWords}
use Rattle.cnb_words.specs.declared.words.Asked.{Asked}
use Rattle.cnb_words.specs.declared.words.Asked.TheVariants.{Detect, Analyze, Restore, Build, Export, Create, Rebase}
use Rattle.cnb_words.specs.declared.words.Asked.TheVariants.{Base, Unpack, Show, Prune, Verify, Check, Drill, Launch}
use Rattle.cnb_world.specs.Path.{is_path}
use Rattle.cnb_world.specs.declared.env.Variable.{Variable}
use Rattle.shelf_set.specs.ShelfState.{ShelfState}
use Rattle.steps.specs.Outside.{Outside}
use Rattle.steps.specs.Steps.{◌>>=◌}
use Rattle.cnb_lifecycle.specs.declared.answer.Answer.{Answer}
use Rattle.cnb_lifecycle.specs.declared.answer.Answer.TheVariants.{Printed}
use Rattle.cnb_lifecycle.specs.declared.refusal.Refusal.{Refusal}
use Rattle.cnb_lifecycle.specs.declared.status.Status.{Status}
use Rattle.cnb_lifecycle.specs.Commands.{On, after_words, asked_of, does, options_in, options_of_create}
use Rattle.cnb_lifecycle.specs.Commands.{options_of_detect}
use Rattle.cnb_lifecycle.specs.Detecting.{ComesToWords, comes_into, detects_into}
use Rattle.cnb_lifecycle.specs.Ends.{Ends}
use Rattle.cnb_lifecycle.specs.Faults.{of_detect}
use Rattle.cnb_lifecycle.specs.PhaseFaults.{of_create}
use Rattle.cnb_lifecycle.specs.Telling.{tells}
use Rattle.cnb_lifecycle.proofs.EndLemmas.{Step}
use Rattle.cnb_lifecycle.proofs.WordLaws.{HasPaths}

-- steps that come to others
abbrev pub Come : {S E A : Type 0} → (S → Result A E → S → Type 0) → (S → Result A E → S → Type 0) → Type 0
Come {S} {E} {A} one other = (old new : S) (result : Result A E) → one old result new → other old result new

pub told_so : {S A F : Type 0} (answer : A → Answer) (refusal : F → Refusal) (one other : S → Result A F → S → Type 0)
    → Come one other → Come (tells answer refusal one) (tells answer refusal other)
unfolding tells
told_so answer refusal one other come old new (Ok told) (value, is, h) = (value, is, come old new (Ok value) h)
told_so answer refusal one other come old new (Err told) (fault, is, h) = (fault, is, come old new (Err fault) h)

pub outside_so : (one other : Outside → Result Answer Refusal → Outside → Type 0) → Come one other
    → Come (over_outside one) (over_outside other)
unfolding over_outside
outside_so one other come old new result (h, caches) = (come _ _ result h, caches)

pub words_so : (one other : Step) → Come one other → Come (after_words one) (after_words other)
unfolding ◌>>=◌
words_so one other come old new (Ok answer) (read, mid, given, h) = (read, mid, given, come mid new (Ok answer) h)
words_so one other come old new (Err refusal) (inl given) = inl given
words_so one other come old new (Err refusal) (inr (read, mid, given, h)) = inr
    (read, mid, given, come mid new (Err refusal) h)

pub ends_so : (one other : Step) (old : Surroundings) (outside : Outside) (shelves : List ShelfState)
    (status : Status) (taken_old taken_new : Option (List ℕ)) → Come one other
    → Ends one old outside shelves status taken_old taken_new
    → Ends other old outside shelves status taken_old taken_new
ends_so one other old outside shelves status taken_old taken_new come h =
    record {
      end = h.end;
      standing = h.standing;
      did = come old _ h.end h.did;
      files = h.files;
      children =
          h.children;
      finishes = h.finishes;
    }

-- ---- detect

into_so : (path : Option (List ℕ)) (choice : ChoiceWords) (env : List Variable) → is_path choice.work ≡ true
    → IfSome path (λ p. IsTrue (is_record_path choice.work p))
    → Come (detects_into path choice env) (comes_into path choice env)
into_so None choice env work free old new end did = comes_to Document choice env work old new end did
into_so (Some path) choice env work free old new end did = comes_to_recorded Document choice path env work free
    old new end did

pub detect_outcome : (asked : Result Asked Refusal) (env : List Variable) (old : Surroundings) (outside : Outside)
    (shelves : List ShelfState) (status : Status) (taken_old taken_new : Option (List ℕ))
    → On (asked_of asked) HasPaths → On (asked_of asked) (λ command. Ends
    (after_words (does command env)) old outside shelves status taken_old taken_new)
    → On (options_in options_of_detect asked) (λ options. Ends
    (after_words (over_outside (tells Printed of_detect (ComesToWords options env)))) old outside shelves
    status taken_old taken_new)
detect_outcome (Err refusal) env old outside shelves status taken_old taken_new paths h = tt
detect_outcome (Ok (Detect options)) env old outside shelves status taken_old taken_new paths h =
    ends_so _ _ old outside shelves status taken_old taken_new
    (words_so _ _ (outside_so _ _ (told_so Printed of_detect _ _
    (into_so options.proof_path options.choice env paths.0 paths.1)))) h
detect_outcome (Ok (Analyze options)) env old outside shelves status taken_old taken_new paths h = tt
detect_outcome (Ok (Restore options)) env old outside shelves status taken_old taken_new paths h = tt
detect_outcome (Ok (Build options)) env old outside shelves status taken_old taken_new paths h = tt
detect_outcome (Ok (Export options)) env old outside shelves status taken_old taken_new paths h = tt
detect_outcome (Ok (Create options)) env old outside shelves status taken_old taken_new paths h = tt
detect_outcome (Ok (Rebase options)) env old outside shelves status taken_old taken_new paths h = tt
detect_outcome (Ok (Base options)) env old outside shelves status taken_old taken_new paths h = tt
detect_outcome (Ok (Unpack options)) env old outside shelves status taken_old taken_new paths h = tt
detect_outcome (Ok (Show options)) env old outside shelves status taken_old taken_new paths h = tt
detect_outcome (Ok (Prune options)) env old outside shelves status taken_old taken_new paths h = tt
detect_outcome (Ok (Verify options)) env old outside shelves status taken_old taken_new paths h = tt
detect_outcome (Ok (Check options)) env old outside shelves status taken_old taken_new paths h = tt
detect_outcome (Ok (Drill options)) env old outside shelves status taken_old taken_new paths h = tt
detect_outcome (Ok (Launch options)) env old outside shelves status taken_old taken_new paths h = tt

-- ---- create

pub create_headline : (asked : Result Asked Refusal) (env : List Variable) (old : Surroundings)
    (outside : Outside) (shelves : List ShelfState) (status : Status) (taken_old taken_new : Option (List ℕ))
    → On (asked_of asked) HasPaths → On (asked_of asked) (λ command. Ends
    (after_words (does command env)) old outside shelves status taken_old taken_new)
    → On (options_in options_of_create asked) (λ options. Ends
    (after_words (tells Printed of_create (ComesToImage options env))) old outside shelves status taken_old
    taken_new)
create_headline (Err refusal) env old outside shelves status taken_old taken_new paths h = tt
create_headline (Ok (Create options)) env old outside shelves status taken_old taken_new paths h =
    ends_so _ _ old outside shelves status taken_old taken_new
    (words_so _ _ (told_so Printed of_create _ _ (comes_to_image options env paths.0))) h
create_headline (Ok (Detect options)) env old outside shelves status taken_old taken_new paths h = tt
create_headline (Ok (Analyze options)) env old outside shelves status taken_old taken_new paths h = tt
create_headline (Ok (Restore options)) env old outside shelves status taken_old taken_new paths h = tt
create_headline (Ok (Build options)) env old outside shelves status taken_old taken_new paths h = tt
create_headline (Ok (Export options)) env old outside shelves status taken_old taken_new paths h = tt
create_headline (Ok (Rebase options)) env old outside shelves status taken_old taken_new paths h = tt
create_headline (Ok (Base options)) env old outside shelves status taken_old taken_new paths h = tt
create_headline (Ok (Unpack options)) env old outside shelves status taken_old taken_new paths h = tt
create_headline (Ok (Show options)) env old outside shelves status taken_old taken_new paths h = tt
create_headline (Ok (Prune options)) env old outside shelves status taken_old taken_new paths h = tt
create_headline (Ok (Verify options)) env old outside shelves status taken_old taken_new paths h = tt
create_headline (Ok (Check options)) env old outside shelves status taken_old taken_new paths h = tt
create_headline (Ok (Drill options)) env old outside shelves status taken_old taken_new paths h = tt
create_headline (Ok (Launch options)) env old outside shelves status taken_old taken_new paths h = tt
