-- The end of the command that was asked for.
use Rattle.std.proofs.Common.{◌≡◌, ◌∙◌, refl, sym, ap, subst, ℕ, List, true, false, Option, Some, None, Result, Ok, Err}
use Rattle.std.specs.Prelude.{IfErr, IfOk}
use Rattle.cnb_world.specs.declared.env.Variable.{Variable}
use Rattle.cnb_words.specs.declared.words.Asked.{Asked}
use Rattle.steps.specs.Causes.{CountsFiles, IsAnswer, IsGivenCause}
use Rattle.steps.proofs.ReadingLaws.{where_map}
use Rattle.steps.specs.Outside.{Outside, Seen, SpawnerSeen, faults_of}
use Rattle.steps.specs.Steps.{gives}
use Rattle.steps.proofs.StepLemmas.{ended, given, given_fault, no_memory, went}
use Rattle.shelf_set.specs.Caches.{Caches, WorldAndCaches, caches_of, world_and_caches}
use Rattle.shelf_set.specs.ShelfState.{ShelfState}
use Rattle.cnb_lifecycle.specs.declared.answer.Answer.{Answer}
use Rattle.cnb_lifecycle.specs.declared.refusal.Refusal.{Refusal}
use Rattle.cnb_lifecycle.specs.declared.refusal.Refusal.TheVariants.{Memory}
use Rattle.cnb_lifecycle.specs.declared.status.Status.{Status}
use Rattle.cnb_lifecycle.specs.Commands.{On, after_words, asked_of, does, refusal_of, uses_caches}
use Rattle.cnb_lifecycle.specs.Ends.{CountsChild, Ends}
use Rattle.cnb_lifecycle.specs.Faults.{cause_of}
use Rattle.cnb_lifecycle.specs.Printing.{Finishes}
use Rattle.cnb_create.specs.Surroundings.{Surroundings, over_caches, over_outside, over_world, surroundings}

abbrev pub Step : Type 1
Step = Surroundings → Result Answer Refusal → Surroundings → Type 0

-- what is left, with some of the shelves standing
abbrev pub Did : Step → Surroundings → Result Answer Refusal → Outside → List ShelfState → Type 0
Did step old result outside shelves = (standing : List ℕ)
    × step old result (surroundings outside (caches_of shelves standing))

-- for every command
pub ends : {A : Type 0} (o : Option A) (steps : A → Step) (old : Surroundings) (outside : Outside)
    (shelves : List ShelfState) (end : Result Answer Refusal) (status : Status)
    (taken_old taken_new : Option (List ℕ))
    → On o (λ asked. Did (steps asked) old end outside shelves)
    → CountsFiles cause_of end old.world.file_faults outside.world.file_faults
    → CountsChild end old.world.child_faults outside.world.child_faults (faults_of old.spawners)
    (faults_of outside.spawners) → Finishes end status taken_old taken_new
    → On o (λ asked. Ends (steps asked) old outside shelves status taken_old taken_new)
ends None steps old outside shelves end status taken_old taken_new did files children finishes = tt
ends (Some asked) steps old outside shelves end status taken_old taken_new (standing, did) files children finishes =
    record { end = end; standing = standing; did = did; files = files; children = children; finishes = finishes }

-- the same where all shelves stand
pub stood : {A : Type 0} (o : Option A) (steps : A → Step) (old : Surroundings) (outside : Outside)
    (shelves : List ShelfState) (standing : List ℕ) (end : Result Answer Refusal)
    → On o (λ asked. steps asked old end (surroundings outside (caches_of shelves standing)))
    → On o (λ asked. Did (steps asked) old end outside shelves)
stood None steps old outside shelves standing end did = tt
stood (Some asked) steps old outside shelves standing end did = (standing, did)

abbrev no_command : Refusal → Result Asked Refusal
no_command refusal = Err refusal

abbrev no_answer : Refusal → Result Answer Refusal
no_answer refusal = Err refusal

same_refusal : (want refusal : Refusal) → no_command want ≡ no_command refusal → no_answer want ≡ no_answer refusal
same_refusal want refusal h = let same : want ≡ refusal = cc in ap no_answer same

-- the words were refused, or memory ran out, before anything was done
pub early_refused : (asked : Result Asked Refusal) (refusal : Refusal) (old : Surroundings)
    → IsAnswer {A = Asked} cause_of (Err refusal) asked → IsGivenCause (cause_of refusal)
    → On (refusal_of asked) (λ want. gives {A = Answer} cause_of (Err want) old (Err refusal) old)
early_refused (Ok asked) refusal old answer cause = tt
early_refused (Err want) refusal old answer cause =
    given_fault cause_of (Err want) old refusal (where_map (cause_of refusal)
    (no_command want ≡ no_command refusal) (no_answer want ≡ no_answer refusal)
    (same_refusal want refusal) answer) cause

abbrev nothing_read : Refusal → Result (Unit {0}) Refusal
nothing_read refusal = Err refusal

no_such_end : (asked : Asked) (refusal : Refusal) → ◌≡◌ {A = Result Asked Refusal} (Ok asked) (Err refusal)
    → ◌≡◌ {A = Result (Unit {0}) Refusal} (Ok tt) (Err refusal)
no_such_end asked refusal h = absurd (cc)

-- memory ran out while the words of a command were read
unread : (asked : Asked) (step : Step) (refusal : Refusal) (old : Surroundings)
    → IsAnswer {A = Asked} cause_of (Err refusal) (Ok asked) → IsGivenCause (cause_of refusal)
    → after_words step old (Err refusal) old
unread asked step refusal old answer cause =
    ended _ _ _ _ _ (given_fault cause_of (Ok tt) old refusal
    (where_map (cause_of refusal) (◌≡◌ {A = Result Asked Refusal} (Ok asked) (Err refusal))
    (◌≡◌ {A = Result (Unit {0}) Refusal} (Ok tt) (Err refusal)) (no_such_end asked refusal) answer) cause)

pub early_does : (asked : Result Asked Refusal) (env : List Variable) (refusal : Refusal) (outside : Outside)
    (shelves : List ShelfState) (all : List ℕ) → IsAnswer {A = Asked} cause_of (Err refusal) asked
    → IsGivenCause (cause_of refusal)
    → On (asked_of asked) (λ command. Did (after_words (does command env))
    (surroundings outside (caches_of shelves all)) (Err refusal) outside shelves)
early_does (Ok command) env refusal outside shelves all answer cause =
    (all, unread command (does command env) refusal _ answer cause)
early_does (Err want) env refusal outside shelves all answer cause = tt

pub early_idle : (asked : Result Asked Refusal) (P Q R : Type 0) → P → Q → R
    → On (refusal_of asked) (λ refusal. P × Q × R)
early_idle (Ok asked) P Q R p q r = tt
early_idle (Err refusal) P Q R p q r = (p, q, r)

-- words that ask for a command aren't refused
pub not_refused : (asked : Result Asked Refusal) (command : Asked) (P : Refusal → Type 0) → asked ≡ Ok command
    → On (refusal_of asked) P
not_refused asked command P is = subst (λ a. On (refusal_of a) P) (sym is) tt

-- the words were read, and the command did its steps
read_then : (step : Step) (old new : Surroundings) (result : Result Answer Refusal) → step old result new
    → after_words step old result new
read_then step old new result did = went (gives {A = Unit {0}} cause_of (Ok tt)) (λ read. step) _ _ _ tt result
    (given cause_of (Ok tt) old tt refl) did

-- all shelves stood when the command began
module _ (places all : List ℕ) (stand : places ≡ all) (outside after : Outside) (shelves left : List ShelfState)
    (result : Result Answer Refusal) where
  abbrev pub before : List ℕ → Surroundings
  before numbers = surroundings outside (caches_of shelves numbers)

  begun_so : (step : Step) → Did step (before places) result after left
      → Did (after_words step) (before all) result after left
  begun_so step did = (
    did.0,
    read_then step (before all) _ result (subst
        (λ (numbers : List ℕ). step (before numbers) result (surroundings after (caches_of left did.0))) stand
        did.1),
  )

  pub begun : (asked : Result Asked Refusal) (command : Asked) (env : List Variable)
      → asked ≡ Ok command → Did (does command env) (before places) result after left
      → On (asked_of asked) (λ a. Did (after_words (does a env)) (before all) result after left)
  begun asked command env is did =
      subst (λ a. On (asked_of a) (λ c. Did (after_words (does c env)) (before all) result after left)) (sym is)
      (begun_so (does command env) did)

-- steps over the world and the spawners leave the caches
pub lifted_outside : (step : Outside → Result Answer Refusal → Outside → Type 0) (old new : Outside)
    (caches : Caches) (result : Result Answer Refusal) → step old result new
    → over_outside step (surroundings old caches) result (surroundings new caches)
unfolding over_outside
lifted_outside step old new caches result h = (h, refl)

-- steps over the world leave all else
pub lifted_world : (step : Seen → Result Answer Refusal → Seen → Type 0) (old new : Seen)
    (spawners : List SpawnerSeen) (caches : Caches) (result : Result Answer Refusal) → step old result new
    → over_world step (record { world = old; spawners = spawners; caches = caches }) result
    (record { world = new; spawners = spawners; caches = caches })
unfolding over_world
lifted_world step old new spawners caches result h = (h, refl, refl)

-- steps over the world and the caches leave the spawners
pub lifted_caches : (step : WorldAndCaches → Result Answer Refusal → WorldAndCaches → Type 0) (old new : Seen)
    (spawners : List SpawnerSeen) (caches left : Caches) (result : Result Answer Refusal)
    → step (world_and_caches old caches) result (world_and_caches new left)
    → over_caches step (record { world = old; spawners = spawners; caches = caches }) result
    (record { world = new; spawners = spawners; caches = left })
unfolding over_caches
lifted_caches step old new spawners caches left result h = (h, refl)

-- caches that were taken out of a list of shelves
pub over_taken : {E A : Type 0} (step : WorldAndCaches → Result A E → WorldAndCaches → Type 0) (world : Seen)
    (taken caches : Caches) (result : Result A E) (new : WorldAndCaches) → taken ≡ caches
    → step (world_and_caches world taken) result new → step (world_and_caches world caches) result new
over_taken step world taken caches result new same h = subst (λ c. step (world_and_caches world c) result new) same h

pub all_taken : {E A : Type 0} (step : Surroundings → Result A E → Surroundings → Type 0) (outside : Outside)
    (taken caches : Caches) (result : Result A E) (new : Surroundings) → taken ≡ caches
    → step (surroundings outside taken) result new → step (surroundings outside caches) result new
all_taken step outside taken caches result new same h = subst (λ c. step (surroundings outside c) result new) same h

-- the command that was asked for did its steps
pub arm : (asked command : Asked) (env : List Variable) (old new : Surroundings) (result : Result Answer Refusal)
    → asked ≡ command → does command env old result new → does asked env old result new
arm asked command env old new result is h = subst (λ a. does a env old result new) (sym is) h

-- an answer that is known, or want of memory
pub known : (want : Answer) (result : Result Answer Refusal) (old : Surroundings)
    → IfOk result (λ answer. answer ≡ want) → IfErr result (λ refusal. refusal ≡ Memory)
    → gives cause_of (Ok want) old result old
known want (Ok answer) old ok err = given cause_of (Ok want) old answer (ap Ok (sym ok))
known want (Err refusal) old ok err = no_memory cause_of (Ok want) old refusal (ap cause_of err)

-- a command that uses caches may change them
pub busy : (asked command : Asked) (X : Type 0) → asked ≡ command → uses_caches command ≡ true
    → (uses_caches asked ≡ false) → X
busy asked command X is uses quiet = let never : true ≡ false = sym uses ∙ (ap uses_caches (sym is) ∙ quiet)
    in absurd (cc)

-- what holds of every command
pub early_shelves : (asked : Result Asked Refusal) (X : Type 0) → X
    → On (asked_of asked) (λ command. (uses_caches command ≡ false) → X)
early_shelves (Ok command) X x = λ (quiet : uses_caches command ≡ false). x
early_shelves (Err refusal) X x = tt

pub kept_shelves : (asked : Result Asked Refusal) (command : Asked) (X : Type 0) → asked ≡ Ok command
    → ((uses_caches command ≡ false) → X) → On (asked_of asked) (λ c. (uses_caches c ≡ false) → X)
kept_shelves asked command X is h = subst (λ a. On (asked_of a) (λ c. (uses_caches c ≡ false) → X)) (sym is) h
