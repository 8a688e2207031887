-- The law of a round: each job has one answer, that of the worker that drew its number.
use Rattle.std.specs.Prelude.{◌≡◌, ℕ, ◌<◌, ◌==◌, nat_lt, if◌then◌else◌, List, [], ◌∷◌, ◌++◌, Option, Some, None}
use Rattle.cnb_world.specs.declared.child.Probed.{Probed}
use Rattle.ticket_pool.specs.declared.round.Event.{Event}
use Rattle.ticket_pool.specs.declared.round.Event.TheVariants.{Draw, End}
use Rattle.ticket_pool.specs.Round.{Round, start, after, IsLawful}

-- each event is lawful where it comes
abbrev pub AreLawful : ℕ → ℕ → Round → List Event → Type 0
AreLawful jobs workers round [] = Unit {0}
AreLawful jobs workers round (event ∷ events) =
    IsLawful workers round event × AreLawful jobs workers (after jobs round event) events

-- the round after some events
abbrev pub after_all : ℕ → Round → List Event → Round
after_all jobs round [] = round
after_all jobs round (event ∷ events) = after_all jobs (after jobs round event) events

-- every number is drawn, and none is held
abbrev pub IsOver : ℕ → Round → Type 0
IsOver jobs round = (round.next ≡ jobs) × ((worker : ℕ) → round.held worker ≡ None)

-- the worker that draws n by an event
abbrev pub drawn_by : ℕ → ℕ → Round → Event → List ℕ
drawn_by jobs n round (Draw worker) =
    if nat_lt round.next jobs then (if round.next == n then worker ∷ [] else []) else []
drawn_by jobs n round (End worker probed) = []

-- the workers that draw n, in order
abbrev pub draws : ℕ → ℕ → Round → List Event → List ℕ
draws jobs n round [] = []
draws jobs n round (event ∷ events) = drawn_by jobs n round event ++ draws jobs n (after jobs round event) events

abbrev pub given_to : ℕ → Option ℕ → ℕ → Probed → List (ℕ × Probed)
given_to n None worker probed = []
given_to n (Some number) worker probed = if number == n then (worker, probed) ∷ [] else []

-- the answer that n gets by an event, with its worker
abbrev pub ended_by : ℕ → Round → Event → List (ℕ × Probed)
ended_by n round (Draw worker) = []
ended_by n round (End worker probed) = given_to n (round.held worker) worker probed

-- the answers that n gets, each with its worker, in order
abbrev pub ends : ℕ → ℕ → Round → List Event → List (ℕ × Probed)
ends jobs n round [] = []
ends jobs n round (event ∷ events) = ended_by n round event ++ ends jobs n (after jobs round event) events

-- one worker draws n, once, and ends it, once; n has its answer
pub record HasOneAnswer (jobs n : ℕ) (events : List Event) : Type 0 where
  pub worker : ℕ
  pub probed : Probed
  pub drawn : draws jobs n start events ≡ worker ∷ []
  pub ended : ends jobs n start events ≡ (worker, probed) ∷ []
  pub answer : (after_all jobs start events).answers n ≡ Some (worker, probed)

-- so it is for each job, after lawful events that end the round
abbrev pub EachJobHasOneAnswer : Type 0
EachJobHasOneAnswer = (jobs workers : ℕ) (events : List Event)
    → AreLawful jobs workers start events → IsOver jobs (after_all jobs start events)
    → (n : ℕ) → n < jobs → HasOneAnswer jobs n events
