-- A round of jobs: workers draw their numbers, and end each number with an answer.
use Rattle.std.specs.Prelude.{◌≡◌, ℕ, ◌+◌, ◌<◌, ◌==◌, nat_lt, if◌then◌else◌, Option, Some, None}
use Rattle.std.specs.Option.{option_map}
use Rattle.cnb_world.specs.declared.child.Probed.{Probed}
use Rattle.ticket_pool.specs.declared.round.Event.{Event}
use Rattle.ticket_pool.specs.declared.round.Event.TheVariants.{Draw, End}

-- the next number, the number that each worker holds, and the worker and answer of each number
pub record Round : Type 0 where
  pub next : ℕ
  pub held : ℕ → Option ℕ
  pub answers : ℕ → Option (ℕ × Probed)

-- f, but v at k
abbrev pub put : {A : Type 0} → (ℕ → A) → ℕ → A → ℕ → A
put f k v j = if j == k then v else f j

-- nothing is drawn yet
abbrev pub start : Round
start = record { next = 0; held = λ _. None; answers = λ _. None }

-- a worker takes the next number
abbrev pub draw : Round → ℕ → Round
draw round worker =
    record { next = round.next + 1; held = put round.held worker (Some round.next); answers = round.answers }

-- a worker gives a number its answer
abbrev pub give : Round → ℕ → ℕ → Probed → Round
give round number worker probed =
    record {
      next = round.next;
      held = put round.held worker None;
      answers = put round.answers number
          (Some (worker, probed));
    }

-- a worker gives its answer to the number that it holds
abbrev pub end : Option ℕ → Round → ℕ → Probed → Round
end None round worker probed = round
end (Some number) round worker probed = give round number worker probed

-- the round after an event
abbrev pub after : ℕ → Round → Event → Round
after jobs round (Draw worker) = if nat_lt round.next jobs then draw round worker else round
after jobs round (End worker probed) = end (round.held worker) round worker probed

-- a worker draws where it holds nothing, and ends where it holds a number
abbrev pub IsLawful : ℕ → Round → Event → Type 0
IsLawful workers round (Draw worker) = (worker < workers) × (round.held worker ≡ None)
IsLawful workers round (End worker probed) = (number : ℕ) × (round.held worker ≡ Some number)

-- the number that an event gives its worker
abbrev pub number_of : ℕ → Round → Event → Option ℕ
number_of jobs round (Draw worker) = if nat_lt round.next jobs then Some round.next else None
number_of jobs round (End worker probed) = round.held worker

-- the answer of a number
abbrev pub answer_of : Round → ℕ → Option Probed
answer_of round number = option_map (λ given. given.1) (round.answers number)
