-- A deal of numbers to workers, played as a round: each number is drawn and ended in turn, by the worker that has it.
use Rattle.std.specs.Prelude.{◌≡◌, ℕ, suc, ◌<◌, ◌==◌, nat_le, if◌then◌else◌, List, [], ◌∷◌, ◌++◌, length, slice_get}
use Rattle.std.specs.Prelude.{unwrap_or, Option, Some, None}
use Rattle.std.specs.List.{filter_map}
use Rattle.std.specs.Option.{option_map}
use Rattle.cnb_world.specs.declared.child.Probed.{Probed}
use Rattle.ticket_pool.specs.declared.round.Event.{Event}
use Rattle.ticket_pool.specs.declared.round.Event.TheVariants.{Draw, End}
use Rattle.ticket_pool.specs.Law.{AreLawful, IsOver, after_all}
use Rattle.ticket_pool.specs.Numbers.{weigh, same}
use Rattle.ticket_pool.specs.Round.{Round, start, after}

-- the worker that has n: the place of the first list with it
abbrev pub owner_of : List (List ℕ) → ℕ → ℕ
owner_of [] n = 0
owner_of (numbers ∷ deal) n = if nat_le 1 (weigh (same n) numbers) then 0 else suc (owner_of deal n)

-- for each number from n on, its draw and then its end with its answer
abbrev pub replay : (ℕ → ℕ) → ℕ → List Probed → List Event
replay owner n [] = []
replay owner n (probed ∷ answers) = Draw (owner n) ∷ End (owner n) probed ∷ replay owner (suc n) answers

abbrev pub numbered : Option ℕ → Probed → List (ℕ × Probed)
numbered None probed = []
numbered (Some number) probed = (number, probed) ∷ []

abbrev pub end_by : ℕ → Round → Event → List (ℕ × Probed)
end_by worker round (Draw by) = []
end_by worker round (End by probed) = if by == worker then numbered (round.held by) probed else []

-- what one worker ends, in order: each number with its answer
abbrev pub ends_by : ℕ → ℕ → Round → List Event → List (ℕ × Probed)
ends_by jobs worker round [] = []
ends_by jobs worker round (event ∷ events) =
    end_by worker round event ++ ends_by jobs worker (after jobs round event) events

abbrev pub numbers_of : List (List ℕ) → ℕ → List ℕ
numbers_of deal worker = unwrap_or (slice_get deal worker) []

-- these numbers, each with its answer
abbrev pub answers_at : List Probed → List ℕ → List (ℕ × Probed)
answers_at answers numbers = filter_map (λ n. option_map (λ probed. (n, probed)) (slice_get answers n)) numbers

-- The deal, played so, is a lawful round that is over. Its answers are these, each by the worker that has the number,
-- and each worker ends the numbers that it has, in their order.
pub record IsRound (jobs : ℕ) (deal : List (List ℕ)) (answers : List Probed) : Type 0 where
  pub lawful : AreLawful jobs (length deal) start (replay (owner_of deal) 0 answers)
  pub over : IsOver jobs (after_all jobs start (replay (owner_of deal) 0 answers))
  pub answered : (n : ℕ)
      → (after_all jobs start (replay (owner_of deal) 0 answers)).answers n
      ≡ option_map (λ probed. (owner_of deal n, probed)) (slice_get answers n)
  pub ended : (worker : ℕ) → worker < length deal
      → ends_by jobs worker start (replay (owner_of deal) 0 answers) ≡ answers_at answers (numbers_of deal worker)
