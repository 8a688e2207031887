-- What spawners made of some jobs: the numbers that each was dealt, and the runs that came of them.
use Rattle.std.specs.Prelude.{◌≡◌, ℕ, ◌+◌, ◌≤◌, List, [], ◌∷◌, ◌++◌, length, map, slice_get}
use Rattle.std.specs.List.{filter_map}
use Rattle.cnb_world.specs.Runs.{Ran}
use Rattle.cnb_world.specs.declared.child.DetectJob.{DetectJob}
use Rattle.cnb_world.specs.declared.child.Probed.{Probed}
use Rattle.ticket_pool.specs.Numbers.{weigh, same, upto, IsAscending}
use Rattle.ticket_pool.specs.Replay.{IsRound}

-- the jobs, each with its answer
abbrev pub recorded : List DetectJob → List Probed → List Ran
recorded [] answers = []
recorded (job ∷ jobs) [] = []
recorded (job ∷ jobs) (probed ∷ answers) = record { job = job; probed = probed } ∷ recorded jobs answers

-- the elements of these numbers
abbrev pub at_numbers : {X : Type 0} → List X → List ℕ → List X
at_numbers xs numbers = filter_map (λ number. slice_get xs number) numbers

-- the weights of the numbers in some lists, added up
abbrev pub deal_weighs : (ℕ → ℕ) → List (List ℕ) → ℕ
deal_weighs h [] = 0
deal_weighs h (numbers ∷ deal) = weigh h numbers + deal_weighs h deal

-- the lists share no number, have none twice, and together are the numbers below n
abbrev pub IsDealOf : ℕ → List (List ℕ) → Type 0
IsDealOf n deal = (h : ℕ → ℕ) → deal_weighs h deal ≡ weigh h (upto n)

-- no number stands twice in the lists
abbrev pub NoneTwice : List (List ℕ) → Type 0
NoneTwice deal = (x : ℕ) → deal_weighs (same x) deal ≤ 1

-- each spawner's new runs are the rows of a list of numbers, which ascend
abbrev pub Shares : {S : Type 0} → (S → List Ran) → List Ran → List S → List S → List (List ℕ) → Type 0
Shares runs rows [] [] [] = Unit {0}
Shares runs rows (old ∷ olds) (new ∷ news) (numbers ∷ deal) =
    (runs new ≡ runs old ++ at_numbers rows numbers) × IsAscending numbers × Shares runs rows olds news deal
Shares runs rows _ _ _ = ⊥

-- All jobs were run, each once, with these answers: the spawners were dealt the numbers of all jobs, and the deal is
-- a round.
pub record RanAll {S : Type 0} (runs : S → List Ran)
    (jobs : List DetectJob) (answers : List Probed) (olds news : List S) : Type 0 where
  pub deal : List (List ℕ)
  pub shares : Shares runs (recorded jobs answers) olds news deal
  pub whole : IsDealOf (length jobs) deal
  pub round : IsRound (length jobs) deal answers

-- a spawner's new runs are of the jobs of these numbers
pub record RanJobs {S : Type 0} (runs : S → List Ran)
    (jobs : List DetectJob) (old new : S) (numbers : List ℕ) : Type 0 where
  pub more : List Ran
  pub grown : runs new ≡ runs old ++ more
  pub ran : map (λ row. row.job) more ≡ at_numbers jobs numbers

-- each spawner's new runs are of the jobs of a list of numbers, which ascend
abbrev pub SharesJobs : {S : Type 0} → (S → List Ran) → List DetectJob → List S → List S → List (List ℕ) → Type 0
SharesJobs runs jobs [] [] [] = Unit {0}
SharesJobs runs jobs (old ∷ olds) (new ∷ news) (numbers ∷ deal) =
    RanJobs runs jobs old new numbers × IsAscending numbers × SharesJobs runs jobs olds news deal
SharesJobs runs jobs _ _ _ = ⊥

-- some of the jobs were run, each at most once
pub record RanSome {S : Type 0} (runs : S → List Ran) (jobs : List DetectJob) (olds news : List S) : Type 0 where
  pub deal : List (List ℕ)
  pub shares : SharesJobs runs jobs olds news deal
  pub once : NoneTwice deal
