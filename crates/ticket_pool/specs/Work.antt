-- What workers did in a round: the answers in each one's list, and the numbers that their pass has drawn.
use Rattle.std.specs.Prelude.{◌≡◌, ℕ, ◌≤◌, nat_lt, if◌then◌else◌, List, [], ◌∷◌, ◌++◌, length, map, slice_get, Option}
use Rattle.std.specs.Prelude.{Result, IfOk}
use Rattle.std.specs.List.{AllByRecursion, AllZip, filter_map}
use Rattle.std.specs.Option.{option_map}
use Rattle.cnb_world.specs.Runs.{Ran}
use Rattle.cnb_world.specs.declared.child.DetectJob.{DetectJob}
use Rattle.cnb_world.specs.declared.child.Reply.{Reply}
use Rattle.ticket_pool.specs.Counts.{CountsPool}
use Rattle.ticket_pool.specs.Deal.{deal_weighs}
use Rattle.ticket_pool.specs.Numbers.{weigh, late_of, AllBelow, IsAscending}
use Rattle.ticket_pool.specs.Said.{RanAsSaid}
use Rattle.ticket_pool.specs.TicketRule.{IsWhole}
use Rattle.ticket_pool.specs.declared.answer.Answer.{Answer}
use Rattle.ticket_pool.specs.declared.fault.PoolFault.{PoolFault}
use Rattle.ticket_pool.specs.declared.rule.View.{View}

abbrev pub numbers : List Answer → List ℕ
numbers list = map (λ answer. answer.number) list

-- the runs of these answers
abbrev pub rows : List DetectJob → List Answer → List Ran
rows jobs list =
    filter_map (λ answer. option_map (λ job. record { job = job; probed = answer.probed })
    (slice_get jobs answer.number)) list

-- answers of jobs, their numbers ascending
abbrev pub IsDealt : ℕ → List Answer → Type 0
IsDealt jobs list = IsAscending (numbers list) × AllBelow jobs (numbers list)

abbrev pub AllDealt : ℕ → List (List Answer) → Type 0
AllDealt jobs lists = AllByRecursion (IsDealt jobs) lists

-- the weights of the numbers in some lists, added up
abbrev pub weighs : (ℕ → ℕ) → List (List Answer) → ℕ
weighs h lists = deal_weighs h (map numbers lists)

-- h of a job's number, and 0 of another
abbrev pub on_jobs : ℕ → (ℕ → ℕ) → ℕ → ℕ
on_jobs jobs h x = if nat_lt x jobs then h x else 0

-- a list that is empty, with room for all jobs
abbrev pub HasRoom : ℕ → List Answer → ℕ → Type 0
HasRoom jobs list capacity = (list ≡ []) × (jobs ≤ capacity)

-- each spawner's new runs are those of its list
abbrev pub RanLists : {S : Type 0} → (S → List Ran) → List DetectJob → List S → List S → List (List Answer) → Type 0
RanLists runs jobs [] [] [] = Unit {0}
RanLists runs jobs (old ∷ olds) (new ∷ news) (list ∷ lists) =
    (runs new ≡ runs old ++ rows jobs list) × IsDealt (length jobs) list × RanLists runs jobs olds news lists
RanLists runs jobs _ _ _ = ⊥

-- where no worker failed: each drew one number that is no job's, and the lists have all other numbers of the pass
pub record DrewAll (jobs workers : ℕ) (lists : List (List Answer)) (pass : View) : Type 0 where
  pub late : pass.late ≡ workers
  pub late_numbers : late_of jobs pass.drawn ≡ workers
  pub listed : (h : ℕ → ℕ) → weighs h lists ≡ weigh (on_jobs jobs h) pass.drawn

-- What workers with one pass did, of all those of a round: each spawner's new runs are those of its list, whose numbers
-- the pass has drawn.
pub record Worked {S : Type 0} (runs : S → List Ran) (says : S → Option (List Reply)) (faults : S → ℕ)
    (jobs : List DetectJob) (all : ℕ) (olds news : List S) (lists : List (List Answer)) (pass : View)
    (end : Result (Unit {0}) PoolFault) : Type 0 where
  pub ran : RanLists runs jobs olds news lists
  pub spawners : pass.spawners ≡ length olds
  pub late : pass.late ≤ length olds
  pub ascending : IsAscending pass.drawn
  pub whole : IsWhole all pass
  pub listed : (h : ℕ → ℕ) → weighs h lists ≤ weigh (on_jobs (length jobs) h) pass.drawn
  pub drew : IfOk end (λ _. DrewAll (length jobs) (length olds) lists pass)
  pub same_says : map says news ≡ map says olds
  pub said : AllZip (RanAsSaid runs says) olds news
  pub counts : CountsPool end (map faults olds) (map faults news)
