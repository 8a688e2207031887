-- Answers that stand at their numbers.
use Rattle.std.specs.Prelude.{◌≡◌, ℕ, List, slice_get, Some}
use Rattle.std.specs.List.{AllByRecursion}
use Rattle.cnb_world.specs.declared.child.Probed.{Probed}
use Rattle.ticket_pool.specs.Numbers.{weigh, same}
use Rattle.ticket_pool.specs.Work.{numbers}
use Rattle.ticket_pool.specs.declared.answer.Answer.{Answer}

-- each answer of the list stands at its number
abbrev pub HasAnswers : List Probed → List Answer → Type 0
HasAnswers answers list = AllByRecursion (λ answer. slice_get answers answer.number ≡ Some answer.probed) list

abbrev pub HasAllAnswers : List Probed → List (List Answer) → Type 0
HasAllAnswers answers lists = AllByRecursion (HasAnswers answers) lists

-- at numbers that the list has not, the two are the same
abbrev pub SameElse : List Probed → List Probed → List Answer → Type 0
SameElse new old list = (n : ℕ) → weigh (same n) (numbers list) ≡ 0 → slice_get new n ≡ slice_get old n
