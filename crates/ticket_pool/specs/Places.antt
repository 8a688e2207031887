-- A core's lists as functions of a place.
use Rattle.std.specs.Prelude.{◌≡◌, ℕ, ◌<◌, List, Option, Some, None, slice_get, unwrap_or}
use Rattle.cnb_world.specs.declared.child.Probed.{Probed}
use Rattle.ticket_pool.specs.Round.{Round}

-- what stands at a place; past the end nothing
abbrev pub option_at : {A : Type 0} → List (Option A) → ℕ → Option A
option_at xs place = unwrap_or (slice_get xs place) None

-- each number that is held is a job's
abbrev pub HoldsJobs : ℕ → List (Option ℕ) → Type 0
HoldsJobs jobs held = (worker number : ℕ) → option_at held worker ≡ Some number → number < jobs

abbrev pub round_of_lists : ℕ → List (Option ℕ) → List (Option (ℕ × Probed)) → Round
round_of_lists next held answers = record { next = next; held = option_at held; answers = option_at answers }
