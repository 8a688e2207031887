-- What a contract sees of a round's tickets and of a pass.
use Rattle.std.specs.Prelude.{◌≡◌, ℕ, ◌<◌, ◌≤◌, Option, Some, None}
use Rattle.ticket_pool.specs.declared.rule.View.{View}
use Rattle.ticket_pool.specs.declared.tickets.Pass.{Pass}
use Rattle.ticket_pool.specs.declared.tickets.Tickets.{Tickets}
use Rattle.ticket_pool.specs.TicketRule.{IsDraw}

abbrev pub view_of : Pass → View
view_of pass = pass.seat.me.0

abbrev pub jobs_of : Tickets → ℕ
jobs_of tickets = tickets.table.shared.key.jobs

abbrev pub spawners_of : Tickets → ℕ
spawners_of tickets = tickets.table.shared.key.spawners

-- the pass is of this round
abbrev pub IsPassOf : Tickets → Pass → Type 0
IsPassOf tickets pass = pass.seat.table_id ≡ tickets.table.shared.table_id

-- One draw, and what it answers: the number, or nothing exactly where the number is no job's.
abbrev pub DrawsNext : ℕ → Option ℕ → View → View → Type 0
DrawsNext jobs None old new = (number : ℕ) × (jobs ≤ number) × IsDraw jobs old number new
DrawsNext jobs (Some number) old new = (number < jobs) × IsDraw jobs old number new
