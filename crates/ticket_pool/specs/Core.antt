-- What a contract sees of a core.
use Rattle.std.specs.Prelude.{ℕ, length}
use Rattle.ticket_pool.specs.declared.round.Core.{Core}
use Rattle.ticket_pool.specs.Round.{Round}
use Rattle.ticket_pool.specs.Places.{round_of_lists}

abbrev pub core_jobs : Core → ℕ
core_jobs core = core.jobs

abbrev pub core_workers : Core → ℕ
core_workers core = length core.held.items

abbrev pub core_round : Core → Round
core_round core = round_of_lists core.next core.held.items core.answers.items
