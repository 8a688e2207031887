use Rattle.std.proofs.Common.{◌≡◌, ◌≤◌, vec_capacity, vec_len}
use Rattle.ticket_pool.proofs.room.blank_answers.Given as goal

abbrev pub invariant-answers : goal.invariant-answers
invariant-answers l = record { count : vec_len l.answers ≡ l.counter; room : l.jobs ≤ vec_capacity l.answers }
