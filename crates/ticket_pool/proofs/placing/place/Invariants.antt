use Rattle.std.proofs.Common.{length, vec_len}
use Rattle.ticket_pool.specs.Work.{IsDealt}
use Rattle.ticket_pool.proofs.PlacingLemmas.{Leads}
use Rattle.ticket_pool.proofs.placing.place.Given as goal

abbrev pub invariant-answers : goal.invariant-answers
invariant-answers l = record {
  dealt : IsDealt (length l.answers) l.list.items;
  leads : Leads l.answers l.list.items l.initial.answers l.initial.list.items;
}

abbrev pub decreases-answers : goal.decreases-answers
decreases-answers l = vec_len l.list
