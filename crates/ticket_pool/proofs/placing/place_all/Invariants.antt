use Rattle.std.proofs.Common.{length, map, vec_len}
use Rattle.ticket_pool.specs.Deal.{NoneTwice}
use Rattle.ticket_pool.specs.Work.{numbers, AllDealt}
use Rattle.ticket_pool.proofs.PlacingLemmas.{LeadsAll}
use Rattle.ticket_pool.proofs.placing.place_all.Given as goal

abbrev pub invariant-lists : goal.invariant-lists
invariant-lists l = record {
  dealt : AllDealt (length l.answers) (map (λ list. list.items) l.lists.items);
  once : NoneTwice (map numbers (map (λ list. list.items) l.lists.items));
  leads : LeadsAll l.answers (map (λ list. list.items) l.lists.items) (map (λ list. list.items) l.initial.lists.items);
}

abbrev pub decreases-lists : goal.decreases-lists
decreases-lists l = vec_len l.lists
