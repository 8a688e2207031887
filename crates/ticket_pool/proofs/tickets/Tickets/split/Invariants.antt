use Rattle.ticket_pool.proofs.tickets.Tickets.split.Given as goal

abbrev pub ghosts-split_by : goal.ghosts-split_by
ghosts-split_by a = record { given = a.spawners }
