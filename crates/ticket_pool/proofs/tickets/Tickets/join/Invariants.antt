use Rattle.ticket_pool.proofs.tickets.Tickets.join.Given as goal

abbrev pub ghosts-look_by : goal.ghosts-look_by
ghosts-look_by a = record { jobs = a.self.now.table.shared.key.jobs; spawners = a.self.now.table.shared.key.spawners }
