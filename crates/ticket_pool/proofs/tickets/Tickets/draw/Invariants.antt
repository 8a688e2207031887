use Rattle.ticket_pool.proofs.tickets.Tickets.draw.Given as goal

abbrev pub ghosts-draw_by : goal.ghosts-draw_by
ghosts-draw_by a = record { jobs = a.self.now.table.shared.key.jobs; spawners = a.self.now.table.shared.key.spawners }
