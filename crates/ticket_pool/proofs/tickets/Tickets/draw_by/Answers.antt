use Rattle.std.proofs.Common.{arith}
use Rattle.ticket_pool.proofs.RuleLemmas.{draws_as}
use Rattle.ticket_pool.proofs.tickets.Tickets.draw_by.Goals as goal

pub fetch_add-requires : goal.fetch_add-requires
fetch_add-requires g c = (
  c.requires.round,
  (let w = c.args.self.now.one_word in omega arith),
  draws_as c.args.self.now.table.shared.key.jobs c.args.self.now.table.shared.key.spawners g.N.RoundNumbers.jobs
      g.N.RoundNumbers.spawners
      c.args.self.now.table.shared.table_id.slots c.args.pass.now.seat.id c.args.pass.now.seat.me
      c.requires.jobs c.requires.spawners c.args.self.now.small c.requires.room,
)
