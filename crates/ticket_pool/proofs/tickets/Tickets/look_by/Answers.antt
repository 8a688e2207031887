use Rattle.std.proofs.Common.{arith}
use Rattle.ticket_pool.proofs.RuleLemmas.{sees_as}
use Rattle.ticket_pool.proofs.tickets.Tickets.look_by.Goals as goal

pub load-requires : goal.load-requires
load-requires g c = (
  c.requires.round,
  (let w = c.args.self.now.one_word in omega arith),
  sees_as c.args.self.now.table.shared.key.jobs c.args.self.now.table.shared.key.spawners g.N.RoundNumbers.spawners
      c.args.self.now.table.shared.table_id.slots c.args.pass.now.seat.id c.args.pass.now.seat.me c.requires.spawners,
)
