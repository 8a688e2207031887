use Rattle.std.proofs.Common.{arith}
use Rattle.ticket_pool.proofs.RuleLemmas.{cuts}
use Rattle.ticket_pool.proofs.tickets.Tickets.split_by.Goals as goal

pub split_seat-seat-requires : goal.split_seat-seat-requires
split_seat-seat-requires g c = (
  c.requires.round,
  (let w = c.args.self.now.one_word in omega arith),
  cuts c.args.self.now.table.shared.key.jobs c.args.self.now.table.shared.key.spawners c.args.pass.now.seat.id
      g.P.Portion.given c.args.pass.now.seat.me.0 c.requires.fresh c.requires.some c.requires.left,
)
