use Rattle.std.proofs.Common.{◌+◌, ◌<◌, arith, rules}
use Rattle.ticket_pool.proofs.RuleLemmas.{closes}
use Rattle.ticket_pool.proofs.tickets.Tickets.close.Goals as goal

pub free-requires : goal.free-requires
free-requires c k h = let none = c.args.self.no_slot in let count = c.close_with-closed.ensures.counts.1
    in absurd (omega arith)

pub overflow_cast-result : goal.overflow_cast-result
overflow_cast-result c =
    let t = closes _ _ _ _ _ _ _ c.close_with-closed.ensures.values.2 c.requires.all c.word-word.ensures in
    let low = t.1 in
    let small : c.args.self.table.shared.key.jobs + c.args.self.table.shared.key.spawners
    < 4294967296 = c.args.self.small in
    let is_view : c.word-word.result < 4294967296 = omega arith in search rules

pub returns : goal.returns
returns c = (closes _ _ _ _ _ _ _ c.close_with-closed.ensures.values.2 c.requires.all c.word-word.ensures).0
