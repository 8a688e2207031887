use Rattle.std.proofs.Common.{◌<◌, length, arith, sym, ◌∙◌}
use Rattle.ticket_pool.proofs.PlaceLemmas.{after_end, indexed, low}
use Rattle.ticket_pool.proofs.round.Core.end.Goals as goal

pub returns-clause-round : goal.returns-clause-round
returns-clause-round c =
    let lt = low c.args.self.now.held.items c.args.worker c.requires.0 c.requires.1 in
    let at = sym (indexed c.args.self.now.held.items c.args.worker c.index.result.now lt) ∙ sym c.index.ensures
    ∙ c.in_ok-number.was in
    let job = c.args.self.now.holds_jobs c.args.worker c.in_ok-number.number at in
    let places = c.args.self.now.places in
    let room : c.in_ok-number.number < length c.args.self.now.answers.items = omega arith in
    after_end c.args.self.now.jobs c.args.self.now.next c.put.new.self.next c.args.worker c.in_ok-number.number
    c.args.probed c.args.self.now.held.items c.put.new.self.held.items
    c.args.self.now.answers.items c.put.new.self.answers.items at room c.put.ensures.next c.put.ensures.held
    c.put.ensures.answers

pub returns-clause-number : goal.returns-clause-number
returns-clause-number c =
    let lt = low c.args.self.now.held.items c.args.worker c.requires.0 c.requires.1 in
    sym c.in_ok-number.was ∙ c.index.ensures ∙ indexed c.args.self.now.held.items c.args.worker c.index.result.now lt
