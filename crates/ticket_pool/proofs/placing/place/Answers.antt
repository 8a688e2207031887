use Rattle.std.proofs.Common.{◌∙◌, length, sym}
use Rattle.ticket_pool.proofs.ListLemmas.{empty}
use Rattle.ticket_pool.proofs.PlacingLemmas.{last_dealt, leads_on, led}
use Rattle.ticket_pool.proofs.placing.place.Goals as goal

pub bounds-answers-answer : goal.bounds-answers-answer
bounds-answers-answer c = (last_dealt (length c.answers.answers) c.answers.list.items c.pop.new.self.items
    c.in-Some.answer c.in-Some.ensures.items c.answers.invariant.dealt).2

pub answers-preserved : goal.answers-preserved
answers-preserved c =
    let s = leads_on c.answers.answers c.args.answers.now c.answers.list.items c.pop.new.self.items
    c.args.list.items c.in-Some.answer c.in-Some.ensures.items c.answers.invariant.dealt
    c.answers.invariant.leads in
    record { dealt = s.0; leads = s.1 }

pub returns-clause-answers : goal.returns-clause-answers
returns-clause-answers c = (led c.answers.answers c.args.answers.now c.answers.list.items c.args.list.items
    (empty c.answers.list.items (sym c.answers.list.ok.0 ∙ c.in_default.ensures.cases.0))
    c.answers.invariant.leads).0

pub returns-clause-others : goal.returns-clause-others
returns-clause-others c = (led c.answers.answers c.args.answers.now c.answers.list.items c.args.list.items
    (empty c.answers.list.items (sym c.answers.list.ok.0 ∙ c.in_default.ensures.cases.0))
    c.answers.invariant.leads).1
