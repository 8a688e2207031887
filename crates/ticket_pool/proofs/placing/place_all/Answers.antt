use Rattle.std.proofs.Common.{◌∙◌, length, sym}
use Rattle.ticket_pool.proofs.ListLemmas.{empty}
use Rattle.ticket_pool.proofs.PlacingLemmas.{last_list, leads_all_on, all_led}
use Rattle.ticket_pool.proofs.placing.place_all.Goals as goal

pub place-requires : goal.place-requires
place-requires c = (last_list (λ list. list.items) (length c.lists.answers) c.lists.lists.items
    c.pop.new.self.items c.in-Some.list c.in-Some.ensures.items c.lists.invariant.dealt).1

pub lists-preserved : goal.lists-preserved
lists-preserved c =
    let s = leads_all_on (λ list. list.items) c.lists.answers c.place.new.answers c.lists.lists.items
    c.pop.new.self.items c.args.lists.items c.in-Some.list c.in-Some.ensures.items c.place.ensures.count
    c.lists.invariant.dealt c.lists.invariant.once c.place.ensures.answers c.place.ensures.others
    c.lists.invariant.leads in
    record { dealt = s.0; once = s.1; leads = s.2 }

pub returns : goal.returns
returns c = all_led (λ list. list.items) c.lists.answers c.lists.lists.items _
    (empty c.lists.lists.items (sym c.lists.lists.ok.0 ∙ c.in_default.ensures.cases.0)) c.lists.invariant.leads
