use Rattle.std.proofs.Common.{◌≡◌, [], arith, sym, ap, subst, ◌∙◌}
use Rattle.ticket_pool.specs.declared.rule.View.{View}
use Rattle.ticket_pool.specs.Numbers.{IsAscending}
use Rattle.ticket_pool.proofs.NumberLemmas.{apart-merged}
use Rattle.ticket_pool.proofs.RuleLemmas.{joins, joined-fresh}
use Rattle.ticket_pool.proofs.tickets.Tickets.join.Goals as goal

pub join_seat-requires : goal.join_seat-requires
join_seat-requires c = (
  c.requires.round,
  c.requires.other_round,
  c.args.other.holds_nothing,
  (let w = c.args.self.now.one_word in omega arith),
  joins c.args.self.now.table.shared.key.jobs c.args.self.now.table.shared.key.spawners c.args.pass.now.seat.id
      c.args.other.seat.id c.args.pass.now.seat.me.0 c.args.other.seat.me.0,
)

pub returns-clause-apart : goal.returns-clause-apart
returns-clause-apart c = apart-merged _ _ (subst IsAscending
    (ap (λ m. m.0.drawn) c.join_seat.ensures.2) c.look_by.ensures.ascending)

pub invariant_of-pass : goal.invariant_of-pass
invariant_of-pass c = record {
  holds_nothing = ap (λ m. m.1) c.join_seat.ensures.2 ∙ c.args.pass.now.holds_nothing;
  fresh = subst (λ (u : View). u.drawn ≡ [] → u.late ≡ 0) (sym (ap (λ m. m.0) c.join_seat.ensures.2))
      (joined-fresh c.args.pass.now.seat.me.0 c.args.other.seat.me.0 c.args.pass.now.fresh c.args.other.fresh);
}
