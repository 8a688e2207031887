use Rattle.std.proofs.Common.{sym, ◌∙◌}
use Rattle.order_expand.proofs.Counted.{checked_faulty, checked_sound}
use Rattle.order_expand.proofs.Accepted.{number_checked, few_checked, named_checked}
use Rattle.order_expand.proofs.order.check.Goals as goal

pub returns-in-Some-clause-answer : goal.returns-in-Some-clause-answer
returns-in-Some-clause-answer c = checked_faulty c.args.catalog.now c.args.order.now c.in-Some.fault
    (sym c.in-Some.is ∙ c.in_ok-fault.ensures)

pub returns-in-None-clause-answer : goal.returns-in-None-clause-answer
returns-in-None-clause-answer c = checked_sound c.args.catalog.now c.args.order.now c.deep_or_count.result
    (sym c.in-None.is ∙ c.in_ok-fault.ensures) c.deep_or_count.ensures

pub returns-in-None-clause-number : goal.returns-in-None-clause-number
returns-in-None-clause-number c = number_checked c.args.catalog.now c.args.order.now c.deep_or_count.result
    (returns-in-None-clause-answer c)

pub returns-in-None-clause-few : goal.returns-in-None-clause-few
returns-in-None-clause-few c = few_checked c.args.catalog.now c.args.order.now c.deep_or_count.result
    (returns-in-None-clause-answer c)

pub returns-in-None-clause-named : goal.returns-in-None-clause-named
returns-in-None-clause-named c = named_checked c.args.catalog.now c.args.order.now c.deep_or_count.result
    (returns-in-None-clause-answer c)
