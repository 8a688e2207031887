use Rattle.std.proofs.Common.{◌∙◌, ◌++◌, ap, List, arith}
use Rattle.order_expand.specs.declared.begun.Begun.{Begun}
use Rattle.order_expand.specs.declared.begun.Place.{Place}
use Rattle.order_expand.specs.Begun.{groups_in, groups_with, groups_of_waiting}
use Rattle.order_expand.specs.Steps.{place_steps, later_steps, steps_of_waiting}
use Rattle.order_expand.proofs.Choices.{groups_of_waiting-snoc, steps_of_waiting-snoc}
use Rattle.order_expand.proofs.begun.set_aside.Goals as goal

pub returns-clause-ok : goal.returns-clause-ok
returns-clause-ok c catalog =
    let waiting = c.args.waiting.now.items in
    let begun : Begun = record { members = c.in_ok-members.members; next = c.args.next; later = c.in_ok-later.later } in
    ap (groups_of_waiting catalog) c.in_ok-push.ensures.items
    ∙ (groups_of_waiting-snoc catalog waiting begun
    ∙ (λ i. groups_with catalog ((c.in_ok-members.ensures.items ∙ c.as_slice.ensures.value) i)
    (groups_in catalog c.args.next) ((c.in_ok-later.ensures.items ∙ c.as_slice-2.ensures.value) i)
    ++ groups_of_waiting catalog waiting))

pub returns-clause-steps : goal.returns-clause-steps
returns-clause-steps c catalog =
    let begun : Begun = record { members = c.in_ok-members.members; next = c.args.next; later = c.in_ok-later.later } in
    let all = ap (steps_of_waiting catalog) c.in_ok-push.ensures.items in
    let one_more = steps_of_waiting-snoc catalog c.args.waiting.now.items begun in
    let same = ap (λ (later : List Place). place_steps catalog c.args.next (later_steps catalog later))
    (c.in_ok-later.ensures.items ∙ c.as_slice-2.ensures.value) in
    omega (arith, all, one_more, same)
