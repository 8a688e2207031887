use Rattle.std.proofs.Common.{◌∷◌, ◌++◌, map, sym, ◌∙◌, ap, List}
use Rattle.order_expand.specs.declared.member.Member.{Member}
use Rattle.order_expand.specs.declared.begun.MemberComponent.{MemberComponent}
use Rattle.order_expand.specs.Begun.{groups_of_waiting}
use Rattle.order_expand.specs.MemberComponent.{member_of}
use Rattle.order_expand.specs.Groups.{distinct, same_id}
use Rattle.order_expand.proofs.walk.Walk.next.Goals as goal

pub returns-clause-ok : goal.returns-clause-ok
returns-clause-ok c =
    let waiting = groups_of_waiting c.self.inside.catalog.now c.complete_next.new.waiting.items in
    sym c.self.view_is
    ∙ (ap (map (distinct same_id)) (sym c.in_ok-found.ensures.groups
    ∙ ap (λ (groups : List (List Member)). groups ++ waiting)
    (c.in_ok-found.ensures.complete c.if-not-found.false))
    ∙ ap (λ (members : List Member). members ∷ map (distinct same_id) waiting)
    (sym (c.in_ok-group.ensures ∙ ap (λ (group : List MemberComponent). distinct same_id (map member_of group))
    c.as_slice.ensures.value)))

pub returns-clause-end : goal.returns-clause-end
returns-clause-end c = returns-clause-ok c
