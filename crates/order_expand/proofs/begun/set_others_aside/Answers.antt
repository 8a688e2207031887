use Rattle.std.proofs.Common.{◌++◌, ◌∙◌, [], ◌∷◌, cond, sym, length}
use Rattle.std.specs.List.{flat_map}
use Rattle.std.proofs.lemmas.Bool.{eqb-true}
use Rattle.std.proofs.lemmas.List.{nil_from_length}
use Rattle.order_expand.specs.Begun.{groups_with, groups_of_waiting}
use Rattle.order_expand.specs.Groups.{raw_groups, expanded}
use Rattle.order_expand.proofs.begun.set_others_aside.Goals as goal

pub returns-then-is_empty-clause-ok : goal.returns-then-is_empty-clause-ok
returns-then-is_empty-clause-ok c catalog =
    let current = c.args.current.now in
    let none = nil_from_length c.args.groups.now (eqb-true (length c.args.groups.now) 0
    (sym c.is_empty.ensures ∙ c.if-is_empty.true)) in
    sym (λ i. groups_with catalog current.members.items
    (flat_map (expanded (raw_groups c.args.levels catalog) catalog) (none i)
    ++ cond (c.if-optional.false i) ([] ∷ []) []) current.later.items
    ++ groups_of_waiting catalog c.args.waiting.now.items)
