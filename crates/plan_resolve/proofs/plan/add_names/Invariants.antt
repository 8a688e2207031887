use Rattle.std.proofs.Common.{◌≡◌, ◌++◌, take, map}
use Rattle.plan_resolve.proofs.plan.add_names.Given as goal

abbrev pub invariant-loop-name : goal.invariant-loop-name
invariant-loop-name l = map (λ name. name.now) l.names.items ≡ map (λ name. name.now) l.initial.names.items
    ++ take l.name-index l.name-items

abbrev pub invariant-loop-need : goal.invariant-loop-need
invariant-loop-need l = map (λ name. name.now) l.names.items ≡ map (λ name. name.now) l.initial.names.items
    ++ map (λ need. need.name) (take l.need-index l.need-items)
