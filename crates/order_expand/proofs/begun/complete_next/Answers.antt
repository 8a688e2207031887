use Rattle.std.proofs.Common.{◌∙◌, subst}
use Rattle.order_expand.specs.declared.begun.Reached.{Reached}
use Rattle.order_expand.specs.Begun.{Reaches}
use Rattle.order_expand.specs.Steps.{steps_left}
use Rattle.order_expand.proofs.begun.complete_next.Goals as goal

pub steps-preserved : goal.steps-preserved
steps-preserved c = c.go_on.ensures.groups ∙ c.steps.invariant

pub steps-smaller : goal.steps-smaller
steps-smaller c =
    let catalog = c.args.catalog.now in
    subst (λ (reached : Reached). Reaches catalog (steps_left catalog c.steps.current c.steps.waiting.items)
    reached c.go_on.new.current c.go_on.new.waiting.items) c.in-On.is c.in_ok-reached.ensures.reaches

pub returns-in-Complete-clause-complete : goal.returns-in-Complete-clause-complete
returns-in-Complete-clause-complete c e =
    let catalog = c.args.catalog.now in
    subst (λ (reached : Reached). Reaches catalog (steps_left catalog c.steps.current c.steps.waiting.items)
    reached c.go_on.new.current c.go_on.new.waiting.items) c.in-Complete.is c.in_ok-reached.ensures.reaches

pub returns-in-End-clause-end : goal.returns-in-End-clause-end
returns-in-End-clause-end c e =
    let catalog = c.args.catalog.now in
    subst (λ (reached : Reached). Reaches catalog (steps_left catalog c.steps.current c.steps.waiting.items)
    reached c.go_on.new.current c.go_on.new.waiting.items) c.in-End.is c.in_ok-reached.ensures.reaches
