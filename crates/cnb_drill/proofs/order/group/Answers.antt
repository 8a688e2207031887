use Rattle.std.proofs.Common.{◌∙◌, [], ◌∷◌, ◌++◌, ap}
use Rattle.cnb_drill.specs.Buildpacks.{entry_of}
use Rattle.cnb_drill.proofs.order.group.Goals as goal

pub returns : goal.returns
returns c = c.in_ok-push.ensures.ok ∙ (λ i. c.in_ok-group.ensures i
    ++ (c.entry.ensures ∙ ap entry_of c.in_ok-key.ensures) i ∷ [])
