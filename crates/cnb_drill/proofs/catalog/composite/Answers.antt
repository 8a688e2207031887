use Rattle.std.proofs.Common.{[], ◌∷◌, arith}
use Rattle.bp_docs.specs.declared.descriptor.Body.TheVariants.{Composite}
use Rattle.cnb_drill.specs.Buildpacks.{component_key, entry_of}
use Rattle.cnb_drill.proofs.ListLemmas.{pushed, all_pushed}
use Rattle.cnb_drill.proofs.catalog.composite.Goals as goal

pub loop-digit-preserved : goal.loop-digit-preserved
loop-digit-preserved c =
    pushed (λ digit. entry_of (component_key c.args.column digit) ∷ []) [] c.loop-digit.digit c.loop-digit.groups
    c.push.new.self c.in_ok-group.group
    c.loop-digit.invariant c.in_ok-group.ensures c.in_ok-push.ensures.ok

pub returns : goal.returns
returns c =
    let all = all_pushed (λ digit. entry_of (component_key c.args.column digit) ∷ []) [] c.loop-digit.digit 8
    c.loop-digit.groups (omega arith) (omega arith) c.loop-digit.invariant in
    λ i. record { key = c.in_ok-key.ensures i; body = Composite (all i) }
