use Rattle.std.proofs.Common.{◌∙◌, ap, [], arith}
use Rattle.cnb_drill.specs.Buildpacks.{composite_key, entry_of}
use Rattle.cnb_drill.proofs.ListLemmas.{pushed, all_pushed}
use Rattle.cnb_drill.proofs.order.composites.Goals as goal

pub loop-column-preserved : goal.loop-column-preserved
loop-column-preserved c =
    pushed (λ column. entry_of (composite_key column)) [] c.loop-column.column c.loop-column.entries
    c.push.new.self c.entry.result
    c.loop-column.invariant (c.entry.ensures ∙ ap entry_of c.in_ok-key.ensures) c.in_ok-push.ensures.ok

pub returns : goal.returns
returns c = all_pushed (λ column. entry_of (composite_key column)) [] c.loop-column.column 4 c.loop-column.entries
    (omega arith) (omega arith) c.loop-column.invariant
