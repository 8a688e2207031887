use Rattle.std.proofs.Common.{◌∙◌, ap}
use Rattle.std.specs.Prelude.{Some}
use Rattle.cnb_world.specs.Replies.{cut_replies}
use Rattle.cnb_drill.proofs.ReplyLemmas.{cut_drill}
use Rattle.cnb_drill.proofs.spawners.spawner.Goals as goal

pub returns : goal.returns
returns c =
    let says = c.in_ok-spawner.ensures.says ∙ (ap (λ replies. Some (cut_replies replies)) c.in_ok-table.ensures
    ∙ ap Some (cut_drill c.args.number)) in
    λ i. record { runs = c.in_ok-spawner.ensures.runs i; says = says i; faults = c.in_ok-spawner.ensures.faults i }
