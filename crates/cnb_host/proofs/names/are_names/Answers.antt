use Rattle.std.proofs.Common.{◌-◌, [], IsTrue, refl, get_or, arith, rules}
use Rattle.std.proofs.lemmas.Grind.{common_steps}
use Rattle.cnb_world.specs.Path.{is_part}
use Rattle.cnb_host.proofs.Ascending.{names_from}
use Rattle.cnb_host.proofs.names.are_names.Goals as goal

is_part_here : (c : goal.Else-not-is_before_next) → IsTrue (is_part (get_or c.args.names.now (c.loop-at.at - 1) []))
is_part_here c = search (rules, common_steps)

pub loop-at-preserved : goal.loop-at-preserved
loop-at-preserved c = names_from _ _ c.loop-at.at (omega arith) (omega arith) (is_part_here c)
    (c.if-not-is_before_next.ensures refl) c.loop-at.invariant
