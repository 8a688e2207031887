use Rattle.cnb_world.proofs.PlayLemmas.{leaf_after}
use Rattle.cnb_world.proofs.memory.effect.+play_effect.Goals as goal

pub returns-clause-effect : goal.returns-clause-effect
returns-clause-effect t c = leaf_after c.args.leaves.now c.in-Some.earlier.now c.in-Some.last.now
    c.args.removes.now c.args.path.now c.play_effect-before.result c.effect_after.result c.in-Some.ensures.cases.0
    c.play_effect-before.ensures.effect c.effect_after.ensures.effect
