use Rattle.std.proofs.Common.{◌≡◌, ◌∙◌, ap, arith}
use Rattle.std.specs.Prelude.{replicate}
use Rattle.cnb_world.specs.contracts.memory.spawner.SureSpawnerSpawner.TheImpl.{ghosts}
use Rattle.steps.specs.Outside.{spawner_seen}
use Rattle.cnb_drill.specs.Spawners.{new_spawner}
use Rattle.cnb_drill.proofs.SpawnerLemmas.{one_more}
use Rattle.cnb_drill.proofs.spawners.drill_spawners.Goals as goal

pub loop-preserved : goal.loop-preserved
loop-preserved c =
    one_more (spawner_seen ghosts) c.args.number c.loop.counter c.loop.spawners.items c.push.new.self.items
    c.in_ok-spawner.field-0 c.loop.invariant c.in_ok-spawner.ensures c.in_ok-push.ensures.items

pub returns : goal.returns
returns c =
    let eight : c.loop.counter ≡ 8 = omega arith in
    c.loop.invariant ∙ ap (λ n. replicate n (new_spawner c.args.number)) eight
