use Rattle.std.specs.Prelude.{refl, Ok, Err}
use Rattle.cnb_world.specs.contracts.memory.spawner.SureSpawnerSpawner.TheImpl.{ghosts}
use Rattle.steps.specs.Outside.{spawner_seen, spawners_seen}
use Rattle.cnb_drill.proofs.ChoiceLemmas.{chosen_is, drill_is_ok, end_is, is_short_frame, of_drill, runs_are}
use Rattle.cnb_drill.proofs.ChoiceLemmas.{runs_stopped, zero_all}
use Rattle.cnb_drill.proofs.detection.choice.Goals as goal

pub detect-requires-clause-order : goal.detect-requires-clause-order
detect-requires-clause-order g c = λ κs _. drill_is_ok c.args.setting.now.catalog c.args.setting.now.order
    c.requires.setting.order c.requires.setting.catalog

pub detect-requires-clause-short : goal.detect-requires-clause-short
detect-requires-clause-short g c = λ κs _. is_short_frame c.args.setting.now.frame c.requires.setting.frame

pub memory_of_end-requires : goal.memory_of_end-requires
memory_of_end-requires g c =
    let old = spawners_seen ghosts c.args.spawners.now.items in
    let new = spawners_seen ghosts c.detect.new.spawners.items in
    end_is c.args.number c.requires.number old new c.requires.says c.in-Err.end
    (of_drill c.args.setting.now.frame c.args.setting.now.catalog c.args.setting.now.order old
    (Err c.in-Err.end) new c.requires.setting.frame c.requires.setting.catalog c.requires.setting.order
    record { detects = c.in-Err.ensures.detects; asked = c.in-Err.ensures.asked; faults = c.in-Err.ensures.faults })
    (zero_all (spawner_seen ghosts) (λ spawner. refl) c.detect.new.spawners.items)

pub returns-in-Ok-clause-choice : goal.returns-in-Ok-clause-choice
returns-in-Ok-clause-choice g c =
    let old = spawners_seen ghosts c.args.spawners.now.items in
    let new = spawners_seen ghosts c.detect.new.spawners.items in
    chosen_is c.args.number c.requires.number old new c.requires.says c.in-Ok.chosen
    (of_drill c.args.setting.now.frame c.args.setting.now.catalog c.args.setting.now.order old
    (Ok c.in-Ok.chosen) new c.requires.setting.frame c.requires.setting.catalog c.requires.setting.order
    record { detects = c.in-Ok.ensures.detects; asked = c.in-Ok.ensures.asked; faults = c.in-Ok.ensures.faults })

pub returns-in-Ok-clause-runs : goal.returns-in-Ok-clause-runs
returns-in-Ok-clause-runs g c =
    let old = spawners_seen ghosts c.args.spawners.now.items in
    let new = spawners_seen ghosts c.detect.new.spawners.items in
    runs_are c.args.number c.requires.number old new c.requires.says c.in-Ok.chosen
    (of_drill c.args.setting.now.frame c.args.setting.now.catalog c.args.setting.now.order old
    (Ok c.in-Ok.chosen) new c.requires.setting.frame c.requires.setting.catalog c.requires.setting.order
    record { detects = c.in-Ok.ensures.detects; asked = c.in-Ok.ensures.asked; faults = c.in-Ok.ensures.faults })

pub returns-in-Err-clause-runs : goal.returns-in-Err-clause-runs
returns-in-Err-clause-runs g c =
    let old = spawners_seen ghosts c.args.spawners.now.items in
    let new = spawners_seen ghosts c.detect.new.spawners.items in
    runs_stopped c.args.number c.requires.number old new c.requires.says c.in-Err.end c.memory_of_end.result
    (of_drill c.args.setting.now.frame c.args.setting.now.catalog c.args.setting.now.order old
    (Err c.in-Err.end) new c.requires.setting.frame c.requires.setting.catalog c.requires.setting.order
    record { detects = c.in-Err.ensures.detects; asked = c.in-Err.ensures.asked; faults = c.in-Err.ensures.faults })
