use Rattle.steps.specs.Outside.{spawners_seen}
use Rattle.run_docs.specs.Group.{is_group_doc}
use Rattle.run_docs.specs.Plan.{is_plan_doc}
use Rattle.std.specs.Prelude.{IsTrue}
use Rattle.detect_core.specs.declared.chosen.Chosen.{Chosen}
use Rattle.detect_core.specs.Recorded.{chosen_of}
use Rattle.detect_core.proofs.RecordedLemmas.{answered_so, chosen_ok, recorded_so}
use Rattle.detect_core.proofs.SpawnerLemmas.{asked_so, detected_so, detection_of}
use Rattle.detect_core.proofs.WrittenLemmas.{detection_written}
use Rattle.detect_core.proofs.search.detect_recorded.Goals as goal

pub returns-clause-detects : goal.returns-clause-detects
returns-clause-detects g c =
    let found = c.search.ensures.search in
    detected_so c.args.frame.now c.args.catalog.now c.args.order.now
    (spawners_seen g.S.Spawner c.args.spawners.now.items)
    (spawners_seen g.S.Spawner c.search.new.spawners.items) found.rows
    (chosen_of c.search.result) found.search

pub returns-clause-asked : goal.returns-clause-asked
returns-clause-asked g c =
    let found = c.search.ensures.search in
    asked_so c.args.frame.now c.args.catalog.now c.args.order.now
    (spawners_seen g.S.Spawner c.args.spawners.now.items)
    (spawners_seen g.S.Spawner c.search.new.spawners.items) found.rows
    (chosen_of c.search.result) found.search

pub returns-clause-written : goal.returns-clause-written
returns-clause-written g c =
    let found = c.search.ensures.search in
    chosen_ok (λ (chosen : Chosen). IsTrue (is_group_doc chosen.group) × IsTrue (is_plan_doc chosen.plan))
    c.search.result
    (detection_written c.args.frame.now c.args.catalog.now c.args.order.now found.search.answers
    (chosen_of c.search.result)
    (detection_of c.args.frame.now c.args.catalog.now c.args.order.now
    (spawners_seen g.S.Spawner c.args.spawners.now.items)
    (spawners_seen g.S.Spawner c.search.new.spawners.items) found.rows
    (chosen_of c.search.result) found.search))

pub returns-clause-recorded : goal.returns-clause-recorded
returns-clause-recorded g c =
    recorded_so c.args.frame.now c.args.catalog.now c.args.order.now
    (spawners_seen g.S.Spawner c.args.spawners.now.items)
    (spawners_seen g.S.Spawner c.search.new.spawners.items) c.search.result c.search.ensures.search

pub returns-clause-answers : goal.returns-clause-answers
returns-clause-answers g c =
    answered_so c.args.frame.now c.args.catalog.now c.args.order.now
    (spawners_seen g.S.Spawner c.args.spawners.now.items)
    (spawners_seen g.S.Spawner c.search.new.spawners.items) c.search.result c.search.ensures.search
