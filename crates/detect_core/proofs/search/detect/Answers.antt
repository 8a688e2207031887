use Rattle.std.specs.Prelude.{IsTrue}
use Rattle.steps.specs.Outside.{faults_of, spawners_seen}
use Rattle.run_docs.specs.Group.{is_group_doc}
use Rattle.run_docs.specs.Plan.{is_plan_doc}
use Rattle.detect_core.specs.declared.chosen.Chosen.{Chosen}
use Rattle.detect_core.specs.Search.{end_cause}
use Rattle.detect_core.proofs.RecordedLemmas.{chosen_counts, ok_chosen}
use Rattle.detect_core.proofs.search.detect.Goals as goal

pub returns-clause-detects : goal.returns-clause-detects
returns-clause-detects g c = rw c.without_answers.ensures c.detect_recorded-found.ensures.detects

pub returns-clause-asked : goal.returns-clause-asked
returns-clause-asked g c = rw c.without_answers.ensures c.detect_recorded-found.ensures.asked

pub returns-clause-written : goal.returns-clause-written
returns-clause-written g c =
    rw c.without_answers.ensures
    (ok_chosen (λ (chosen : Chosen). IsTrue (is_group_doc chosen.group) × IsTrue (is_plan_doc chosen.plan))
    c.detect_recorded-found.result c.detect_recorded-found.ensures.written)

pub returns-clause-faults : goal.returns-clause-faults
returns-clause-faults g c =
    rw c.without_answers.ensures
    (chosen_counts end_cause c.detect_recorded-found.result
    (faults_of (spawners_seen g.S.Spawner c.args.spawners.now.items))
    (faults_of (spawners_seen g.S.Spawner c.detect_recorded-found.new.spawners.items))
    c.detect_recorded-found.ensures.faults)
