use Rattle.std.proofs.lemmas.Result.{err_from_is_err_and}
use Rattle.steps.specs.Outside.{spawners_seen}
use Rattle.cnb_detect.proofs.DetectSteps.{asked_chosen, asked_refused}
use Rattle.cnb_detect.proofs.choosing.choose.Goals as goal

pub returns-in_err-chosen-clause-step : goal.returns-in_err-chosen-clause-step
returns-in_err-chosen-clause-step g c =
    let exit = err_from_is_err_and c.from_residual.result c.from_residual.ensures.1 in
    rw (exit.1, exit.2) (asked_refused c.args.prepared.now (spawners_seen g.S.Spawner c.args.spawners.now.items)
    (spawners_seen g.S.Spawner c.detect.new.spawners.items) c.in_err-chosen.field-0.0
    c.in_err-chosen.ensures.faults c.in_err-chosen.ensures.asked c.in_err-chosen.ensures.detects)

pub returns-clause-step : goal.returns-clause-step
returns-clause-step g c =
    asked_chosen c.args.prepared.now (spawners_seen g.S.Spawner c.args.spawners.now.items)
    (spawners_seen g.S.Spawner c.detect.new.spawners.items) c.in_ok-chosen.chosen
    c.in_ok-chosen.ensures.faults c.in_ok-chosen.ensures.asked c.in_ok-chosen.ensures.detects
