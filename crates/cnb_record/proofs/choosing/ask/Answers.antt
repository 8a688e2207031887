use Rattle.std.proofs.lemmas.Result.{err_from_is_err_and}
use Rattle.steps.specs.Outside.{spawners_seen}
use Rattle.cnb_record.proofs.ChoosingLemmas.{asked_found, asked_refused}
use Rattle.cnb_record.proofs.choosing.ask.Goals as goal

pub returns-in_err-found-clause-step : goal.returns-in_err-found-clause-step
returns-in_err-found-clause-step g c =
    let exit = err_from_is_err_and c.from_residual.result c.from_residual.ensures.1 in
    rw (exit.1, exit.2) (asked_refused c.args.prepared.now (spawners_seen g.S.Spawner c.args.spawners.now.items)
    (spawners_seen g.S.Spawner c.detect_recorded.new.spawners.items) c.in_err-found.field-0.0
    c.in_err-found.ensures.faults c.in_err-found.ensures.asked c.in_err-found.ensures.detects)

pub returns-clause-step : goal.returns-clause-step
returns-clause-step g c =
    asked_found c.args.prepared.now (spawners_seen g.S.Spawner c.args.spawners.now.items)
    (spawners_seen g.S.Spawner c.detect_recorded.new.spawners.items) c.in_ok-found.found
    c.in_ok-found.ensures.faults c.in_ok-found.ensures.asked c.in_ok-found.ensures.detects
    c.in_ok-found.ensures.answers c.in_ok-found.ensures.recorded
