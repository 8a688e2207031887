use Rattle.std.proofs.Common.{◌∙◌}
use Rattle.std.proofs.lemmas.Result.{err_from_is_err_and}
use Rattle.cnb_drill.proofs.ChoiceLemmas.{runs_err, runs_none, runs_ok}
use Rattle.cnb_drill.proofs.detection.find.Goals as goal

pub returns-in_err-setting-clause-runs : goal.returns-in_err-setting-clause-runs
returns-in_err-setting-clause-runs g c =
    let exit = err_from_is_err_and c.from_residual.result c.from_residual.ensures.1 in
    rw exit.1 (runs_none c.args.number _ exit.0)

pub returns-in_err-groups-clause-runs : goal.returns-in_err-groups-clause-runs
returns-in_err-groups-clause-runs g c =
    let exit = err_from_is_err_and c.from_residual-in_err-groups.result c.from_residual-in_err-groups.ensures.1 in
    rw exit.1 (runs_none c.args.number _ exit.0)

pub returns-in_err-chosen-clause-runs : goal.returns-in_err-chosen-clause-runs
returns-in_err-chosen-clause-runs g c =
    let exit = err_from_is_err_and c.from_residual-in_err-chosen.result c.from_residual-in_err-chosen.ensures.1 in
    rw exit.1 (runs_err c.args.number _ _ _ exit.0 c.in_err-chosen.ensures.runs)

pub returns-clause-runs : goal.returns-clause-runs
returns-clause-runs g c = runs_ok c.args.number _ _ _ _ c.in_ok-chosen.ensures.runs

pub returns-clause-found : goal.returns-clause-found
returns-clause-found g c = c.found_in.ensures ∙ c.in_ok-chosen.ensures.choice
