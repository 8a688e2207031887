use Rattle.std.proofs.Common.{◌≡◌, ap, subst, ℕ, List, IfOk, arith}
use Rattle.std.proofs.lemmas.Result.{err_from_is_err_and}
use Rattle.cnb_drill.specs.Report.{drill_lines, drill_text}
use Rattle.cnb_drill.proofs.ChoiceLemmas.{runs_any, runs_err, runs_later}
use Rattle.cnb_drill.proofs.report.drill.Goals as goal

pub lines-requires-clause-place : goal.lines-requires-clause-place
lines-requires-clause-place g c = let place : c.in_ok-found.found.place
    ≡ c.args.number = ap (λ found. found.place) c.in_ok-found.ensures.found in let few = c.requires.number
    in omega arith

pub lines-requires-clause-trial : goal.lines-requires-clause-trial
lines-requires-clause-trial g c = let trial : c.in_ok-found.found.trial
    ≡ 15 = ap (λ found. found.trial) c.in_ok-found.ensures.found in omega arith

pub returns-in_err-found-clause-runs : goal.returns-in_err-found-clause-runs
returns-in_err-found-clause-runs g c =
    let exit = err_from_is_err_and c.from_residual.result c.from_residual.ensures.1 in
    rw exit.1 (runs_err c.args.number _ _ _ exit.0 c.in_err-found.ensures.runs)

pub returns-in_err-bytes-clause-runs : goal.returns-in_err-bytes-clause-runs
returns-in_err-bytes-clause-runs g c =
    let exit = err_from_is_err_and c.from_residual-in_err-bytes.result c.from_residual-in_err-bytes.ensures.1 in
    rw exit.1 (runs_later c.args.number c.requires.number _ _ _ exit.0 c.in_ok-found.ensures.runs)

pub returns-clause-text : goal.returns-clause-text
unfolding drill_text
returns-clause-text g c =
    subst (λ (lines : List ℕ). IfOk c.lines.result (λ text. text ≡ lines))
    (λ i. drill_lines (c.in_ok-found.ensures.found i) (c.in_ok-bytes.ensures i)) c.lines.ensures

pub returns-clause-runs : goal.returns-clause-runs
returns-clause-runs g c = runs_any c.args.number c.requires.number _ _ _ c.lines.result c.in_ok-found.ensures.runs
