use Rattle.std.proofs.lemmas.Result.{err_from_is_err_and}
use Rattle.tree_canon.specs.Reading.{State, run}
use Rattle.tree_canon.specs.Scanning.{IsAt}
use Rattle.tree_canon.proofs.Scans.{GoesOn, goes_on, goes_wrong}
use Rattle.tree_canon.proofs.scanner.Scanner.read.Goals as goal

pub returns-in_err-take-clause-bad : goal.returns-in_err-take-clause-bad
returns-in_err-take-clause-bad c state h at reason e =
    let p = err_from_is_err_and c.from_residual.result c.from_residual.ensures.1 in
    goes_wrong c.loop-rest.self c.split_at.result.0.now c.split_at.result.1.now c.loop-rest.rest.now
    (run state c.args.piece.now) at reason (c.loop-rest.invariant.goes state h)
    (λ now is. c.in_err-take.ensures.bad now is at reason (cc (p.1, p.2, e))) c.split_at.ensures.by_index.0

pub loop-rest-preserved : goal.loop-rest-preserved
loop-rest-preserved c =
    let goes : (state : State) → IsAt c.args.self.now state
    → GoesOn c.take.new.self c.split_at.result.1.now (run state c.args.piece.now)
    = λ state h. goes_on c.loop-rest.self c.take.new.self c.split_at.result.0.now c.split_at.result.1.now
    c.loop-rest.rest.now (run state c.args.piece.now) (c.loop-rest.invariant.goes state h)
    c.in_ok-take.ensures.runs c.split_at.ensures.by_index.0 in
    record { partial = c.in_ok-take.ensures.partial; small = c.in_ok-take.ensures.small; goes = goes }
