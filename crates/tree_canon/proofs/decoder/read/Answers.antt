use Rattle.std.proofs.Common.{◌≡◌, ◌++◌, take, subst}
use Rattle.std.proofs.lemmas.Result.{err_from_is_err_and}
use Rattle.tree_canon.specs.Reading.{run}
use Rattle.tree_canon.specs.Scanning.{IsAt}
use Rattle.tree_canon.proofs.Pieces.{taken_is, adds_event, beside_at, beside_partial, beside_small, read_more}
use Rattle.tree_canon.proofs.Pieces.{read_stuck}
use Rattle.tree_canon.proofs.decoder.read.Goals as goal

pub returns-in_err-step-clause-bad : goal.returns-in_err-step-clause-bad
returns-in_err-step-clause-bad c state h at reason e =
    let p = err_from_is_err_and c.from_residual.result c.from_residual.ensures.1 in
    read_stuck c.args.scanner.now c.loop-rest.scanner c.args.building.now c.loop-rest.building c.args.piece.now
    c.loop-rest.rest.now c.split_at.result.0.now c.split_at.result.1.now at reason
    c.loop-rest.invariant.read c.split_at.ensures.by_index.0
    (λ here reached. c.in_err-step.ensures.bad here reached at reason (cc (p.1, p.2, e))) state h

pub loop-rest-preserved : goal.loop-rest-preserved
loop-rest-preserved c =
    let before = c.loop-rest in
    let told = c.in_ok-step.ensures in
    let same = c.in_ok-close.ensures.place in
    let taken = c.split_at-in-loop-rest.result.0.now in
    let front : take c.in_ok-step.step.used c.split_at.result.0.now ≡ c.split_at-in-loop-rest.result.0.now
    = taken_is c.in_ok-step.step.used before.rest.now c.split_at.result.0.now c.split_at.result.1.now taken
    c.split_at.ensures.by_index.0 told.used c.split_at-in-loop-rest.ensures.front in
    let adds = adds_event before.scanner c.next.new.self before.building c.add.new.self c.in_ok-step.step.event
    (take c.in_ok-step.step.used c.split_at.result.0.now) taken front told.told c.in_ok-add.ensures in
    record {
      partial = beside_partial c.next.new.self c.close.new.scanner same told.partial;
      small = beside_small c.next.new.self c.close.new.scanner same told.small;
      owed = c.in_ok-close.ensures.owed;
      read = read_more c.args.scanner.now before.scanner c.close.new.scanner c.args.building.now before.building
          c.close.new.building c.args.piece.now before.rest.now taken c.split_at-in-loop-rest.result.1.now
          before.invariant.read c.split_at-in-loop-rest.ensures.by_index.0
          (λ state h. beside_at c.next.new.self c.close.new.scanner same (run state taken)
          (subst (λ x. IsAt c.next.new.self (run state x)) front (told.runs state h)))
          (λ bytes h. c.in_ok-close.ensures.made (bytes ++ taken) (adds bytes h));
    }
