use Rattle.std.proofs.Common.{◌+◌, take, arith, refl, subst, length-drop}
use Rattle.std.proofs.lemmas.Result.{err_from_is_err_and}
use Rattle.tree_canon.specs.Reading.{State, Going, run}
use Rattle.tree_canon.specs.Scanning.{IsAt}
use Rattle.tree_canon.proofs.Tells.{close_told, rest_length, front_length, front_is, taken_more, stuck_more}
use Rattle.tree_canon.proofs.Tells.{fault_follows, told_more, more_told}
use Rattle.tree_canon.proofs.scanner.Scanner.next.Goals as goal

pub returns-then-self-gt0-clause-told : goal.returns-then-self-gt0-clause-told
returns-then-self-gt0-clause-told c bytes given h = close_told c.args.self.now _ bytes given h c.if-self-gt0.true
    refl refl refl refl refl

pub returns-in_err-event-clause-bad : goal.returns-in_err-event-clause-bad
returns-in_err-event-clause-bad c state h at reason e =
    let p = err_from_is_err_and c.from_residual.result c.from_residual.ensures.1 in
    stuck_more state c.loop-used.used c.share-share.result c.args.input.now _ at reason
    (front_is c.loop-used.used c.share-share.result c.args.input.now)
    (c.in_err-event.ensures.bad (run state (take c.loop-used.used c.args.input.now))
    (c.loop-used.invariant.runs state h) at reason (cc (p.1, p.2, e)))

pub returns-in_err-event-clause-follows : goal.returns-in_err-event-clause-follows
returns-in_err-event-clause-follows c bytes given h at reason e =
    let p = err_from_is_err_and c.from_residual.result c.from_residual.ensures.1 in
    let told = c.loop-used.invariant.told bytes given h in
    fault_follows c.loop-used.self bytes given c.loop-used.used c.share-share.result c.args.input.now _ at reason
    (front_is c.loop-used.used c.share-share.result c.args.input.now)
    c.loop-used.invariant.owed told c.share-share.ensures.fits
    (c.in_err-event.ensures.bad (Going told.count told.cut told.part) told.reached at reason
    (cc (p.1, p.2, e)))

pub returns-then-not-is_more-clause-runs : goal.returns-then-not-is_more-clause-runs
returns-then-not-is_more-clause-runs c state h =
    subst (IsAt c.take.new.self) (taken_more state c.loop-used.used c.share-share.result c.args.input.now _
    (front_is c.loop-used.used c.share-share.result c.args.input.now))
    (c.in_ok-event.ensures.runs (run state (take c.loop-used.used c.args.input.now))
    (c.loop-used.invariant.runs state h))

pub returns-then-not-is_more-clause-told : goal.returns-then-not-is_more-clause-told
returns-then-not-is_more-clause-told c bytes given h =
    told_more c.loop-used.self c.take.new.self c.in_ok-event.event c.loop-used.used c.share-share.result
    c.args.input.now _ bytes given (front_is c.loop-used.used c.share-share.result c.args.input.now)
    (c.loop-used.invariant.told bytes given h)
    (c.in_ok-event.ensures.told refl c.loop-used.invariant.owed) (c.in_ok-event.ensures.part refl)

pub returns-then-not-is_more-clause-all : goal.returns-then-not-is_more-clause-all
returns-then-not-is_more-clause-all c n part less =
    let used = c.loop-used.used in
    let share = c.share-share.result in
    let input = c.args.input.now in
    let all = c.share-share.ensures.all (omega (arith, less, rest_length used input)) in
    c.in_ok-event.ensures.all refl n part (omega (arith, all, front_length used share input (omega (arith, less))))

pub loop-used-preserved : goal.loop-used-preserved
loop-used-preserved c =
    let front = front_is c.loop-used.used c.share-share.result c.args.input.now in
    let runs : (state : State) → IsAt c.args.self.now state
    → IsAt c.take.new.self (run state (take (c.loop-used.used + c.share-share.result) c.args.input.now))
    = λ state h. subst (IsAt c.take.new.self) (taken_more state c.loop-used.used c.share-share.result
    c.args.input.now _ (front_is c.loop-used.used c.share-share.result c.args.input.now))
    (c.in_ok-event.ensures.runs (run state (take c.loop-used.used c.args.input.now))
    (c.loop-used.invariant.runs state h)) in
    record {
      within = omega (
        arith,
        c.share-share.ensures.within,
        length-drop c.loop-used.used c.args.input.now,
        c.loop-used.invariant.within,
      );
      partial = c.in_ok-event.ensures.partial;
      small = c.in_ok-event.ensures.small;
      owed = c.in_ok-event.ensures.more refl c.loop-used.invariant.owed (c.is_more.ensures.0 c.if-not-is_more.false);
      runs = runs;
      told = λ bytes given h. more_told c.loop-used.self c.take.new.self c.in_ok-event.event c.loop-used.used
          c.share-share.result c.args.input.now _ bytes given front (c.is_more.ensures.0 c.if-not-is_more.false)
          (c.loop-used.invariant.told bytes given h) (c.in_ok-event.ensures.told refl c.loop-used.invariant.owed);
    }
