use Rattle.std.proofs.Common.{◌≡◌, ◌<◌, ◌∷◌, [], length, length-append, arith}
use Rattle.std.proofs.lemmas.Iterator.Adapters.{YieldsList-from_vec}
use Rattle.std.proofs.lemmas.Iterator.Consumers.{YieldsList-turn}
use Rattle.detect_core.proofs.RecordedLemmas.{add_more}
use Rattle.detect_core.proofs.keeping.add_answers.Goals as goal

pub bounds-keys-place : goal.bounds-keys-place
bounds-keys-place c =
    let into = c.into_iter-probed-iterator.ensures.into_iter_gives in
    let every = YieldsList-from_vec {s = c.into_iter-probed-iterator.result} c.args.answers.items into.0
    (omega (arith, into.1, c.args.answers.ok.0)) in
    let turn = YieldsList-turn every c.loop-probed.yielded c.loop-probed.probed-iterator c.loop-probed.yielded_by
    c.next.result c.next.new.self c.in-Some.probed c.in-Some.is c.next.ensures.steps in
    omega (arith, turn.0)

pub loop-probed-preserved : goal.loop-probed-preserved
loop-probed-preserved c =
    let keys = c.args.keys.now in
    let yielded = c.loop-probed.yielded in
    let at : c.loop-probed.place ≡ length yielded = c.loop-probed.invariant.at in
    let into = c.into_iter-probed-iterator.ensures.into_iter_gives in
    let every = YieldsList-from_vec {s = c.into_iter-probed-iterator.result} c.args.answers.items into.0
    (omega (arith, into.1, c.args.answers.ok.0)) in
    let turn = YieldsList-turn every yielded c.loop-probed.probed-iterator c.loop-probed.yielded_by c.next.result
    c.next.new.self c.in-Some.probed c.in-Some.is c.next.ensures.steps in
    let lt : c.loop-probed.place < length keys = omega (arith, turn.0) in
    record {
      at = omega (arith, length-append yielded (c.in-Some.probed ∷ []));
      rows = add_more keys yielded c.loop-probed.place c.index-keys-place.result c.in_ok-key.key c.in-Some.probed
          c.args.rows.now c.loop-probed.rows c.push.new.self
          at lt c.index-keys-place.is c.in_ok-key.ensures c.loop-probed.invariant.rows c.in_ok-push.ensures.ok;
    }
