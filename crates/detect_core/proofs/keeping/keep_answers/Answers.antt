use Rattle.std.proofs.Common.{◌<◌, length, arith}
use Rattle.detect_core.proofs.AskingLemmas.{next_new}
use Rattle.detect_core.proofs.keeping.keep_answers.Goals as goal

pub add-requires : goal.add-requires
add-requires c =
    let lt : c.loop-place.place < length c.args.keys.now = omega arith in
    (next_new c.args.keys.now c.loop-place.place c.loop-place.kept c.index-keys-place.result c.in_ok-key.key lt
    c.index-keys-place.is c.in_ok-key.ensures c.loop-place.invariant.new).0
