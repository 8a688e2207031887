use Rattle.std.proofs.Common.{◌≡◌, ◌<◌, arith, length}
use Rattle.shelf_set.proofs.SearchTrees.{begin_tree, below_map, ended, no_memory, nowhere_tree, passed, turn_numbered}
use Rattle.shelf_set.proofs.SearchTrees.{turn_there}
use Rattle.shelf_set.proofs.searching.search.Goals as goal

pub loop-asked-init : goal.loop-asked-init
loop-asked-init g c = begin_tree c.args.free c.args.digest.now c.args.root.now _ c.args.numbers.now.items _
    c.requires.standing

pub take_turn-requires-clause-within : goal.take_turn-requires-clause-within
take_turn-requires-clause-within g c =
    let count : c.len-count.result ≡ length c.args.numbers.now.items = omega
    (arith, c.args.numbers.now.ok.0, c.len-count.ensures) in
    let lt : c.loop-asked.asked < length c.args.numbers.now.items = omega (arith, count, c.loop-asked-test.true) in
    below_map _ _ _ (turn_there _ _ _ _ _ _ _ _ _ _ _ lt c.loop-asked.invariant)

pub take_turn-requires-clause-numbered : goal.take_turn-requires-clause-numbered
take_turn-requires-clause-numbered g c =
    let count : c.len-count.result ≡ length c.args.numbers.now.items = omega
    (arith, c.args.numbers.now.ok.0, c.len-count.ensures) in
    let lt : c.loop-asked.asked < length c.args.numbers.now.items = omega (arith, count, c.loop-asked-test.true) in
    turn_numbered _ _ _ _ _ _ _ _ _ _ _ lt c.loop-asked.invariant

pub returns-in-Some : goal.returns-in-Some
returns-in-Some g c =
    let count : c.len-count.result ≡ length c.args.numbers.now.items = omega
    (arith, c.args.numbers.now.ok.0, c.len-count.ensures) in
    let lt : c.loop-asked.asked < length c.args.numbers.now.items = omega (arith, count, c.loop-asked-test.true) in
    ended _ _ _ _ _ _ _ _ _ _ _ _ _ _ _ lt c.loop-asked.invariant c.take_turn.result c.take_turn.ensures no_memory
    c.in-Some.found _ c.in-Some.is count

pub loop-asked-preserved : goal.loop-asked-preserved
loop-asked-preserved g c =
    let count : c.len-count.result ≡ length c.args.numbers.now.items = omega
    (arith, c.args.numbers.now.ok.0, c.len-count.ensures) in
    let lt : c.loop-asked.asked < length c.args.numbers.now.items = omega (arith, count, c.loop-asked-test.true) in
    passed _ _ _ _ _ _ _ _ _ _ _ _ _ _ _ lt c.loop-asked.invariant c.take_turn.result c.take_turn.ensures
    c.in_default.is

pub returns : goal.returns
returns g c =
    let count : c.len-count.result ≡ length c.args.numbers.now.items = omega
    (arith, c.args.numbers.now.ok.0, c.len-count.ensures) in
    nowhere_tree _ _ _ _ _ _ _ _ c.loop-asked.asked _ _ c.loop-asked.invariant
    (omega (arith, count, c.loop-asked-test.false, c.loop-asked.auto.asked-end))
