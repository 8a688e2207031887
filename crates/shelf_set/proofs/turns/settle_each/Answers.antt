use Rattle.std.proofs.Common.{arith, refl}
use Rattle.shelf_set.proofs.SearchTrees.{below_map}
use Rattle.shelf_set.proofs.SettleLemmas.{settling_all, settling_more, settling_none, within_numbers, within_shelves}
use Rattle.shelf_set.proofs.turns.settle_each.Goals as goal

pub loop-fails-init : goal.loop-fails-init
loop-fails-init g c = settling_none c.args.failed.now _ c.args.numbers.now.items

pub settle-requires-clause-within : goal.settle-requires-clause-within
settle-requires-clause-within g c = below_map _ _ _ (within_shelves _ c.loop-fails.fails-index _ _ _ _ _
    (omega arith) c.requires.paired c.requires.standing c.loop-fails.invariant)

pub settle-requires-clause-numbered : goal.settle-requires-clause-numbered
settle-requires-clause-numbered g c = within_numbers _ c.loop-fails.fails-index _ _ _ _ _
    (omega arith) c.requires.paired c.requires.standing c.loop-fails.invariant

pub loop-fails-preserved : goal.loop-fails-preserved
loop-fails-preserved g c = settling_more _ c.loop-fails.fails-index _ _ _ _ _
    (omega arith) c.requires.paired c.requires.standing c.loop-fails.invariant _ _ _ _ refl c.settle.ensures

pub returns : goal.returns
returns g c = settling_all _ c.loop-fails.fails-index _ _ _ _ _ (omega arith) c.requires.paired c.loop-fails.invariant
