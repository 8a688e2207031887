use Rattle.std.proofs.Common.{◌∙◌}
use Rattle.shelf_set.proofs.SettleLemmas.{parted, settled_many}
use Rattle.shelf_set.proofs.turns.drop_failed.Goals as goal

pub part_into-requires-clause-room : goal.part_into-requires-clause-room
part_into-requires-clause-room g c = c.requires.room ∙ settled_many _ _ c.args.places.now _ _ _ _
    (c.into_vec-numbers.ensures ∙ c.replace.ensures.value) c.settle_each-standing.ensures c.requires.paired

pub returns : goal.returns
returns g c = parted _ _ c.args.places.now _ _ _ _ (c.into_vec-numbers.ensures ∙ c.replace.ensures.value)
    c.settle_each-standing.ensures _ _ c.part_into.ensures.left c.part_into.ensures.gone
