use Rattle.tree_canon.proofs.Tells.{told_none}
use Rattle.tree_canon.proofs.Feeds.{between_none}
use Rattle.tree_canon.proofs.decoder.Decoder.new.Goals as goal

pub invariant_of-result : goal.invariant_of-result
invariant_of-result c =
    let s = c.new.ensures in
    between_none c.new.result c.new-2.result (told_none c.new.result s.at s.folders s.next s.part s.owed)
    s.partial s.small s.owed c.new-2.ensures
