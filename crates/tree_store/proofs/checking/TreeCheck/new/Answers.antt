use Rattle.std.proofs.Common.{[], Ok, refl}
use Rattle.tree_store.proofs.checking.TreeCheck.new.Goals as goal

pub returns : goal.returns
returns c = record { hashed = c.new.ensures; fed = Ok []; scanned = c.in_ok-new.ensures.fed; is = refl }
