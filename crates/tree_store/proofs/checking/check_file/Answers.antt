use Rattle.tree_store.specs.Store.{tree_path}
use Rattle.tree_store.proofs.Puts.{absent_gets}
use Rattle.tree_store.proofs.checking.check_file.Goals as goal

pub returns-in-Absent-clause-checks : goal.returns-in-Absent-clause-checks
returns-in-Absent-clause-checks g c = absent_gets (g.W.World.tree c.args.world.now)
    (tree_path c.args.store.now c.args.digest.now) c.in_ok-path.path c.args.digest.now c.in_ok-kind_at.field-0
    c.in-Absent.is c.in_ok-path.ensures.path c.in_ok-kind_at.ensures.told
