use Rattle.tree_store.proofs.Matching.{told_matches}
use Rattle.tree_store.proofs.reading.read_tree.Goals as goal

pub returns-clause-paths : goal.returns-clause-paths
returns-clause-paths g c = told_matches (g.W.World.tree c.args.world.now) c.args.path.now c.tree_at.result
    (g.W.World.standing c.args.world.now) c.tree_at.ensures.reads
