use Rattle.std.proofs.Common.{Ok}
use Rattle.cnb_world.proofs.Listing.{told_names}
use Rattle.tree_store.proofs.reading.listed.Goals as goal

pub returns-in-Ok-clause-told : goal.returns-in-Ok-clause-told
returns-in-Ok-clause-told g c = told_names (g.W.World.tree c.args.world.now) c.args.path.now
    (Ok c.in-Ok.names) c.in-Ok.ensures.names c.in-Ok.ensures.told
