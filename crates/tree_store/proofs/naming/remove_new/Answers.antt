use Rattle.tree_store.proofs.Around.{removed}
use Rattle.tree_store.proofs.NewPlace.{place_removed}
use Rattle.tree_store.proofs.Settled.{last_ok}
use Rattle.tree_store.proofs.Written.{others_called}
use Rattle.tree_store.proofs.naming.remove_new.Goals as goal

pub returns-clause-leaves : goal.returns-clause-leaves
returns-clause-leaves g c = others_called g.W.World c.args.file.now c.args.file.now c.remove.result
    c.or_blame.result _ _
    (removed g.W.World c.args.file.now c.remove.result _ _ c.remove.ensures.ok c.remove.ensures.err
    c.remove.ensures.runs c.remove.ensures.misused)
    (place_removed c.args.file.now c.remove.result _ _ c.remove.ensures.ok c.remove.ensures.err)
    c.remove.ensures.children c.remove.ensures.files c.remove.ensures.at c.or_blame.ensures.counts
    c.or_blame.ensures.last

pub returns-clause-last : goal.returns-clause-last
returns-clause-last g c = last_ok c.args.file.now c.remove.result c.or_blame.result _ _ c.or_blame.ensures.ok
    c.remove.ensures.at
