use Rattle.tree_store.proofs.Around.{appended_so}
use Rattle.tree_store.proofs.NewPlace.{place_appended}
use Rattle.tree_store.proofs.Written.{appended_file}
use Rattle.tree_store.proofs.target.NewFileTarget.append.Goals as goal

pub returns : goal.returns
returns g c = appended_file g.W.World c.args.self.now.path c.args.bytes.now c.append.result c.or_blame.result _ _
    (appended_so g.W.World c.args.self.now.path c.args.bytes.now c.append.result _ _ c.append.ensures.ok
    c.append.ensures.err c.append.ensures.runs c.append.ensures.misused)
    (place_appended c.args.self.now.path c.args.bytes.now c.append.result _ _ c.append.ensures.ok
    c.append.ensures.err)
    c.append.ensures.children c.append.ensures.files c.append.ensures.at c.append.ensures.misused c.append.ensures.ok
    c.or_blame.ensures.ok c.or_blame.ensures.free c.or_blame.ensures.blames c.or_blame.ensures.last
    c.or_blame.ensures.counts
