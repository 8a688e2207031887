use Rattle.std.proofs.Common.{refl, subst}
use Rattle.std.specs.Option.{option_map}
use Rattle.cnb_world.specs.Calls.{MayMisuse}
use Rattle.tree_store.specs.Partly.{LaidPartly, items_placed}
use Rattle.tree_store.specs.Steps.{can_lay}
use Rattle.tree_store.proofs.CallSteps.{laid_so}
use Rattle.tree_store.proofs.Overlays.{laid_where, overlaid_where}
use Rattle.tree_store.proofs.Ways.{tree_fits}
use Rattle.tree_store.proofs.laying.write_tree.Goals as goal

pub lay_at-requires-clause-fits : goal.lay_at-requires-clause-fits
lay_at-requires-clause-fits g c = tree_fits c.args.tree.now c.node.result.now c.node.ensures.root c.node.ensures.tree

pub returns-clause-steps : goal.returns-clause-steps
returns-clause-steps g c = laid_so g.W.World _ _ _ c.lay_at.result _ _
    (laid_where c.lay_at.result (g.W.World.tree c.args.world.now) _ c.args.root.now c.args.place.now
    c.args.tree.now c.node.result.now c.node.ensures.root
    (tree_fits c.args.tree.now c.args.tree.now refl c.node.ensures.tree) c.lay_at.ensures.ok
    c.lay_at.ensures.names c.lay_at.ensures.placed (g.W.World.standing c.args.world.now))
    c.lay_at.ensures.free c.lay_at.ensures.blames c.lay_at.ensures.around
    (subst (λ n. MayMisuse (option_map (can_lay c.args.root.now c.args.place.now n)
    (g.W.World.tree c.args.world.now)) (g.W.World.misused c.args.world.now)
    (g.W.World.misused c.lay_at.new.world)) c.node.ensures.root c.lay_at.ensures.right)
    c.lay_at.ensures.files c.lay_at.ensures.children
    (subst (λ n. LaidPartly c.args.root.now (items_placed c.args.root.now c.args.place.now n)
    (g.W.World.tree c.args.world.now) (g.W.World.tree c.lay_at.new.world)) c.node.ensures.root
    c.lay_at.ensures.partly)

pub returns-clause-overlay : goal.returns-clause-overlay
returns-clause-overlay g c = overlaid_where c.lay_at.result
    (g.W.World.tree c.args.world.now) _ c.args.root.now c.args.place.now c.args.tree.now
    (laid_where c.lay_at.result (g.W.World.tree c.args.world.now) _ c.args.root.now c.args.place.now
    c.args.tree.now c.node.result.now c.node.ensures.root
    (tree_fits c.args.tree.now c.args.tree.now refl c.node.ensures.tree) c.lay_at.ensures.ok
    c.lay_at.ensures.names c.lay_at.ensures.placed (g.W.World.standing c.args.world.now))
