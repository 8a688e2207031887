use Rattle.std.proofs.Common.{◌∙◌, refl}
use Rattle.cnb_world.specs.Tree.{can_make_link}
use Rattle.tree_store.proofs.Around.{linked_so, onward}
use Rattle.tree_store.proofs.Right.{can_link_cleared, right, way_kept}
use Rattle.tree_store.proofs.Partly.{cleared_partly, linked_partly, partly_then}
use Rattle.cnb_world.specs.declared.world.Item.TheVariants as item
use Rattle.tree_store.proofs.laying.lay_link.Goals as goal

pub returns-in_err-make_link-clause-around : goal.returns-in_err-make_link-clause-around
returns-in_err-make_link-clause-around g c = onward _ _ _ _ c.clear.ensures.around
    (linked_so g.W.World _ _ c.make_link.result _ _ c.make_link.ensures.ok c.make_link.ensures.err
    c.make_link.ensures.runs c.make_link.ensures.misused)

pub returns-clause-around : goal.returns-clause-around
returns-clause-around g c = onward _ _ _ _ c.clear.ensures.around
    (linked_so g.W.World _ _ c.make_link.result _ _ c.make_link.ensures.ok c.make_link.ensures.err
    c.make_link.ensures.runs c.make_link.ensures.misused)

pub returns-in_err-clear-clause-right : goal.returns-in_err-clear-clause-right
returns-in_err-clear-clause-right g c = λ plain all. c.clear.ensures.right plain

pub returns-in_err-make_link-clause-right : goal.returns-in_err-make_link-clause-right
returns-in_err-make_link-clause-right g c = λ plain all. right (λ files. can_make_link files c.args.path.now)
    (g.W.World.tree c.clear.new.world) c.make_link.result _ _
    (can_link_cleared c.args.path.now (g.W.World.tree c.args.world.now)
    (g.W.World.tree c.clear.new.world) c.in_ok-clear.ensures.ok plain
    (way_kept c.args.path.now (g.W.World.tree c.args.world.now)
    (g.W.World.tree c.clear.new.world) plain c.clear.ensures.around.files all)) c.make_link.ensures.misused
    ∙ c.clear.ensures.right plain

pub returns-clause-right : goal.returns-clause-right
returns-clause-right g c = λ plain all. right (λ files. can_make_link files c.args.path.now)
    (g.W.World.tree c.clear.new.world) c.make_link.result _ _
    (can_link_cleared c.args.path.now (g.W.World.tree c.args.world.now)
    (g.W.World.tree c.clear.new.world) c.in_ok-clear.ensures.ok plain
    (way_kept c.args.path.now (g.W.World.tree c.args.world.now)
    (g.W.World.tree c.clear.new.world) plain c.clear.ensures.around.files all)) c.make_link.ensures.misused
    ∙ c.clear.ensures.right plain

pub returns-in_err-clear-clause-partly : goal.returns-in_err-clear-clause-partly
returns-in_err-clear-clause-partly g c = cleared_partly c.args.path.now
    (item.Link c.args.target.now) c.clear.result _ _ refl c.clear.ensures.ok c.clear.ensures.err

pub returns-in_err-make_link-clause-partly : goal.returns-in_err-make_link-clause-partly
returns-in_err-make_link-clause-partly g c = partly_then _ _ _ _ _
    (cleared_partly c.args.path.now (item.Link c.args.target.now) c.clear.result _ _ refl c.clear.ensures.ok
    c.clear.ensures.err) (linked_partly c.args.path.now c.args.target.now c.make_link.result _ _
    c.make_link.ensures.ok c.make_link.ensures.err)

pub returns-clause-partly : goal.returns-clause-partly
returns-clause-partly g c = partly_then _ _ _ _ _
    (cleared_partly c.args.path.now (item.Link c.args.target.now) c.clear.result _ _ refl c.clear.ensures.ok
    c.clear.ensures.err) (linked_partly c.args.path.now c.args.target.now c.make_link.result _ _
    c.make_link.ensures.ok c.make_link.ensures.err)
