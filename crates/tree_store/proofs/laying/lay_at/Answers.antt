use Rattle.std.proofs.Common.{ap, ◌∙◌, []}
use Rattle.std.specs.Option.{option_map}
use Rattle.tree_store.specs.Laying.{laid_under}
use Rattle.tree_store.specs.Overlay.{way_parts}
use Rattle.tree_store.proofs.Around.{made_so, onward}
use Rattle.tree_store.proofs.Right.{laid_right, made_right, root_placed, way_made}
use Rattle.tree_store.proofs.Ways.{at_way, when_ok}
use Rattle.tree_store.proofs.PartlyLaid.{root_made, root_partly}
use Rattle.tree_store.proofs.laying.lay_at.Goals as goal

pub returns-in_ok-lay_under-in-Some-clause-ok : goal.returns-in_ok-lay_under-in-Some-clause-ok
returns-in_ok-lay_under-in-Some-clause-ok g c =
    c.in_ok-lay_under-in-Some.ensures.ok
    ∙ ap (option_map (laid_under c.args.node.now (way_parts c.in-Some.way.now) c.args.root.now))
    (when_ok c.make_folder.result c.in_ok-or_blame.ensures.ok c.make_folder.ensures.ok)
    ∙ at_way (g.W.World.tree c.args.world.now) c.args.root.now c.args.place.now c.in-Some.way.now c.args.node.now
    c.in-Some.ensures.parts

pub returns-in_err-lay_under-in-Some-clause-around : goal.returns-in_err-lay_under-in-Some-clause-around
returns-in_err-lay_under-in-Some-clause-around g c = onward _ _ _ _
    (made_so g.W.World _ c.make_folder.result _ _ c.make_folder.ensures.ok c.make_folder.ensures.err
    c.make_folder.ensures.runs c.make_folder.ensures.misused) c.lay_under.ensures.around

pub returns-in_ok-lay_under-in-Some-clause-around : goal.returns-in_ok-lay_under-in-Some-clause-around
returns-in_ok-lay_under-in-Some-clause-around g c = onward _ _ _ _
    (made_so g.W.World _ c.make_folder.result _ _ c.make_folder.ensures.ok c.make_folder.ensures.err
    c.make_folder.ensures.runs c.make_folder.ensures.misused) c.lay_under.ensures.around

pub returns-in_err-lay_node-in-None-clause-around : goal.returns-in_err-lay_node-in-None-clause-around
returns-in_err-lay_node-in-None-clause-around g c = onward _ _ _ _
    (made_so g.W.World _ c.make_folder.result _ _ c.make_folder.ensures.ok c.make_folder.ensures.err
    c.make_folder.ensures.runs c.make_folder.ensures.misused) c.lay_node.ensures.around

pub returns-in_ok-lay_node-in-None-clause-around : goal.returns-in_ok-lay_node-in-None-clause-around
returns-in_ok-lay_node-in-None-clause-around g c = onward _ _ _ _
    (made_so g.W.World _ c.make_folder.result _ _ c.make_folder.ensures.ok c.make_folder.ensures.err
    c.make_folder.ensures.runs c.make_folder.ensures.misused) c.lay_node.ensures.around

pub returns-in_err-or_blame-clause-right : goal.returns-in_err-or_blame-clause-right
returns-in_err-or_blame-clause-right g c = made_right (g.W.World.tree c.args.world.now) c.args.root.now
    c.args.place.now c.args.node.now c.make_folder.result _ _ c.make_folder.ensures.misused

pub returns-in_err-lay_under-in-Some-clause-right : goal.returns-in_err-lay_under-in-Some-clause-right
returns-in_err-lay_under-in-Some-clause-right g c = laid_right
    (g.W.World.tree c.args.world.now) c.args.root.now c.args.place.now c.args.node.now c.make_folder.result _ _ _
    c.make_folder.ensures.misused c.lay_under.ensures.around.misused
    (λ can. c.lay_under.ensures.right (way_made c.args.root.now (g.W.World.tree c.args.world.now)
    (g.W.World.tree c.make_folder.new.self) (when_ok c.make_folder.result c.in_ok-or_blame.ensures.ok
    c.make_folder.ensures.ok) (g.W.World.standing c.make_folder.new.self)))

pub returns-in_err-lay_node-in-None-clause-right : goal.returns-in_err-lay_node-in-None-clause-right
returns-in_err-lay_node-in-None-clause-right g c = laid_right
    (g.W.World.tree c.args.world.now) c.args.root.now c.args.place.now c.args.node.now c.make_folder.result _ _ _
    c.make_folder.ensures.misused c.lay_node.ensures.around.misused
    (λ can. c.lay_node.ensures.right (root_placed (g.W.World.tree c.args.world.now)
    (g.W.World.tree c.make_folder.new.self) c.args.root.now c.args.place.now c.args.node.now
    (when_ok c.make_folder.result c.in_ok-or_blame.ensures.ok c.make_folder.ensures.ok) c.in-None.ensures.parts
    can) (way_made c.args.root.now (g.W.World.tree c.args.world.now) (g.W.World.tree c.make_folder.new.self)
    (when_ok c.make_folder.result c.in_ok-or_blame.ensures.ok c.make_folder.ensures.ok)
    (g.W.World.standing c.make_folder.new.self)))

pub returns-in_ok-lay_under-in-Some-clause-right : goal.returns-in_ok-lay_under-in-Some-clause-right
returns-in_ok-lay_under-in-Some-clause-right g c = laid_right
    (g.W.World.tree c.args.world.now) c.args.root.now c.args.place.now c.args.node.now c.make_folder.result _ _ _
    c.make_folder.ensures.misused c.lay_under.ensures.around.misused
    (λ can. c.lay_under.ensures.right (way_made c.args.root.now (g.W.World.tree c.args.world.now)
    (g.W.World.tree c.make_folder.new.self) (when_ok c.make_folder.result c.in_ok-or_blame.ensures.ok
    c.make_folder.ensures.ok) (g.W.World.standing c.make_folder.new.self)))

pub returns-in_ok-lay_node-in-None-clause-right : goal.returns-in_ok-lay_node-in-None-clause-right
returns-in_ok-lay_node-in-None-clause-right g c = laid_right
    (g.W.World.tree c.args.world.now) c.args.root.now c.args.place.now c.args.node.now c.make_folder.result _ _ _
    c.make_folder.ensures.misused c.lay_node.ensures.around.misused
    (λ can. c.lay_node.ensures.right (root_placed (g.W.World.tree c.args.world.now)
    (g.W.World.tree c.make_folder.new.self) c.args.root.now c.args.place.now c.args.node.now
    (when_ok c.make_folder.result c.in_ok-or_blame.ensures.ok c.make_folder.ensures.ok) c.in-None.ensures.parts
    can) (way_made c.args.root.now (g.W.World.tree c.args.world.now) (g.W.World.tree c.make_folder.new.self)
    (when_ok c.make_folder.result c.in_ok-or_blame.ensures.ok c.make_folder.ensures.ok)
    (g.W.World.standing c.make_folder.new.self)))

pub returns-in_err-or_blame-clause-partly : goal.returns-in_err-or_blame-clause-partly
returns-in_err-or_blame-clause-partly g c = root_made c.args.root.now c.args.place.now c.args.node.now
    c.make_folder.result _ _ c.make_folder.ensures.ok c.make_folder.ensures.err

pub returns-in_err-lay_under-in-Some-clause-partly : goal.returns-in_err-lay_under-in-Some-clause-partly
returns-in_err-lay_under-in-Some-clause-partly g c = root_partly c.args.root.now c.args.place.now c.args.node.now
    _ _ _ _ c.in-Some.ensures.parts (root_made c.args.root.now c.args.place.now c.args.node.now
    c.make_folder.result _ _ c.make_folder.ensures.ok c.make_folder.ensures.err) c.lay_under.ensures.partly

pub returns-in_ok-lay_under-in-Some-clause-partly : goal.returns-in_ok-lay_under-in-Some-clause-partly
returns-in_ok-lay_under-in-Some-clause-partly g c = root_partly c.args.root.now c.args.place.now c.args.node.now _
    _ _ _ c.in-Some.ensures.parts (root_made c.args.root.now c.args.place.now c.args.node.now c.make_folder.result
    _ _ c.make_folder.ensures.ok c.make_folder.ensures.err) c.lay_under.ensures.partly

pub returns-in_err-lay_node-in-None-clause-partly : goal.returns-in_err-lay_node-in-None-clause-partly
returns-in_err-lay_node-in-None-clause-partly g c = root_partly c.args.root.now c.args.place.now c.args.node.now
    [] _ _ _ c.in-None.ensures.parts (root_made c.args.root.now c.args.place.now c.args.node.now
    c.make_folder.result _ _ c.make_folder.ensures.ok c.make_folder.ensures.err) c.lay_node.ensures.partly

pub returns-in_ok-lay_node-in-None-clause-partly : goal.returns-in_ok-lay_node-in-None-clause-partly
returns-in_ok-lay_node-in-None-clause-partly g c = root_partly c.args.root.now c.args.place.now c.args.node.now []
    _ _ _ c.in-None.ensures.parts (root_made c.args.root.now c.args.place.now c.args.node.now c.make_folder.result
    _ _ c.make_folder.ensures.ok c.make_folder.ensures.err) c.lay_node.ensures.partly
