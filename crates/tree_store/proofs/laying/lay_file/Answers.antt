use Rattle.std.proofs.Common.{◌∙◌, refl}
use Rattle.tree_store.proofs.Around.{onward}
use Rattle.tree_store.proofs.Right.{can_create_cleared, way_kept}
use Rattle.tree_store.proofs.Partly.{cleared_partly, partly_then}
use Rattle.cnb_world.specs.declared.world.Item.TheVariants as item
use Rattle.tree_store.proofs.laying.lay_file.Goals as goal

pub returns-in_err-write_file-clause-around : goal.returns-in_err-write_file-clause-around
returns-in_err-write_file-clause-around g c = onward _ _ _ _ c.clear.ensures.around c.write_file.ensures.around

pub returns-clause-around : goal.returns-clause-around
returns-clause-around g c = onward _ _ _ _ c.clear.ensures.around c.write_file.ensures.around

pub returns-in_err-clear-clause-right : goal.returns-in_err-clear-clause-right
returns-in_err-clear-clause-right g c = λ plain all. c.clear.ensures.right plain

pub returns-in_err-write_file-clause-right : goal.returns-in_err-write_file-clause-right
returns-in_err-write_file-clause-right g c = λ plain all. c.write_file.ensures.right
    (can_create_cleared c.args.path.now (g.W.World.tree c.args.world.now)
    (g.W.World.tree c.clear.new.world) c.in_ok-clear.ensures.ok plain
    (way_kept c.args.path.now (g.W.World.tree c.args.world.now)
    (g.W.World.tree c.clear.new.world) plain c.clear.ensures.around.files all)) ∙ c.clear.ensures.right plain

pub returns-clause-right : goal.returns-clause-right
returns-clause-right g c = λ plain all. c.write_file.ensures.right
    (can_create_cleared c.args.path.now (g.W.World.tree c.args.world.now)
    (g.W.World.tree c.clear.new.world) c.in_ok-clear.ensures.ok plain
    (way_kept c.args.path.now (g.W.World.tree c.args.world.now)
    (g.W.World.tree c.clear.new.world) plain c.clear.ensures.around.files all)) ∙ c.clear.ensures.right plain

pub returns-in_err-clear-clause-partly : goal.returns-in_err-clear-clause-partly
returns-in_err-clear-clause-partly g c = cleared_partly c.args.path.now
    (item.File c.args.exec c.args.bytes.now) c.clear.result _ _ refl c.clear.ensures.ok c.clear.ensures.err

pub returns-in_err-write_file-clause-partly : goal.returns-in_err-write_file-clause-partly
returns-in_err-write_file-clause-partly g c = partly_then _ _ _ _ _
    (cleared_partly c.args.path.now (item.File c.args.exec c.args.bytes.now) c.clear.result _ _ refl
    c.clear.ensures.ok c.clear.ensures.err) c.write_file.ensures.partly

pub returns-clause-partly : goal.returns-clause-partly
returns-clause-partly g c = partly_then _ _ _ _ _
    (cleared_partly c.args.path.now (item.File c.args.exec c.args.bytes.now) c.clear.result _ _ refl
    c.clear.ensures.ok c.clear.ensures.err) c.write_file.ensures.partly
