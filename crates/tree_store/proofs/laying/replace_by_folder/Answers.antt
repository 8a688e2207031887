use Rattle.std.proofs.Common.{◌∙◌}
use Rattle.cnb_world.specs.Tree.{can_make_folder}
use Rattle.tree_store.proofs.Around.{made_so, onward}
use Rattle.tree_store.proofs.Right.{can_make_cleared, right, way_kept}
use Rattle.tree_store.proofs.Partly.{folder_has, made_partly, partly_then, replaced_partly}
use Rattle.tree_store.proofs.laying.replace_by_folder.Goals as goal

pub returns-in_err-make_folder-clause-around : goal.returns-in_err-make_folder-clause-around
returns-in_err-make_folder-clause-around g c = onward _ _ _ _ c.clear.ensures.around
    (made_so g.W.World _ c.make_folder.result _ _ c.make_folder.ensures.ok c.make_folder.ensures.err
    c.make_folder.ensures.runs c.make_folder.ensures.misused)

pub returns-clause-around : goal.returns-clause-around
returns-clause-around g c = onward _ _ _ _ c.clear.ensures.around
    (made_so g.W.World _ c.make_folder.result _ _ c.make_folder.ensures.ok c.make_folder.ensures.err
    c.make_folder.ensures.runs c.make_folder.ensures.misused)

pub returns-in_err-clear-clause-right : goal.returns-in_err-clear-clause-right
returns-in_err-clear-clause-right g c = λ plain all. c.clear.ensures.right plain

pub returns-in_err-make_folder-clause-right : goal.returns-in_err-make_folder-clause-right
returns-in_err-make_folder-clause-right g c = λ plain all. right (λ files. can_make_folder files c.args.path.now)
    (g.W.World.tree c.clear.new.world) c.make_folder.result _ _
    (can_make_cleared c.args.path.now (g.W.World.tree c.args.world.now)
    (g.W.World.tree c.clear.new.world) c.in_ok-clear.ensures.ok plain
    (way_kept c.args.path.now (g.W.World.tree c.args.world.now)
    (g.W.World.tree c.clear.new.world) plain c.clear.ensures.around.files all)) c.make_folder.ensures.misused
    ∙ c.clear.ensures.right plain

pub returns-clause-right : goal.returns-clause-right
returns-clause-right g c = λ plain all. right (λ files. can_make_folder files c.args.path.now)
    (g.W.World.tree c.clear.new.world) c.make_folder.result _ _
    (can_make_cleared c.args.path.now (g.W.World.tree c.args.world.now)
    (g.W.World.tree c.clear.new.world) c.in_ok-clear.ensures.ok plain
    (way_kept c.args.path.now (g.W.World.tree c.args.world.now)
    (g.W.World.tree c.clear.new.world) plain c.clear.ensures.around.files all)) c.make_folder.ensures.misused
    ∙ c.clear.ensures.right plain

pub returns-in_err-clear-clause-partly : goal.returns-in_err-clear-clause-partly
returns-in_err-clear-clause-partly g c = λ other. replaced_partly c.args.path.now c.clear.result _ _
    (g.W.World.standing c.args.world.now) other c.clear.ensures.ok c.clear.ensures.err

pub returns-in_err-make_folder-clause-partly : goal.returns-in_err-make_folder-clause-partly
returns-in_err-make_folder-clause-partly g c = λ other. partly_then _ _ _ _ _
    (replaced_partly c.args.path.now c.clear.result _ _ (g.W.World.standing c.args.world.now) other
    c.clear.ensures.ok c.clear.ensures.err) (made_partly c.args.path.now _ c.make_folder.result _ _
    (folder_has c.args.path.now) c.make_folder.ensures.ok c.make_folder.ensures.err)

pub returns-clause-partly : goal.returns-clause-partly
returns-clause-partly g c = λ other. partly_then _ _ _ _ _
    (replaced_partly c.args.path.now c.clear.result _ _ (g.W.World.standing c.args.world.now) other
    c.clear.ensures.ok c.clear.ensures.err) (made_partly c.args.path.now _ c.make_folder.result _ _
    (folder_has c.args.path.now) c.make_folder.ensures.ok c.make_folder.ensures.err)
