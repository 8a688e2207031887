use Rattle.std.proofs.Common.{◌∙◌, Ok, ap, subst, sym}
use Rattle.std.proofs.lemmas.Result.{err_from_is_err_and}
use Rattle.cnb_launch.specs.Folders.{AreWithin, set_folders}
use Rattle.cnb_launch.proofs.FolderLemmas.{folders_as}
use Rattle.cnb_launch.proofs.PlanLemmas.{sets_read, sets_refused}
use Rattle.cnb_launch.proofs.sets.sets_in.Goals as goal

pub returns-in_err-sets-clause-reads : goal.returns-in_err-sets-clause-reads
returns-in_err-sets-clause-reads g c =
    let exit = err_from_is_err_and c.from_residual-in_err-sets.result c.from_residual-in_err-sets.ensures.1 in
    rw (exit.1, exit.2) (sets_refused c.args.root.now c.args.doc.now.buildpacks _
    (g.W.World.tree c.args.world.now) _ (c.as_slice-2.ensures ∙ c.in_ok-folders.ensures.folders
    ∙ ap (set_folders c.args.root.now) c.as_slice.ensures) c.in_err-sets.ensures.reads)

pub returns-in_err-sets-clause-blames : goal.returns-in_err-sets-clause-blames
returns-in_err-sets-clause-blames g c =
    let exit = err_from_is_err_and c.from_residual-in_err-sets.result c.from_residual-in_err-sets.ensures.1 in
    rw (exit.1, exit.2) (folders_as _ _ (c.as_slice-2.ensures ∙ c.in_ok-folders.ensures.folders
    ∙ ap (set_folders c.args.root.now) c.as_slice.ensures) _ c.in_err-sets.ensures.blames)

pub returns-clause-reads : goal.returns-clause-reads
returns-clause-reads g c =
    sets_read c.args.root.now c.args.doc.now.buildpacks _ (g.W.World.tree c.args.world.now) (Ok c.in_ok-sets.sets)
    (c.as_slice-2.ensures ∙ c.in_ok-folders.ensures.folders
    ∙ ap (set_folders c.args.root.now) c.as_slice.ensures) c.in_ok-sets.ensures.reads

pub returns-clause-short : goal.returns-clause-short
returns-clause-short g c = c.in_ok-sets.ensures.within 4359
    (subst (AreWithin 4359) (sym c.as_slice-2.ensures) c.in_ok-folders.ensures.within)
