use Rattle.std.proofs.Common.{subst, Err, Ok}
use Rattle.std.proofs.lemmas.Result.{err_from_is_err_and}
use Rattle.steps.specs.Outside.{seen}
use Rattle.steps.proofs.StepLemmas.{ended, went}
use Rattle.shelf_set.proofs.CacheLemmas.{within}
use Rattle.cnb_restore.specs.Restores.{restores}
use Rattle.cnb_restore.specs.RestoresFrom.{HavePartNames, restores_from}
use Rattle.cnb_restore.proofs.FilesLaws.{leaves_restored, unnamed}
use Rattle.cnb_restore.proofs.ReadLemmas.{previous_as}
use Rattle.cnb_restore.proofs.RestoreLemmas.{group_from}
use Rattle.cnb_restore.proofs.restoring.restore.Goals as goal

pub returns-in_err-previous-clause-steps : goal.returns-in_err-previous-clause-steps
unfolding restores
returns-in_err-previous-clause-steps g c =
    let exit = err_from_is_err_and c.from_residual.result c.from_residual.ensures.1 in
    rw (exit.1, exit.2) (ended _ _ _ _ _ (within _ _ _ _ _ (previous_as c.args.store.now _ _
    (seen g.W.World c.args.world.now) (Err c.in_err-previous.field-0.0) (seen g.W.World c.read_previous.new.world)
    c.as_ref.ensures.value c.in_err-previous.ensures.step)))

pub returns-clause-steps : goal.returns-clause-steps
unfolding restores restores_from
returns-clause-steps g c =
    went _ _ _ _ _ _ _ (within _ _ _ _ _ (previous_as c.args.store.now _ _ (seen g.W.World c.args.world.now)
    (Ok c.in_ok-previous.previous) (seen g.W.World c.read_previous.new.world) c.as_ref.ensures.value
    c.in_ok-previous.ensures.step))
    (unnamed _ _ _ _ _ _ (group_from _ _ _ _ _ _ _ c.as_slice.ensures c.restore_from.ensures.steps))

pub returns-clause-files : goal.returns-clause-files
returns-clause-files g c =
    leaves_restored _ _ _ _ _ _ _ _ _ (within _ _ _ _ _ (previous_as c.args.store.now _ _
    (seen g.W.World c.args.world.now) (Ok c.in_ok-previous.previous) (seen g.W.World c.read_previous.new.world)
    c.as_ref.ensures.value c.in_ok-previous.ensures.step))
    (subst HavePartNames c.layers_of.ensures c.see_names.ensures)
    (group_from _ _ _ _ _ _ _ c.as_slice.ensures c.restore_from.ensures.steps)
