use Rattle.std.proofs.Common.{◌∙◌, ap, refl, subst, sym, IsTrue, Ok}
use Rattle.std.proofs.lemmas.Result.{err_from_is_err_and}
use Rattle.steps.proofs.StepLemmas.{ended, given, no_memory, went, yielded}
use Rattle.tree_store.specs.declared.fault.StoreFault.TheVariants as stored
use Rattle.cnb_layers.specs.declared.fault.ExportFault.{ExportFault}
use Rattle.cnb_layers.specs.declared.fault.ExportFault.TheVariants.{Store}
use Rattle.cnb_export.specs.Exports.{gains_over}
use Rattle.cnb_export.specs.declared.exporting.Gained.{Gained}
use Rattle.image_docs.specs.CacheRows.{is_cache_doc}
use Rattle.steps.specs.Outside.{seen}
use Rattle.cnb_layers.specs.Buildpack.{exports_group}
use Rattle.cnb_export.specs.Trees.{puts_trees}
use Rattle.image_docs.specs.Image.{is_image_doc}
use Rattle.run_docs.specs.Group.{is_group_doc}
use Rattle.cnb_layers.proofs.GatherLaws.{group_gathers}
use Rattle.cnb_export.proofs.ImageLaws.{image_readable}
use Rattle.cnb_layers.proofs.ReadSteps.{same_for}
use Rattle.cnb_export.proofs.exporting.gain_over.Goals as goal

pub returns-in_err-gathered-clause-step : goal.returns-in_err-gathered-clause-step
unfolding gains_over
returns-in_err-gathered-clause-step g c =
    let exit = err_from_is_err_and c.from_residual.result c.from_residual.ensures.1 in
    rw (exit.1, exit.2) (ended _ _ _ _ _ (same_for (exports_group c.args.frame.now c.args.previous.now) _ _ _ _ _
    c.as_slice.ensures c.in_err-gathered.ensures.step))

pub returns-in_err-digests-clause-step : goal.returns-in_err-digests-clause-step
unfolding gains_over
returns-in_err-digests-clause-step g c =
    let exit = err_from_is_err_and c.from_residual-in_err-digests.result c.from_residual-in_err-digests.ensures.1 in
    rw (exit.1, exit.2) (went _ _ _ _ _ _ _ (same_for (exports_group c.args.frame.now c.args.previous.now) _ _ _ _
    _ c.as_slice.ensures c.in_ok-gathered.ensures.step)
    (ended _ _ _ _ _ (same_for (puts_trees c.args.frame.now c.in_ok-gathered.gathered.slices) _ _ _ _ _
    c.as_slice-2.ensures c.in_err-digests.ensures.step)))

pub returns-in_err-gained-clause-step : goal.returns-in_err-gained-clause-step
unfolding gains_over
returns-in_err-gained-clause-step g c =
    let exit = err_from_is_err_and c.from_residual-in_err-gained.result c.from_residual-in_err-gained.ensures.1 in
    rw (exit.1, exit.2) (went _ _ _ _ _ _ _ (same_for (exports_group c.args.frame.now c.args.previous.now) _ _ _ _
    _ c.as_slice.ensures c.in_ok-gathered.ensures.step)
    (went _ _ _ _ _ _ _ (same_for (puts_trees c.args.frame.now c.in_ok-gathered.gathered.slices) _ _ _ _ _
    c.as_slice-2.ensures c.in_ok-digests.ensures.step)
    (ended _ _ _ _ _ (no_memory _ _ _ (Store stored.Memory) refl))))

pub returns-clause-step : goal.returns-clause-step
unfolding gains_over
returns-clause-step g c =
    subst (λ (gained : Gained). gains_over c.args.frame.now c.args.image_frame.now.group.now
    c.args.image_frame.now.name.now c.args.image_frame.now.run.now c.args.previous.now
    (seen g.W.World c.args.world.now) (Ok gained) (seen g.W.World c.put_trees.new.world))
    (sym c.in_ok-gained.ensures.gained)
    (went _ _ _ _ _ _ _ (same_for (exports_group c.args.frame.now c.args.previous.now) _ _ _ _ _
    c.as_slice.ensures c.in_ok-gathered.ensures.step)
    (went _ _ _ _ _ _ _ (same_for (puts_trees c.args.frame.now c.in_ok-gathered.gathered.slices) _ _ _ _ _
    c.as_slice-2.ensures c.in_ok-digests.ensures.step)
    (went _ _ _ _ _ _ _ (given _ _ _ _ refl) (went _ _ _ _ _ _ _ (given _ _ _ _ refl)
    (yielded ExportFault _ _)))))

pub returns-clause-readable : goal.returns-clause-readable
returns-clause-readable g c = λ distinct.
    subst (λ (gained : Gained). IsTrue (is_image_doc gained.image)) (sym c.in_ok-gained.ensures.gained)
    (image_readable c.args.image_frame.now.name.now c.args.image_frame.now.run.now
    c.args.image_frame.now.group.now c.in_ok-gathered.gathered c.in_ok-digests.digests c.named.ensures
    c.requires.run
    (group_gathers _ _ _ _ _ _ (ap is_group_doc c.as_slice.ensures ∙ distinct) c.in_ok-gathered.ensures.step)
    c.in_ok-gained.ensures.placed c.in_ok-gained.ensures.started)

pub returns-clause-cacheable : goal.returns-clause-cacheable
returns-clause-cacheable g c = λ distinct.
    subst (λ (gained : Gained). IsTrue (is_cache_doc gained.cached)) (sym c.in_ok-gained.ensures.gained)
    (group_gathers _ _ _ _ _ _ (ap is_group_doc c.as_slice.ensures ∙ distinct) c.in_ok-gathered.ensures.step).cached
