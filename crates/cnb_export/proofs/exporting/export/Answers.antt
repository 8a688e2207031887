use Rattle.std.proofs.Common.{◌∙◌, ap, map, refl, sym, Ok}
use Rattle.std.proofs.lemmas.Result.{err_from_is_err_and}
use Rattle.steps.proofs.StepLemmas.{ended, given, mapped, mapped_fault, no_memory, went, yielded}
use Rattle.tree_store.specs.declared.fault.StoreFault.TheVariants as stored
use Rattle.cnb_layers.specs.declared.fault.ExportFault.{ExportFault}
use Rattle.cnb_layers.specs.declared.fault.ExportFault.TheVariants.{Store}
use Rattle.run_docs.specs.Group.{is_group_doc}
use Rattle.cnb_export.specs.Exports.{exports, folder_of}
use Rattle.shelf_set.proofs.CacheLemmas.{within}
use Rattle.cnb_export.proofs.ExportSteps.{stored_where}
use Rattle.cnb_export.proofs.OneImageLaws.{one_image}
use Rattle.cnb_export.proofs.exporting.export.Goals as goal

pub returns-in_err-gained-clause-steps : goal.returns-in_err-gained-clause-steps
unfolding exports
returns-in_err-gained-clause-steps g c =
    let exit = err_from_is_err_and c.from_residual.result c.from_residual.ensures.1 in
    rw (exit.1, exit.2) (ended _ _ _ _ _ (within _ _ _ _ _ c.in_err-gained.ensures.step))

pub returns-in_err-folders-clause-steps : goal.returns-in_err-folders-clause-steps
unfolding exports
returns-in_err-folders-clause-steps g c =
    let exit = err_from_is_err_and c.from_residual-in_err-folders.result c.from_residual-in_err-folders.ensures.1 in
    rw (exit.1, exit.2) (went _ _ _ _ _ _ _ (within _ _ _ _ _ c.in_ok-gained.ensures.step)
    (ended _ _ _ _ _ (no_memory _ _ _ (Store stored.Memory) refl)))

pub returns-in_err-gone-clause-steps : goal.returns-in_err-gone-clause-steps
unfolding exports
returns-in_err-gone-clause-steps g c =
    let exit = err_from_is_err_and c.from_residual-in_err-gone.result c.from_residual-in_err-gone.ensures.1 in
    rw (exit.1, exit.2) (went _ _ _ _ _ _ _ (within _ _ _ _ _ c.in_ok-gained.ensures.step)
    (went _ _ _ _ _ _ _ (given _ _ _ _ (ap Ok (sym (c.in_ok-folders.ensures.folders
    ∙ ap (map (folder_of c.args.frame.now.layers)) c.as_slice.ensures))))
    (ended _ _ _ _ _ (mapped_fault Store _ _ _ c.in_err-gone.field-0.0
    (stored_where _ (is_group_doc c.args.group.now) c.in_ok-gained.ensures.cacheable _ _ _ _ _
    c.in_err-gone.ensures.stores)))))

pub returns-clause-steps : goal.returns-clause-steps
unfolding exports
returns-clause-steps g c =
    went _ _ _ _ _ _ _ (within _ _ _ _ _ c.in_ok-gained.ensures.step)
    (went _ _ _ _ _ _ _ (given _ _ _ _ (ap Ok (sym (c.in_ok-folders.ensures.folders
    ∙ ap (map (folder_of c.args.frame.now.layers)) c.as_slice.ensures))))
    (went _ _ _ _ _ _ _ (mapped Store _ _ _ _ (stored_where _ (is_group_doc c.args.group.now)
    c.in_ok-gained.ensures.cacheable _ _ _ _ _ c.in_ok-gone.ensures.stores)) (yielded ExportFault _ _)))

pub returns-in_err-gained-clause-one_image : goal.returns-in_err-gained-clause-one_image
returns-in_err-gained-clause-one_image g c = one_image _ _ _ _ _ _ _ (returns-in_err-gained-clause-steps g c)

pub returns-in_err-folders-clause-one_image : goal.returns-in_err-folders-clause-one_image
returns-in_err-folders-clause-one_image g c = one_image _ _ _ _ _ _ _ (returns-in_err-folders-clause-steps g c)

pub returns-in_err-gone-clause-one_image : goal.returns-in_err-gone-clause-one_image
returns-in_err-gone-clause-one_image g c = one_image _ _ _ _ _ _ _ (returns-in_err-gone-clause-steps g c)

pub returns-clause-one_image : goal.returns-clause-one_image
returns-clause-one_image g c = one_image _ _ _ _ _ _ _ (returns-clause-steps g c)
