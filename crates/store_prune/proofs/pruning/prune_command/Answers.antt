use Rattle.std.proofs.Common.{ap, refl, sym, Ok}
use Rattle.std.proofs.lemmas.Result.{err_from_is_err_and}
use Rattle.steps.proofs.StepLemmas.{ended, given, no_memory, went, yielded}
use Rattle.store_prune.specs.Prunes.{prunes_command}
use Rattle.store_prune.specs.declared.fault.PruneFault.{PruneFault}
use Rattle.store_prune.specs.declared.fault.PruneFault.TheVariants.{Memory}
use Rattle.store_prune.proofs.ImageLaws.{images_kept}
use Rattle.store_prune.proofs.NamedLaws.{named_stand}
use Rattle.store_prune.proofs.PruneLaws.{command_keeps, command_prunes}
use Rattle.store_prune.proofs.PruneSteps.{trees_at}
use Rattle.store_prune.proofs.pruning.prune_command.Goals as goal

pub returns-in_err-pruned-clause-steps : goal.returns-in_err-pruned-clause-steps
unfolding prunes_command
returns-in_err-pruned-clause-steps g c =
    let exit = err_from_is_err_and c.from_residual.result c.from_residual.ensures.1 in
    rw (exit.1, exit.2) (ended _ _ _ _ _ c.in_err-pruned.ensures.steps)

pub returns-in_err-text-clause-steps : goal.returns-in_err-text-clause-steps
unfolding prunes_command
returns-in_err-text-clause-steps g c =
    let exit = err_from_is_err_and c.from_residual-in_err-text.result c.from_residual-in_err-text.ensures.1 in
    rw (exit.1, exit.2) (went _ _ _ _ _ _ _ c.in_ok-pruned.ensures.steps
    (ended _ _ _ _ _ (no_memory _ _ _ Memory refl)))

pub returns-in_err-remove_trees-clause-steps : goal.returns-in_err-remove_trees-clause-steps
unfolding prunes_command
returns-in_err-remove_trees-clause-steps g c =
    let exit = err_from_is_err_and c.from_residual-in_err-remove_trees.result
    c.from_residual-in_err-remove_trees.ensures.1 in
    rw (exit.1, exit.2) (went _ _ _ _ _ _ _ c.in_ok-pruned.ensures.steps
    (went _ _ _ _ _ _ _ (given _ _ _ _ (ap Ok (sym c.in_ok-text.ensures)))
    (ended _ _ _ _ _ (trees_at _ _ _ _ _ _ c.as_slice.ensures c.in_err-remove_trees.ensures.steps))))

pub returns-clause-steps : goal.returns-clause-steps
unfolding prunes_command
returns-clause-steps g c =
    went _ _ _ _ _ _ _ c.in_ok-pruned.ensures.steps
    (went _ _ _ _ _ _ _ (given _ _ _ _ (ap Ok (sym c.in_ok-text.ensures)))
    (went _ _ _ _ _ _ _ (trees_at _ _ _ _ _ _ c.as_slice.ensures c.in_ok-remove_trees.ensures.steps)
    (yielded PruneFault _ _)))

pub returns-in_err-pruned-clause-kept : goal.returns-in_err-pruned-clause-kept
returns-in_err-pruned-clause-kept g c = command_keeps c.args.options.now _ _ _ (returns-in_err-pruned-clause-steps g c)

pub returns-in_err-text-clause-kept : goal.returns-in_err-text-clause-kept
returns-in_err-text-clause-kept g c = command_keeps c.args.options.now _ _ _ (returns-in_err-text-clause-steps g c)

pub returns-in_err-remove_trees-clause-kept : goal.returns-in_err-remove_trees-clause-kept
returns-in_err-remove_trees-clause-kept g c = command_keeps c.args.options.now _ _ _
    (returns-in_err-remove_trees-clause-steps g c)

pub returns-clause-kept : goal.returns-clause-kept
returns-clause-kept g c = command_keeps c.args.options.now _ _ _ (returns-clause-steps g c)

pub returns-in_err-pruned-clause-named : goal.returns-in_err-pruned-clause-named
returns-in_err-pruned-clause-named g c = named_stand c.args.options.now.store _ _
    (returns-in_err-pruned-clause-kept g c)

pub returns-in_err-text-clause-named : goal.returns-in_err-text-clause-named
returns-in_err-text-clause-named g c = named_stand c.args.options.now.store _ _ (returns-in_err-text-clause-kept g c)

pub returns-in_err-remove_trees-clause-named : goal.returns-in_err-remove_trees-clause-named
returns-in_err-remove_trees-clause-named g c = named_stand c.args.options.now.store _ _
    (returns-in_err-remove_trees-clause-kept g c)

pub returns-clause-named : goal.returns-clause-named
returns-clause-named g c = named_stand c.args.options.now.store _ _ (returns-clause-kept g c)

pub returns-in_err-pruned-clause-images : goal.returns-in_err-pruned-clause-images
returns-in_err-pruned-clause-images g c = images_kept c.args.options.now.store _ _
    (g.W.World.standing c.args.world.now) (returns-in_err-pruned-clause-kept g c)

pub returns-in_err-text-clause-images : goal.returns-in_err-text-clause-images
returns-in_err-text-clause-images g c = images_kept c.args.options.now.store _ _
    (g.W.World.standing c.args.world.now) (returns-in_err-text-clause-kept g c)

pub returns-in_err-remove_trees-clause-images : goal.returns-in_err-remove_trees-clause-images
returns-in_err-remove_trees-clause-images g c = images_kept c.args.options.now.store _ _
    (g.W.World.standing c.args.world.now) (returns-in_err-remove_trees-clause-kept g c)

pub returns-clause-images : goal.returns-clause-images
returns-clause-images g c = images_kept c.args.options.now.store _ _ (g.W.World.standing c.args.world.now)
    (returns-clause-kept g c)

pub returns-in_err-pruned-clause-removed : goal.returns-in_err-pruned-clause-removed
returns-in_err-pruned-clause-removed g c = command_prunes c.args.options.now _ _ _
    (returns-in_err-pruned-clause-steps g c)

pub returns-in_err-text-clause-removed : goal.returns-in_err-text-clause-removed
returns-in_err-text-clause-removed g c = command_prunes c.args.options.now _ _ _
    (returns-in_err-text-clause-steps g c)

pub returns-in_err-remove_trees-clause-removed : goal.returns-in_err-remove_trees-clause-removed
returns-in_err-remove_trees-clause-removed g c = command_prunes c.args.options.now _ _ _
    (returns-in_err-remove_trees-clause-steps g c)

pub returns-clause-removed : goal.returns-clause-removed
returns-clause-removed g c = command_prunes c.args.options.now _ _ _
    (returns-clause-steps g c)
