use Rattle.std.proofs.lemmas.Result.{err_from_is_err_and}
use Rattle.steps.proofs.StepLemmas.{ended, went}
use Rattle.cnb_detect.specs.Choice.{choice_in}
use Rattle.cnb_create.specs.Creates.{creates}
use Rattle.cnb_create.proofs.CreateLaws.{refused_keeps}
use Rattle.cnb_create.proofs.HeadlineLaws.{comes_to_image}
use Rattle.cnb_create.proofs.StandLaws.{created_stands}
use Rattle.cnb_create.proofs.SurroundingLemmas.{leaves_as, with_caches, with_outside, with_world}
use Rattle.cnb_create.proofs.creating.create_command.Goals as goal

pub returns-in_err-analyzed-clause-steps : goal.returns-in_err-analyzed-clause-steps
unfolding creates
returns-in_err-analyzed-clause-steps g c =
    let exit = err_from_is_err_and c.from_residual.result c.from_residual.ensures.1 in
    rw (exit.1, exit.2) (ended _ _ _ _ _ (with_world _ _ _ _ _ _ c.in_err-analyzed.ensures.steps))

pub returns-in_err-chosen-clause-steps : goal.returns-in_err-chosen-clause-steps
unfolding creates
returns-in_err-chosen-clause-steps g c =
    let exit = err_from_is_err_and c.from_residual-in_err-chosen.result c.from_residual-in_err-chosen.ensures.1 in
    rw (exit.1, exit.2) (went _ _ _ _ _ _ _ (with_world _ _ _ _ _ _ c.in_ok-analyzed.ensures.steps)
    (ended _ _ _ _ _ (with_outside _ _ _ _ _ c.in_err-chosen.ensures.steps)))

pub returns-in_err-restored-clause-steps : goal.returns-in_err-restored-clause-steps
unfolding creates
returns-in_err-restored-clause-steps g c =
    let exit = err_from_is_err_and c.from_residual-in_err-restored.result c.from_residual-in_err-restored.ensures.1 in
    rw (exit.1, exit.2) (went _ _ _ _ _ _ _ (with_world _ _ _ _ _ _ c.in_ok-analyzed.ensures.steps)
    (went _ _ _ _ _ (choice_in c.in_ok-chosen.chosen) _ (with_outside _ _ _ _ _ c.in_ok-chosen.ensures.steps)
    (ended _ _ _ _ _ (with_caches _ _ _ _ _ c.in_err-restored.ensures.steps))))

pub returns-in_err-build_group-clause-steps : goal.returns-in_err-build_group-clause-steps
unfolding creates
returns-in_err-build_group-clause-steps g c =
    let exit = err_from_is_err_and c.from_residual-in_err-build_group.result
    c.from_residual-in_err-build_group.ensures.1 in
    rw (exit.1, exit.2) (went _ _ _ _ _ _ _ (with_world _ _ _ _ _ _ c.in_ok-analyzed.ensures.steps)
    (went _ _ _ _ _ (choice_in c.in_ok-chosen.chosen) _ (with_outside _ _ _ _ _ c.in_ok-chosen.ensures.steps)
    (went _ _ _ _ _ _ _ (with_caches _ _ _ _ _ c.in_ok-restored.ensures.steps)
    (ended _ _ _ _ _ (with_world _ _ _ _ _ _ c.in_err-build_group.ensures.steps)))))

pub returns-clause-steps : goal.returns-clause-steps
unfolding creates
returns-clause-steps g c =
    went _ _ _ _ _ _ _ (with_world _ _ _ _ _ _ c.in_ok-analyzed.ensures.steps)
    (went _ _ _ _ _ (choice_in c.in_ok-chosen.chosen) _ (with_outside _ _ _ _ _ c.in_ok-chosen.ensures.steps)
    (went _ _ _ _ _ _ _ (with_caches _ _ _ _ _ c.in_ok-restored.ensures.steps)
    (went _ _ _ _ _ _ _ (with_world _ _ _ _ _ _ c.in_ok-build_group.ensures.steps)
    (with_caches _ _ _ _ _ (leaves_as _ _ _ _ _ _ _ _ _ c.as_slice-entries.ensures c.leave_image.ensures.steps)))))

pub returns-in_err-analyzed-clause-headline : goal.returns-in_err-analyzed-clause-headline
returns-in_err-analyzed-clause-headline g c = comes_to_image c.args.options.now c.args.env.now
    c.as_str-work.ensures.is_path _ _ _ (returns-in_err-analyzed-clause-steps g c)

pub returns-in_err-analyzed-clause-image : goal.returns-in_err-analyzed-clause-image
returns-in_err-analyzed-clause-image g c = refused_keeps c.args.options.now c.args.env.now _ _ _
    c.as_str-layers.ensures.is_path (returns-in_err-analyzed-clause-steps g c)

pub returns-in_err-chosen-clause-headline : goal.returns-in_err-chosen-clause-headline
returns-in_err-chosen-clause-headline g c = comes_to_image c.args.options.now c.args.env.now
    c.as_str-work.ensures.is_path _ _ _ (returns-in_err-chosen-clause-steps g c)

pub returns-in_err-chosen-clause-image : goal.returns-in_err-chosen-clause-image
returns-in_err-chosen-clause-image g c = refused_keeps c.args.options.now c.args.env.now _ _ _
    c.as_str-layers.ensures.is_path (returns-in_err-chosen-clause-steps g c)

pub returns-in_err-restored-clause-headline : goal.returns-in_err-restored-clause-headline
returns-in_err-restored-clause-headline g c = comes_to_image c.args.options.now c.args.env.now
    c.as_str-work.ensures.is_path _ _ _ (returns-in_err-restored-clause-steps g c)

pub returns-in_err-restored-clause-image : goal.returns-in_err-restored-clause-image
returns-in_err-restored-clause-image g c = refused_keeps c.args.options.now c.args.env.now _ _ _
    c.as_str-layers.ensures.is_path (returns-in_err-restored-clause-steps g c)

pub returns-in_err-build_group-clause-headline : goal.returns-in_err-build_group-clause-headline
returns-in_err-build_group-clause-headline g c = comes_to_image c.args.options.now c.args.env.now
    c.as_str-work.ensures.is_path _ _ _ (returns-in_err-build_group-clause-steps g c)

pub returns-in_err-build_group-clause-image : goal.returns-in_err-build_group-clause-image
returns-in_err-build_group-clause-image g c = refused_keeps c.args.options.now c.args.env.now _ _ _
    c.as_str-layers.ensures.is_path (returns-in_err-build_group-clause-steps g c)

pub returns-clause-headline : goal.returns-clause-headline
returns-clause-headline g c = comes_to_image c.args.options.now c.args.env.now c.as_str-work.ensures.is_path _ _ _
    (returns-clause-steps g c)

pub returns-clause-image : goal.returns-clause-image
returns-clause-image g c = refused_keeps c.args.options.now c.args.env.now _ _ _ c.as_str-layers.ensures.is_path
    (returns-clause-steps g c)

pub returns-clause-stands : goal.returns-clause-stands
returns-clause-stands g c = created_stands c.args.options.now c.args.env.now _ _ _ (returns-clause-steps g c)
