use Rattle.std.proofs.lemmas.Result.{err_from_is_err_and}
use Rattle.steps.proofs.StepLemmas.{ended, went, within}
use Rattle.cnb_detect.specs.declared.target.TargetSource.TheVariants.{Document}
use Rattle.cnb_record.specs.DetectsRecorded.{detects_recorded}
use Rattle.cnb_record.proofs.ChoosingLemmas.{room_below, room_beside}
use Rattle.cnb_record.proofs.RecordLaws.{comes_to_recorded}
use Rattle.cnb_record.proofs.detection.detect_recorded.Goals as goal

pub write_recorded-requires-clause-beside : goal.write_recorded-requires-clause-beside
write_recorded-requires-clause-beside g c = room_beside c.args.options.now.work c.args.path.now c.requires.place

pub write_recorded-requires-clause-not_root : goal.write_recorded-requires-clause-not_root
write_recorded-requires-clause-not_root g c = room_below c.args.options.now.work c.args.path.now c.requires.place

pub returns-in_err-found-clause-steps : goal.returns-in_err-found-clause-steps
unfolding detects_recorded
returns-in_err-found-clause-steps g c =
    let exit = err_from_is_err_and c.from_residual.result c.from_residual.ensures.1 in
    rw (exit.1, exit.2) (ended _ _ _ _ _ c.in_err-found.ensures.steps)

pub returns-clause-steps : goal.returns-clause-steps
unfolding detects_recorded
returns-clause-steps g c = went _ _ _ _ _ _ _ c.in_ok-found.ensures.steps
    (within _ _ _ _ _ c.write_recorded.ensures.steps)

pub returns-in_err-found-clause-outcome : goal.returns-in_err-found-clause-outcome
returns-in_err-found-clause-outcome g c =
    comes_to_recorded Document c.args.options.now c.args.path.now c.args.env.now c.as_str-work.ensures.is_path
    c.requires.place _ _ _ (returns-in_err-found-clause-steps g c)

pub returns-clause-outcome : goal.returns-clause-outcome
returns-clause-outcome g c =
    comes_to_recorded Document c.args.options.now c.args.path.now c.args.env.now c.as_str-work.ensures.is_path
    c.requires.place _ _ _ (returns-clause-steps g c)
