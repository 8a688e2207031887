use Rattle.cnb_lifecycle.proofs.DetectingLemmas.{detects_so, free_so}
use Rattle.cnb_lifecycle.proofs.running.run_detect.Goals as goal

pub run_recorded-requires-clause-place : goal.run_recorded-requires-clause-place
run_recorded-requires-clause-place g c κs within = free_so c.args.options.now.choice.work _ _ c.in-Some.is
    c.requires.limits.is_free

pub returns-in-None : goal.returns-in-None
returns-in-None g c = record { steps = detects_so _ _ _ _ _ _ _ c.in-None.is c.run_choice.ensures.steps }

pub returns-in-Some : goal.returns-in-Some
returns-in-Some g c = record { steps = detects_so _ _ _ _ _ _ _ c.in-Some.is c.run_recorded.ensures.steps }
