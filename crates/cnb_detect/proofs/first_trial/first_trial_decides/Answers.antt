use Rattle.cnb_detect.proofs.FirstTrialLaws.{detects_first_trial}
use Rattle.cnb_detect.proofs.first_trial.first_trial_decides.Goals as goal

pub returns : goal.returns
returns c = record { decides = detects_first_trial }
