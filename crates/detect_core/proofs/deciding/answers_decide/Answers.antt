use Rattle.detect_core.proofs.DecidingLemmas.{same_answers}
use Rattle.detect_core.proofs.deciding.answers_decide.Goals as goal

pub returns : goal.returns
returns c = record { decide = same_answers }
