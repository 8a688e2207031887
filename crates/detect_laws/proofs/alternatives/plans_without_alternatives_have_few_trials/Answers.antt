use Rattle.detect_laws.proofs.AlternativeLaws.{one_alternative_is_few}
use Rattle.detect_laws.proofs.alternatives.plans_without_alternatives_have_few_trials.Goals as goal

pub returns : goal.returns
returns c = record { few = one_alternative_is_few }
