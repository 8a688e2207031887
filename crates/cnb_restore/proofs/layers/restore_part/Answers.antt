use Rattle.cnb_restore.proofs.RestoreLemmas.{meta_so}
use Rattle.cnb_restore.proofs.layers.restore_part.Goals as goal

pub returns-in-Meta-clause-step : goal.returns-in-Meta-clause-step
returns-in-Meta-clause-step g c = meta_so _ _ _ _ _ _ _ c.in-Meta.is (c.restore_document.ensures.step _)
