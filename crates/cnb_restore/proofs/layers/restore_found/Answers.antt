use Rattle.cnb_restore.proofs.RestoreLemmas.{found_so}
use Rattle.cnb_restore.proofs.layers.restore_found.Goals as goal

pub returns-in-Laid-clause-step : goal.returns-in-Laid-clause-step
returns-in-Laid-clause-step g c caches = found_so _ _ _ _ _ _ _ c.in-Laid.is (c.restore_document.ensures.step caches)
