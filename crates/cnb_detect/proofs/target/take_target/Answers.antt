use Rattle.cnb_detect.proofs.TargetLemmas.{given_named, takes_given, takes_read}
use Rattle.cnb_detect.proofs.target.take_target.Goals as goal

pub returns-in-Document-clause-step : goal.returns-in-Document-clause-step
returns-in-Document-clause-step g c = takes_read _ _ _ _ _ c.in-Document.is c.read.ensures.step

pub returns-in-Given-clause-step : goal.returns-in-Given-clause-step
returns-in-Given-clause-step g c = takes_given _ _ _ _ _ c.in-Given.is c.given.ensures.answer c.given.ensures.cause

pub returns-in-Given-clause-named : goal.returns-in-Given-clause-named
returns-in-Given-clause-named g c = λ named. given_named _ _ _ c.in-Given.is c.given.ensures.answer named
