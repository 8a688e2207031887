use Rattle.shelf_set.proofs.GatherLemmas.{again}
use Rattle.shelf_set.proofs.gathering.gather.Goals as goal

pub returns-in_err-gone-clause-again : goal.returns-in_err-gone-clause-again
returns-in_err-gone-clause-again g c = again _ _ _ _ _ _ _ c.give_each-given.ensures c.part.ensures.left

pub returns-in_err-given-clause-again : goal.returns-in_err-given-clause-again
returns-in_err-given-clause-again g c = again _ _ _ _ _ _ _ c.give_each-given.ensures c.part.ensures.left

pub returns-in_err-rows-clause-again : goal.returns-in_err-rows-clause-again
returns-in_err-rows-clause-again g c = again _ _ _ _ _ _ _ c.give_each-given.ensures c.part.ensures.left

pub returns-clause-again : goal.returns-clause-again
returns-clause-again g c = again _ _ _ _ _ _ _ c.give_each-given.ensures c.part.ensures.left
