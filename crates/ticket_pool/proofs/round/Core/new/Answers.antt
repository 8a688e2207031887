use Rattle.ticket_pool.proofs.PlaceLemmas.{round_of_lists-none}
use Rattle.ticket_pool.proofs.round.Core.new.Goals as goal

pub returns-clause-round : goal.returns-clause-round
returns-clause-round c = round_of_lists-none c.args.workers c.args.jobs _ _ c.in_ok-held.ensures c.in_ok-answers.ensures
