use Rattle.ticket_pool.proofs.LawLemmas.{each_once}
use Rattle.ticket_pool.proofs.round.each_job_has_one_answer.Goals as goal

pub returns : goal.returns
returns c = each_once
