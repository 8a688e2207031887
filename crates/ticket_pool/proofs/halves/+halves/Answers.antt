use Rattle.ticket_pool.specs.Passes.{spawners_of, view_of}
use Rattle.ticket_pool.proofs.JoinLemmas.{worked-append}
use Rattle.ticket_pool.proofs.halves.+halves.Goals as goal

pub run_halves-returns-clause-worked : goal.run_halves-returns-clause-worked
run_halves-returns-clause-worked g t c = rw c.joined.ensures
    (worked-append g.S.Spawner.runs g.S.Spawner.says g.S.Spawner.faults _ c.args.jobs.now
    (spawners_of c.args.round.now) c.args.spawners.now _ _ _ _ _ _ _ _ (view_of c.join.new.pass) _ _
    c.split_at_mut-low.ensures.value c.run_both-left.ensures.left c.run_both-left.ensures.right
    c.join.ensures.both c.join.ensures.ascending c.join.ensures.whole)
