use Rattle.std.proofs.Common.{◌++◌, length, drop, sym, ◌∙◌}
use Rattle.ticket_pool.proofs.PoolLemmas.{counts_beside_others, lent_first, said_beside}
use Rattle.ticket_pool.proofs.pool.run_all.Goals as goal

pub returns-clause-said : goal.returns-clause-said
returns-clause-said g c =
    let cut = sym c.as_mut_slice.ensures.value ∙ c.split_at_mut-front.ensures.value in
    let back = lent_first c.args.spawners.now.items c.split_at_mut-front.result.0.now c.run_used.new.spawners
    c.split_at_mut-front.result.1.now cut
    (drop (length (c.run_used.new.spawners ++ c.split_at_mut-front.result.1.now)) c.args.spawners.now.items)
    c.args.spawners.now.len c.args.spawners.now.ok.0 c.run_used.auto.spawners in
    said_beside c.args.spawners.now.items c.split_at_mut-front.result.0.now c.run_used.new.spawners
    c.split_at_mut-front.result.1.now cut g.S.Spawner.runs g.S.Spawner.says _ back c.run_used.ensures.said

pub returns-clause-counts : goal.returns-clause-counts
returns-clause-counts g c =
    let cut = sym c.as_mut_slice.ensures.value ∙ c.split_at_mut-front.ensures.value in
    let back = lent_first c.args.spawners.now.items c.split_at_mut-front.result.0.now c.run_used.new.spawners
    c.split_at_mut-front.result.1.now cut
    (drop (length (c.run_used.new.spawners ++ c.split_at_mut-front.result.1.now)) c.args.spawners.now.items)
    c.args.spawners.now.len c.args.spawners.now.ok.0 c.run_used.auto.spawners in
    counts_beside_others c.args.spawners.now.items c.split_at_mut-front.result.0.now c.run_used.new.spawners
    c.split_at_mut-front.result.1.now cut g.S.Spawner.faults c.run_used.result _ back
    c.run_used.ensures.counts
