use Rattle.std.proofs.Common.{◌≡◌, ◌∙◌, refl, sym, length, take}
use Rattle.std.specs.Prelude.{min}
use Rattle.std.proofs.lemmas.Bool.{eqb-true}
use Rattle.std.proofs.lemmas.Result.{err_from_is_err_and}
use Rattle.steps.specs.Asking.{AskedBy}
use Rattle.steps.specs.Outside.{faults_of, spawner_seen, spawners_seen}
use Rattle.ticket_pool.specs.Deal.{RanAll, RanSome, recorded}
use Rattle.detect_core.specs.Asking.{RunsSome}
use Rattle.detect_core.proofs.AskingLemmas.{on_err}
use Rattle.detect_core.proofs.CountLemmas.{pool_counts, stayed}
use Rattle.detect_core.proofs.PoolLemmas.{asked_all, asked_nobody, asked_some, both_ok, err_so, ran_nobody}
use Rattle.detect_core.proofs.side_by_side.run_jobs.Goals as goal

pub returns-then-is_empty-clause-all : goal.returns-then-is_empty-clause-all
returns-then-is_empty-clause-all g c =
    let none = eqb-true (length c.args.jobs.now) 0 (sym c.is_empty.ensures ∙ c.if-is_empty.true) in
    asked_nobody c.args.jobs.now c.new.result.items (spawners_seen g.S.Spawner c.args.spawners.now.items) none

pub returns-in_err-round-clause-some : goal.returns-in_err-round-clause-some
returns-in_err-round-clause-some g c = on_err c.from_residual.result
    (ran_nobody c.args.jobs.now (spawners_seen g.S.Spawner c.args.spawners.now.items))

pub returns-in_err-round-clause-faults : goal.returns-in_err-round-clause-faults
returns-in_err-round-clause-faults g c =
    let exit = err_from_is_err_and c.from_residual.result c.from_residual.ensures.1 in
    let counts = faults_of (spawners_seen g.S.Spawner c.args.spawners.now.items) in
    rw (exit.1, exit.2) (stayed counts counts refl)

pub returns-clause-all : goal.returns-clause-all
returns-clause-all g c =
    let olds = c.args.spawners.now.items in
    let news = c.run_all.new.spawners.items in
    let used = min c.min-workers.result (length olds) in
    both_ok (λ answers. length answers.items ≡ length c.args.jobs.now)
    (λ answers. RanAll g.S.Spawner.runs c.args.jobs.now answers.items (take used olds) (take used news))
    (λ answers. AskedBy (recorded c.args.jobs.now answers.items) (spawners_seen g.S.Spawner olds)
    (spawners_seen g.S.Spawner news))
    c.run_all.result c.run_all.ensures.answers c.run_all.ensures.all
    (λ answers long ran. asked_all (spawner_seen g.S.Spawner) used olds news c.run_all.ensures.others
    c.run_all.ensures.same_says c.run_all.ensures.said c.args.jobs.now answers.items long ran)

pub returns-clause-some : goal.returns-clause-some
returns-clause-some g c =
    let olds = c.args.spawners.now.items in
    let news = c.run_all.new.spawners.items in
    let used = min c.min-workers.result (length olds) in
    err_so (RanSome g.S.Spawner.runs c.args.jobs.now (take used olds) (take used news))
    (RunsSome c.args.jobs.now (spawners_seen g.S.Spawner olds) (spawners_seen g.S.Spawner news))
    c.run_all.result c.run_all.ensures.some
    (asked_some (spawner_seen g.S.Spawner) used olds news c.run_all.ensures.others c.run_all.ensures.same_says
    c.run_all.ensures.said c.args.jobs.now)

pub returns-clause-faults : goal.returns-clause-faults
returns-clause-faults g c = pool_counts (spawner_seen g.S.Spawner) c.run_all.result c.args.spawners.now.items
    c.run_all.new.spawners.items c.run_all.ensures.counts
