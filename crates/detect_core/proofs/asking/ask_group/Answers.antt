use Rattle.std.proofs.Common.{◌∙◌, ◌++◌, refl, sym, ap, subst, List}
use Rattle.std.specs.List.{filter}
use Rattle.std.proofs.lemmas.Result.{err_from_is_err_and}
use Rattle.cnb_toml.specs.declared.names.Key.{Key}
use Rattle.cnb_world.specs.declared.child.DetectJob.{DetectJob}
use Rattle.cnb_world.specs.declared.child.Probed.{Probed}
use Rattle.steps.specs.Outside.{faults_of, spawners_seen}
use Rattle.detect_core.specs.Answer.{is_fit}
use Rattle.detect_core.specs.Asking.{rows_of, unmet, AreNew, RunsSome}
use Rattle.detect_core.specs.Kept.{keys_of}
use Rattle.detect_core.specs.Recorded.{answer_rows}
use Rattle.detect_core.proofs.AskingLemmas.{few_jobs, on_err, ran_all, ran_unkept, unmet_new}
use Rattle.detect_core.proofs.CountLemmas.{stayed}
use Rattle.detect_core.proofs.PoolLemmas.{ran_nobody}
use Rattle.detect_core.proofs.asking.ask_group.Goals as goal

pub returns-in_err-asked-clause-some : goal.returns-in_err-asked-clause-some
returns-in_err-asked-clause-some g c = on_err c.from_residual.result
    (ran_nobody _ (spawners_seen g.S.Spawner c.args.spawners.now.items))

pub returns-in_err-asked-clause-faults : goal.returns-in_err-asked-clause-faults
returns-in_err-asked-clause-faults g c =
    let exit = err_from_is_err_and c.from_residual.result c.from_residual.ensures.1 in
    let counts = faults_of (spawners_seen g.S.Spawner c.args.spawners.now.items) in
    rw (exit.1, exit.2) (stayed counts counts refl)

pub run_jobs-requires-clause-few : goal.run_jobs-requires-clause-few
run_jobs-requires-clause-few g c κs within =
    few_jobs c.args.frame.now (is_fit c.args.frame.now.target)
    (keys_of c.args.kept.now) c.args.group.now c.as_slice.result.now
    (c.as_slice.ensures ∙ c.in_ok-asked.ensures.jobs) c.requires.few

pub keep_answers-requires-clause-new : goal.keep_answers-requires-clause-new
keep_answers-requires-clause-new g c =
    subst (λ (keys : List Key). AreNew (keys_of c.args.kept.now) keys)
    (sym (c.as_slice-2.ensures ∙ c.in_ok-asked.ensures.keys))
    (unmet_new (keys_of c.args.kept.now) (filter (is_fit c.args.frame.now.target) c.args.group.now))

pub returns-in_err-keep_answers-clause-some : goal.returns-in_err-keep_answers-clause-some
returns-in_err-keep_answers-clause-some g c =
    let old = spawners_seen g.S.Spawner c.args.spawners.now.items in
    let new = spawners_seen g.S.Spawner c.run_jobs.new.spawners.items in
    on_err c.from_residual-in_err-keep_answers.result
    (subst (λ (jobs : List DetectJob). RunsSome jobs old new) (c.as_slice.ensures ∙ c.in_ok-asked.ensures.jobs)
    (ran_unkept c.as_slice.result.now c.in_ok-answers.answers.items old new c.in_ok-answers.ensures.answers
    c.in_ok-answers.ensures.all))

pub returns-in_err-keep_answers-clause-faults : goal.returns-in_err-keep_answers-clause-faults
returns-in_err-keep_answers-clause-faults g c =
    let exit = err_from_is_err_and c.from_residual-in_err-keep_answers.result
    c.from_residual-in_err-keep_answers.ensures.1 in
    rw (exit.1, exit.2)
    (stayed (faults_of (spawners_seen g.S.Spawner c.args.spawners.now.items))
    (faults_of (spawners_seen g.S.Spawner c.run_jobs.new.spawners.items)) c.in_ok-answers.ensures.faults)

pub returns-clause-all : goal.returns-clause-all
returns-clause-all g c =
    ran_all c.args.frame.now (unmet (keys_of c.args.kept.now)
    (filter (is_fit c.args.frame.now.target) c.args.group.now)) c.as_slice.result.now c.as_slice-2.result.now
    c.in_ok-answers.answers.items
    (spawners_seen g.S.Spawner c.args.spawners.now.items)
    (spawners_seen g.S.Spawner c.run_jobs.new.spawners.items) c.args.kept.now c.keep_answers.new.kept
    c.args.rows.now c.add_answers.new.rows
    (c.as_slice.ensures ∙ c.in_ok-asked.ensures.jobs) (c.as_slice-2.ensures ∙ c.in_ok-asked.ensures.keys)
    c.in_ok-answers.ensures.answers c.in_ok-answers.ensures.all
    (c.in_ok-keep_answers.ensures ∙ ap (λ (answers : List Probed). c.args.kept.now
    ++ rows_of c.as_slice-2.result.now answers) c.as_slice-3.ensures.value)
    (c.in_ok-add_answers.ensures ∙ ap (λ (keys : List Key). c.args.rows.now
    ++ answer_rows keys c.in_ok-answers.answers.items) (c.as_slice-4.ensures ∙ sym c.as_slice-2.ensures))

pub returns-in_err-add_answers-clause-some : goal.returns-in_err-add_answers-clause-some
returns-in_err-add_answers-clause-some g c =
    let old = spawners_seen g.S.Spawner c.args.spawners.now.items in
    let new = spawners_seen g.S.Spawner c.run_jobs.new.spawners.items in
    on_err c.from_residual-in_err-add_answers.result
    (subst (λ (jobs : List DetectJob). RunsSome jobs old new) (c.as_slice.ensures ∙ c.in_ok-asked.ensures.jobs)
    (ran_unkept c.as_slice.result.now c.in_ok-answers.answers.items old new c.in_ok-answers.ensures.answers
    c.in_ok-answers.ensures.all))

pub returns-in_err-add_answers-clause-faults : goal.returns-in_err-add_answers-clause-faults
returns-in_err-add_answers-clause-faults g c =
    let exit = err_from_is_err_and c.from_residual-in_err-add_answers.result
    c.from_residual-in_err-add_answers.ensures.1 in
    rw (exit.1, exit.2)
    (stayed (faults_of (spawners_seen g.S.Spawner c.args.spawners.now.items))
    (faults_of (spawners_seen g.S.Spawner c.run_jobs.new.spawners.items)) c.in_ok-answers.ensures.faults)
