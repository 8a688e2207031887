use Rattle.std.proofs.Common.{Err}
use Rattle.steps.specs.Outside.{outside}
use Rattle.steps.specs.Steps.{gives}
use Rattle.cnb_lifecycle.specs.Commands.{after_words, does}
use Rattle.cnb_lifecycle.specs.Faults.{cause_of}
use Rattle.cnb_create.specs.Surroundings.{surroundings}
use Rattle.cnb_lifecycle.proofs.CauseLemmas.{cause_of_child, cause_of_file}
use Rattle.cnb_lifecycle.proofs.CountLaws.{ends_counted, words_count}
use Rattle.cnb_lifecycle.proofs.EndLemmas.{stood}
use Rattle.cnb_lifecycle.proofs.FirstTrialLaws.{first_trial}
use Rattle.cnb_lifecycle.proofs.FitLaws.{minds_paths}
use Rattle.cnb_lifecycle.proofs.KeepLaws.{keeps_image}
use Rattle.cnb_lifecycle.proofs.LeaveLemmas.{leaves_image}
use Rattle.cnb_lifecycle.proofs.OutcomeLaws.{create_headline, detect_outcome}
use Rattle.cnb_lifecycle.proofs.WordLaws.{has_paths}
use Rattle.cnb_lifecycle.proofs.top.lifecycle.Goals as goal

pub returns-clause-refused : goal.returns-clause-refused
returns-clause-refused g c =
    ends_counted _ (λ refusal. gives cause_of (Err refusal)) _ c.args.env.now _ _ _ _ _ _ _ _
    (stood _ (λ refusal. gives cause_of (Err refusal)) _ _ _ _ _ c.run_words-end.ensures.refused)
    c.run_words-end.ensures.refused c.run_words-end.ensures.does c.finish.ensures.finishes

pub returns-clause-does : goal.returns-clause-does
returns-clause-does g c =
    ends_counted _ (λ asked. after_words (does asked c.args.env.now)) _ c.args.env.now _ _ _ _ _ _ _ _
    c.run_words-end.ensures.does c.run_words-end.ensures.refused c.run_words-end.ensures.does
    c.finish.ensures.finishes

pub returns-clause-outcome : goal.returns-clause-outcome
returns-clause-outcome g c = detect_outcome _ c.args.env.now _ _ _ _ _ _ (has_paths _ c.args.env.now)
    (returns-clause-does g c)

pub returns-clause-first_trial : goal.returns-clause-first_trial
returns-clause-first_trial g c = first_trial _ c.args.env.now _ _ _ _ _ _ (has_paths _ c.args.env.now)
    (returns-clause-does g c)

pub returns-clause-headline : goal.returns-clause-headline
returns-clause-headline g c = create_headline _ c.args.env.now _ _ _ _ _ _ (has_paths _ c.args.env.now)
    (returns-clause-does g c)

pub returns-clause-files : goal.returns-clause-files
returns-clause-files g c = cause_of_file _ _ _ _ _ _ c.finish.ensures.finishes
    (words_count _ c.args.env.now (surroundings (outside g.W.World g.S.Spawner c.args.world.now
    c.args.spawners.now.items) _) _ (outside g.W.World g.S.Spawner c.run_words-end.new.world
    c.run_words-end.new.spawners.items) _ _ c.run_words-end.ensures.refused c.run_words-end.ensures.does).files

pub returns-clause-children : goal.returns-clause-children
returns-clause-children g c = cause_of_child _ _ _ _ _ _ _ _ c.finish.ensures.finishes
    (words_count _ c.args.env.now (surroundings (outside g.W.World g.S.Spawner c.args.world.now
    c.args.spawners.now.items) _) _ (outside g.W.World g.S.Spawner c.run_words-end.new.world
    c.run_words-end.new.spawners.items) _ _ c.run_words-end.ensures.refused c.run_words-end.ensures.does).children

pub returns-clause-image : goal.returns-clause-image
returns-clause-image g c = keeps_image _ c.args.env.now _ _ _ _ _ _ (has_paths _ c.args.env.now)
    (returns-clause-does g c)

pub returns-clause-stands : goal.returns-clause-stands
returns-clause-stands g c = leaves_image _ c.args.env.now _ _ _ _ _ _ (returns-clause-does g c)

pub returns-clause-misused : goal.returns-clause-misused
returns-clause-misused g c = minds_paths _ c.args.env.now _ _ _ _ _ _ (has_paths _ c.args.env.now)
    (returns-clause-does g c)
