use Rattle.std.proofs.Common.{◌∙◌, sym}
use Rattle.detect_record.proofs.GroupLemmas.{no_options, counted, uncounted}
use Rattle.detect_record.proofs.groups.has_trials.Goals as goal

pub returns-then-not-have_options : goal.returns-then-not-have_options
returns-then-not-have_options c = no_options c.args.rows.now c.args.count
    (sym c.have_options.ensures ∙ c.if-not-have_options.true)

pub returns-in-Some : goal.returns-in-Some
returns-in-Some c = counted c.args.rows.now c.in-Some.trials c.args.count (sym c.in-Some.is ∙ c.trial_count.ensures)

pub returns-in-None : goal.returns-in-None
returns-in-None c = uncounted c.args.rows.now c.args.count (sym c.in-None.is ∙ c.trial_count.ensures)
