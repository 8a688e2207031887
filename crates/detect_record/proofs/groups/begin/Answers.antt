use Rattle.std.proofs.Common.{◌∙◌, sym, ap}
use Rattle.detect_core.specs.Answer.{alive_of}
use Rattle.detect_core.specs.Kept.{kept_says}
use Rattle.detect_record.specs.Following.{has_trials}
use Rattle.detect_record.proofs.GroupLemmas.{alive_few, begun_so, count_is}
use Rattle.detect_record.proofs.groups.begin.Goals as goal

pub returns-clause-few : goal.returns-clause-few
returns-clause-few c =
    alive_few (kept_says c.args.target.now c.args.kept.now) c.args.group.now c.in-Some.alive c.requires
    (sym c.in-Some.is ∙ c.in_ok-alive.ensures)

pub returns-clause-count : goal.returns-clause-count
returns-clause-count c =
    count_is c.in-Some.alive c.args.count c.has_trials.result
    (c.has_trials.ensures ∙ ap (λ rows. has_trials rows c.args.count) c.as_slice.ensures)
    c.if-not-has_trials.false

pub returns-clause-next : goal.returns-clause-next
returns-clause-next c = λ chosen place groups.
    begun_so chosen place (alive_of (kept_says c.args.target.now c.args.kept.now) c.args.group.now)
    c.in-Some.alive groups c.args.count c.has_trials.result
    (sym c.in-Some.is ∙ c.in_ok-alive.ensures) (c.has_trials.ensures
    ∙ ap (λ rows. has_trials rows c.args.count) c.as_slice.ensures) c.if-not-has_trials.false
