use Rattle.std.proofs.Common.{◌∙◌, sym, ap, true}
use Rattle.detect_core.specs.Answer.{alive_of}
use Rattle.detect_core.specs.Kept.{kept_says}
use Rattle.detect_record.specs.Proving.{answered_by}
use Rattle.detect_record.specs.Record.{after_group, begun, begun_if}
use Rattle.detect_record.specs.Following.{checks_on, found_or_next, known_by}
use Rattle.detect_record.proofs.FollowingLemmas.{goes_from}
use Rattle.detect_record.proofs.groups.follow.Goals as goal

pub returns-in-Trials : goal.returns-in-Trials
returns-in-Trials c = λ groups all e.
    let known = known_by c.args.target.now c.args.kept.now all in
    let answered = answered_by c.args.target.now c.args.kept.now all in
    goes_from c.check_failing.result _ _ (found_or_next known c.args.place groups c.check_failing.new.lines)
    (ap (λ line. checks_on known (after_group answered c.args.place c.args.group.now groups line)
    c.args.lines.now) c.in-Trials.is)
    (c.check_failing.ensures c.args.place groups all)

pub returns-in-Chosen : goal.returns-in-Chosen
returns-in-Chosen c = λ groups all e.
    let known = known_by c.args.target.now c.args.kept.now all in
    let answered = answered_by c.args.target.now c.args.kept.now all in
    let next = begun true c.args.place (alive_of (kept_says c.args.target.now c.args.kept.now) c.args.group.now)
    groups c.in-Chosen.count in
    goes_from c.check_passing.result _ _ (found_or_next known c.args.place groups c.check_passing.new.lines)
    (ap (λ line. checks_on known (after_group answered c.args.place c.args.group.now groups line)
    c.args.lines.now) c.in-Chosen.is
    ∙ ap (λ b. checks_on known (begun_if b next) c.args.lines.now) (sym e))
    (c.check_passing.ensures groups all)
