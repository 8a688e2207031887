use Rattle.std.proofs.Common.{◌∙◌, refl, sym, ap, false}
use Rattle.plan_resolve.specs.Choices.{choices_of}
use Rattle.detect_core.specs.Answer.{alive_of}
use Rattle.detect_core.specs.Kept.{kept_says}
use Rattle.detect_record.specs.Record.{begun, trying}
use Rattle.detect_record.specs.Following.{checks, checks_on, found_or_next, known_by}
use Rattle.detect_record.proofs.FollowingLemmas.{err_goes}
use Rattle.detect_record.proofs.GroupLemmas.{next_fault}
use Rattle.detect_record.proofs.groups.check_failing.Goals as goal

pub returns-in_err-alive : goal.returns-in_err-alive
returns-in_err-alive c = λ place groups all.
    let known = known_by c.args.target.now c.args.kept.now all in
    let next = begun false place (alive_of (kept_says c.args.target.now c.args.kept.now) c.args.group.now) groups
    c.args.count in
    let out = found_or_next known place groups c.args.lines.now in
    let start = checks_on known next c.args.lines.now in
    err_goes c.from_residual.result c.in_err-alive.field-0.0 start start out out c.from_residual.ensures.1 refl
    (next_fault c.in_err-alive.field-0.0 known next c.args.lines.now c.taken.result
    (λ rows. trying false place rows groups 0 (choices_of rows)) out
    c.taken.ensures.count (c.in_err-alive.ensures.next false place groups))

pub returns-in_err-check_trials : goal.returns-in_err-check_trials
returns-in_err-check_trials c = λ place groups all.
    let known = known_by c.args.target.now c.args.kept.now all in
    err_goes c.from_residual-in_err-check_trials.result c.in_err-check_trials.field-0.0 _ _ _
    (found_or_next known place groups c.check_trials.new.lines)
    c.from_residual-in_err-check_trials.ensures.1
    (ap (λ s. checks_on known s c.args.lines.now) (c.in_ok-alive.ensures.next false place groups)
    ∙ ap (λ rows. checks known (trying false place rows groups 0 (choices_of rows)) c.args.lines.now)
    (sym c.as_slice.ensures))
    (c.in_err-check_trials.ensures known place groups)

pub returns : goal.returns
returns c = λ place groups all.
    let known = known_by c.args.target.now c.args.kept.now all in
    ap (λ s. checks_on known s c.args.lines.now) (c.in_ok-alive.ensures.next false place groups)
    ∙ (ap (λ rows. checks known (trying false place rows groups 0 (choices_of rows)) c.args.lines.now)
    (sym c.as_slice.ensures)
    ∙ c.in_ok-check_trials.ensures known place groups)
