use Rattle.std.proofs.Common.{◌∙◌, refl, sym, ap, true}
use Rattle.plan_resolve.specs.Choices.{choices_of}
use Rattle.detect_core.specs.Answer.{alive_of}
use Rattle.detect_core.specs.Kept.{kept_says}
use Rattle.detect_record.specs.Record.{begun, begun_if, trying}
use Rattle.detect_record.specs.Following.{checks, checks_on, found_or_next, known_by}
use Rattle.detect_record.proofs.FollowingLemmas.{err_goes}
use Rattle.detect_record.proofs.GroupLemmas.{answer_fault, next_fault}
use Rattle.detect_record.proofs.groups.check_passing.Goals as goal

pub returns-in_err-alive : goal.returns-in_err-alive
returns-in_err-alive c = λ groups all.
    let known = known_by c.args.target.now c.args.kept.now all in
    let next = begun true c.args.place (alive_of (kept_says c.args.target.now c.args.kept.now) c.args.group.now)
    groups c.args.count in
    let out = found_or_next known c.args.place groups c.args.lines.now in
    err_goes c.from_residual.result c.in_err-alive.field-0.0
    (checks_on known (begun_if c.args.all_met next) c.args.lines.now)
    (checks_on known next c.args.lines.now) out out c.from_residual.ensures.1
    (ap (λ b. checks_on known (begun_if b next) c.args.lines.now) c.if-not-all_met.false)
    (next_fault c.in_err-alive.field-0.0 known next c.args.lines.now c.taken.result
    (λ rows. trying true c.args.place rows groups 0 (choices_of rows)) out
    c.taken.ensures.count (c.in_err-alive.ensures.next true c.args.place groups))

pub returns-in_err-checked : goal.returns-in_err-checked
returns-in_err-checked c = λ groups all.
    let known = known_by c.args.target.now c.args.kept.now all in
    let next = begun true c.args.place (alive_of (kept_says c.args.target.now c.args.kept.now) c.args.group.now)
    groups c.args.count in
    let out = found_or_next known c.args.place groups c.check_chosen.new.lines in
    let start = checks_on known (begun_if c.args.all_met next) c.args.lines.now in
    err_goes c.from_residual-in_err-checked.result c.in_err-checked.field-0.0 start start out out
    c.from_residual-in_err-checked.ensures.1 refl
    (answer_fault c.in_err-checked.field-0.0 start
    (checks known (trying true c.args.place c.as_slice.result.now groups 0 (choices_of c.as_slice.result.now))
    c.args.lines.now) out
    (ap (λ b. checks_on known (begun_if b next) c.args.lines.now) c.if-not-all_met.false
    ∙ (ap (λ s. checks_on known s c.args.lines.now) (c.in_ok-alive.ensures.next true c.args.place groups)
    ∙ ap (λ rows. checks known (trying true c.args.place rows groups 0 (choices_of rows)) c.args.lines.now)
    (sym c.as_slice.ensures)))
    (c.in_err-checked.ensures known groups))

pub returns : goal.returns
returns c = λ groups all.
    let known = known_by c.args.target.now c.args.kept.now all in
    let next = begun true c.args.place (alive_of (kept_says c.args.target.now c.args.kept.now) c.args.group.now)
    groups c.args.count in
    ap (λ b. checks_on known (begun_if b next) c.args.lines.now) c.if-not-all_met.false
    ∙ (ap (λ s. checks_on known s c.args.lines.now) (c.in_ok-alive.ensures.next true c.args.place groups)
    ∙ (ap (λ rows. checks known (trying true c.args.place rows groups 0 (choices_of rows)) c.args.lines.now)
    (sym c.as_slice.ensures)
    ∙ c.in_ok-checked.ensures known groups))
