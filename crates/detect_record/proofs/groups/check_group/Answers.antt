use Rattle.std.proofs.Common.{◌∙◌, ◌∷◌, refl, sym, ap}
use Rattle.detect_record.specs.Proving.{answered_by}
use Rattle.detect_record.specs.Record.{AtGroup, after_group, begun_if}
use Rattle.detect_record.specs.Following.{checks_on, found_or_next, known_by}
use Rattle.detect_record.proofs.FollowingLemmas.{err_goes, goes_from}
use Rattle.detect_record.proofs.GroupLemmas.{refused_goes}
use Rattle.detect_record.proofs.groups.check_group.Goals as goal

pub returns-in_err-line : goal.returns-in_err-line
returns-in_err-line c = λ groups all e.
    let known = known_by c.args.target.now c.args.kept.now all in
    err_goes c.from_residual.result c.in_err-line.field-0.0 _ _ _
    (found_or_next known c.args.place groups c.next_group.new.lines) c.from_residual.ensures.1 refl
    (c.in_err-line.ensures known (AtGroup c.args.place (c.args.group.now ∷ groups)) refl)

pub returns-then-not-have_answers : goal.returns-then-not-have_answers
returns-then-not-have_answers c = λ groups all e.
    let known = known_by c.args.target.now c.args.kept.now all in
    let answered = answered_by c.args.target.now c.args.kept.now all in
    refused_goes c.refused.result c.next_group.new.lines.taken _
    (found_or_next known c.args.place groups c.next_group.new.lines) c.refused.ensures
    (c.in_ok-line.ensures known (AtGroup c.args.place (c.args.group.now ∷ groups)) refl
    ∙ ap (λ b. checks_on known (begun_if b (after_group answered c.args.place c.args.group.now groups
    c.in_ok-line.line)) c.next_group.new.lines)
    (sym c.have_answers.ensures ∙ c.if-not-have_answers.true))

pub returns : goal.returns
returns c = λ groups all e.
    let known = known_by c.args.target.now c.args.kept.now all in
    let answered = answered_by c.args.target.now c.args.kept.now all in
    goes_from c.follow.result _ _ (found_or_next known c.args.place groups c.follow.new.lines)
    (c.in_ok-line.ensures known (AtGroup c.args.place (c.args.group.now ∷ groups)) refl
    ∙ ap (λ b. checks_on known (begun_if b (after_group answered c.args.place c.args.group.now groups
    c.in_ok-line.line)) c.next_group.new.lines)
    (sym c.have_answers.ensures ∙ c.if-not-have_answers.false))
    (c.follow.ensures groups all e)
