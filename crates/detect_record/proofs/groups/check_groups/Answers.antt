use Rattle.std.proofs.Common.{◌≡◌, ◌≤◌, ◌∙◌, ◌+◌, [], ◌∷◌, length, take, sym, ap, subst, List}
use Rattle.order_expand.specs.declared.member.Member.{Member}
use Rattle.detect_core.specs.Kept.{keys_of}
use Rattle.detect_record.specs.Proving.{asked_in}
use Rattle.detect_record.specs.Record.{AtGroup}
use Rattle.detect_record.specs.Following.{checks, known_by}
use Rattle.detect_record.proofs.FollowingLemmas.{err_answers, no_group}
use Rattle.detect_record.proofs.GroupLemmas.{group_line, group_next, met_so, refused_answers, right_so, short_at}
use Rattle.detect_record.proofs.groups.check_groups.Goals as goal

pub check_group-requires : goal.check_group-requires
check_group-requires c =
    let next : c.loop-group.walk ≡ c.in-Some.group ∷ c.next.new.self = rw c.in-Some.is at c.in_ok-group.ensures.ok in
    let short = short_at c.args.walk.now c.in-Some.group c.next.new.self c.loop-group.place
    (sym c.loop-group.invariant.left ∙ next) c.requires.short in
    subst (λ (group : List Member). length group ≤ 256) (sym c.as_slice-group.ensures) short

pub returns-in_err-checked : goal.returns-in_err-checked
returns-in_err-checked c =
    let all = c.args.walk.now in
    let target = c.args.target.now in
    let kept = c.args.kept.now in
    let later = c.next.new.self in
    let place = c.loop-group.place in
    let next : c.loop-group.walk ≡ c.in-Some.group ∷ later = rw c.in-Some.is at c.in_ok-group.ensures.ok in
    let right = right_so target kept all c.in-Some.group c.as_slice-group.result.now later place
    c.are_all_met-all_met.result
    (sym c.loop-group.invariant.left ∙ next) c.as_slice-group.ensures
    (c.are_all_met-all_met.ensures _ (c.met_in-met.ensures (asked_in target (take place all))
    c.loop-group.invariant.met)) in
    err_answers c.from_residual-in_err-checked.result c.in_err-checked.field-0.0 _ _ _
    c.from_residual-in_err-checked.ensures.1
    (group_line _ (known_by target kept all) place c.loop-group.lines c.loop-group.walk c.in-Some.group
    c.as_slice-group.result.now later
    c.loop-group.invariant.goes next c.as_slice-group.ensures)
    (c.in_err-checked.ensures later all right)

pub returns-in-Some-2 : goal.returns-in-Some-2
returns-in-Some-2 c =
    let all = c.args.walk.now in
    let target = c.args.target.now in
    let kept = c.args.kept.now in
    let later = c.next.new.self in
    let place = c.loop-group.place in
    let next : c.loop-group.walk ≡ c.in-Some.group ∷ later = rw c.in-Some.is at c.in_ok-group.ensures.ok in
    let right = right_so target kept all c.in-Some.group c.as_slice-group.result.now later place
    c.are_all_met-all_met.result
    (sym c.loop-group.invariant.left ∙ next) c.as_slice-group.ensures
    (c.are_all_met-all_met.ensures _ (c.met_in-met.ensures (asked_in target (take place all))
    c.loop-group.invariant.met)) in
    group_line _ (known_by target kept all) place c.loop-group.lines c.loop-group.walk c.in-Some.group
    c.as_slice-group.result.now later
    c.loop-group.invariant.goes next c.as_slice-group.ensures
    ∙ (rw c.in-Some-2.is at c.in_ok-checked.ensures) later all right

pub loop-group-preserved : goal.loop-group-preserved
loop-group-preserved c =
    let all = c.args.walk.now in
    let target = c.args.target.now in
    let kept = c.args.kept.now in
    let later = c.next.new.self in
    let place = c.loop-group.place in
    let slice = c.as_slice-group.result.now in
    let next : c.loop-group.walk ≡ c.in-Some.group ∷ later = rw c.in-Some.is at c.in_ok-group.ensures.ok in
    let at = sym c.loop-group.invariant.left ∙ next in
    let met = c.met_in-met.ensures (asked_in target (take place all)) c.loop-group.invariant.met in
    let right = right_so target kept all c.in-Some.group slice later place c.are_all_met-all_met.result at
    c.as_slice-group.ensures (c.are_all_met-all_met.ensures _ met) in
    let more = group_next all c.in-Some.group later place at in
    record {
      goes = group_line _ (known_by target kept all) place c.loop-group.lines c.loop-group.walk c.in-Some.group
          slice later c.loop-group.invariant.goes next c.as_slice-group.ensures
          ∙ (rw c.in_default-2.is at c.in_ok-checked.ensures) later all right;
      left = more.1;
      within = more.2;
      met = met_so target (keys_of kept) all c.in-Some.group slice later place c.met_in-met.result at
          c.as_slice-group.ensures met;
    }

pub returns : goal.returns
returns c =
    let known = known_by c.args.target.now c.args.kept.now c.args.walk.now in
    let none : c.loop-group.walk ≡ [] = rw c.in_default.is at c.in_ok-group.ensures.ok in
    refused_answers c.missing.result (c.loop-group.lines.taken + 1) _ c.missing.ensures
    (c.loop-group.invariant.goes
    ∙ (ap (λ groups. checks known (AtGroup c.loop-group.place groups) c.loop-group.lines) none
    ∙ no_group known c.loop-group.place c.loop-group.lines.taken c.loop-group.lines.left))
