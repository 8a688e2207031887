use Rattle.std.proofs.Common.{◌<◌, length, arith, ap, ◌∙◌, map}
use Rattle.std.proofs.lemmas.List.{take_all}
use Rattle.std.specs.List.{filter}
use Rattle.order_expand.specs.declared.member.Member.{Member}
use Rattle.detect_core.specs.Answer.{is_fit}
use Rattle.detect_core.specs.Asking.{unmet}
use Rattle.detect_core.specs.Job.{detect_job}
use Rattle.detect_core.specs.Kept.{keys_of}
use Rattle.detect_core.proofs.AskingLemmas.{more_unmet}
use Rattle.detect_core.proofs.questions.questions_of.Goals as goal

pub loop-member-preserved : goal.loop-member-preserved
loop-member-preserved c =
    let lt : c.loop-member.member-index < length c.args.group.now = omega arith in
    let known = keys_of c.args.kept.now in
    let fit = is_fit c.args.frame.now.target in
    record {
      keys = more_unmet (λ (m : Member). m.key) fit known c.args.group.now c.loop-member.member-index
          c.member-item.result c.loop-member.asked.keys c.loop-member.asked.keys c.add_fitting.new.asked.keys
          lt c.member-item.is c.loop-member.invariant.keys c.loop-member.invariant.keys
          c.in_ok-add_fitting.ensures.keys;
      jobs = more_unmet (detect_job c.args.frame.now) fit known c.args.group.now c.loop-member.member-index
          c.member-item.result c.loop-member.asked.keys c.loop-member.asked.jobs c.add_fitting.new.asked.jobs
          lt c.member-item.is c.loop-member.invariant.keys c.loop-member.invariant.jobs
          c.in_ok-add_fitting.ensures.jobs;
    }

pub returns-clause-keys : goal.returns-clause-keys
returns-clause-keys c =
    c.loop-member.invariant.keys ∙ ap (λ ms. map (λ (m : Member). m.key)
    (unmet (keys_of c.args.kept.now) (filter (is_fit c.args.frame.now.target) ms)))
    (take_all c.loop-member.member-index c.args.group.now (omega arith))

pub returns-clause-jobs : goal.returns-clause-jobs
returns-clause-jobs c =
    c.loop-member.invariant.jobs ∙ ap (λ ms. map (detect_job c.args.frame.now)
    (unmet (keys_of c.args.kept.now) (filter (is_fit c.args.frame.now.target) ms)))
    (take_all c.loop-member.member-index c.args.group.now (omega arith))
