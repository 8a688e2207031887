use Rattle.std.proofs.Common.{◌≡◌, ◌∙◌, ◌++◌, sym, subst, map, List}
use Rattle.std.specs.Prelude.{OnOk}
use Rattle.order_expand.specs.declared.member.Member.{Member}
use Rattle.detect_core.specs.Answer.{is_fit}
use Rattle.detect_core.specs.Asking.{unmet}
use Rattle.detect_core.specs.Job.{detect_job}
use Rattle.detect_core.specs.Kept.{keys_of}
use Rattle.detect_core.proofs.AskingLemmas.{adds_no_fit, one_fit}
use Rattle.detect_core.proofs.questions.add_fitting.Goals as goal

pub returns-then-not-is_fit-clause-keys : goal.returns-then-not-is_fit-clause-keys
returns-then-not-is_fit-clause-keys c =
    adds_no_fit (λ (m : Member). m.key) (is_fit c.args.frame.now.target)
    (keys_of c.args.kept.now ++ c.args.asked.now.keys) c.args.member.now c.args.asked.now.keys
    (sym c.is_fit.ensures ∙ c.if-not-is_fit.true)

pub returns-then-not-is_fit-clause-jobs : goal.returns-then-not-is_fit-clause-jobs
returns-then-not-is_fit-clause-jobs c =
    adds_no_fit (detect_job c.args.frame.now) (is_fit c.args.frame.now.target)
    (keys_of c.args.kept.now ++ c.args.asked.now.keys) c.args.member.now c.args.asked.now.jobs
    (sym c.is_fit.ensures ∙ c.if-not-is_fit.true)

pub returns-clause-keys : goal.returns-clause-keys
returns-clause-keys c =
    subst (λ (ms : List Member). OnOk c.add.result
    (c.add.new.asked.keys ≡ c.args.asked.now.keys ++ map (λ (m : Member). m.key)
    (unmet (keys_of c.args.kept.now ++ c.args.asked.now.keys) ms)))
    (one_fit (is_fit c.args.frame.now.target) c.args.member.now (sym c.is_fit.ensures ∙ c.if-not-is_fit.false))
    c.add.ensures.keys

pub returns-clause-jobs : goal.returns-clause-jobs
returns-clause-jobs c =
    subst (λ (ms : List Member). OnOk c.add.result
    (c.add.new.asked.jobs ≡ c.args.asked.now.jobs ++ map (detect_job c.args.frame.now)
    (unmet (keys_of c.args.kept.now ++ c.args.asked.now.keys) ms)))
    (one_fit (is_fit c.args.frame.now.target) c.args.member.now (sym c.is_fit.ensures ∙ c.if-not-is_fit.false))
    c.add.ensures.jobs
