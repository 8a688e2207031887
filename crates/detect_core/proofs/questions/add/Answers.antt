use Rattle.std.proofs.Common.{◌∙◌, ◌++◌, sym, ap}
use Rattle.std.specs.List.{list_any}
use Rattle.cnb_toml.specs.Keys.{same_key}
use Rattle.order_expand.specs.declared.member.Member.{Member}
use Rattle.detect_core.specs.Job.{detect_job}
use Rattle.detect_core.specs.Kept.{keys_of}
use Rattle.detect_core.proofs.AskingLemmas.{adds_none}
use Rattle.detect_core.proofs.questions.add.Goals as goal

pub returns-then-was_met-clause-keys : goal.returns-then-was_met-clause-keys
returns-then-was_met-clause-keys c =
    adds_none (λ (m : Member). m.key) (keys_of c.args.kept.now ++ c.args.asked.now.keys) c.args.member.now
    c.args.asked.now.keys
    (ap (λ ks. list_any (same_key c.args.member.now.key) (keys_of c.args.kept.now ++ ks)) (sym c.as_slice.ensures)
    ∙ (sym c.was_met.ensures ∙ c.if-was_met.true))

pub returns-then-was_met-clause-jobs : goal.returns-then-was_met-clause-jobs
returns-then-was_met-clause-jobs c =
    adds_none (detect_job c.args.frame.now) (keys_of c.args.kept.now ++ c.args.asked.now.keys) c.args.member.now
    c.args.asked.now.jobs
    (ap (λ ks. list_any (same_key c.args.member.now.key) (keys_of c.args.kept.now ++ ks)) (sym c.as_slice.ensures)
    ∙ (sym c.was_met.ensures ∙ c.if-was_met.true))
