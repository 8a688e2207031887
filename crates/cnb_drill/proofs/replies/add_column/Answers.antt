use Rattle.std.proofs.Common.{◌∙◌, sym, append-nil, arith}
use Rattle.std.specs.Prelude.{Some}
use Rattle.cnb_drill.specs.Buildpacks.{component_key}
use Rattle.cnb_drill.specs.Replies.{digit_code, digit_plan, reply_by}
use Rattle.cnb_drill.proofs.ListLemmas.{pushed, all_pushed}
use Rattle.cnb_drill.proofs.replies.add_column.Goals as goal

pub loop-digit-init : goal.loop-digit-init
loop-digit-init c = sym (append-nil c.args.replies.now)

pub loop-digit-preserved : goal.loop-digit-preserved
loop-digit-preserved c =
    pushed (λ digit. reply_by (component_key c.args.column digit) (Some (digit_code c.args.wanted digit))
    (digit_plan c.args.column)) c.args.replies.now c.loop-digit.digit c.loop-digit.replies c.push.new.self
    c.in_ok-reply.reply
    c.loop-digit.invariant
    (c.in_ok-reply.ensures ∙ (λ i. reply_by (c.in_ok-key.ensures i) (c.digit_code-code.ensures i)
    ((c.as_str.ensures.value ∙ c.in_ok-plan.ensures) i)))
    c.in_ok-push.ensures.ok

pub returns : goal.returns
returns c =
    all_pushed (λ digit. reply_by (component_key c.args.column digit) (Some (digit_code c.args.wanted digit))
    (digit_plan c.args.column)) c.args.replies.now c.loop-digit.digit 8 c.loop-digit.replies
    (omega arith) (omega arith) c.loop-digit.invariant
