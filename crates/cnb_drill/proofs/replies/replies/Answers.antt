use Rattle.std.proofs.Common.{◌≡◌, ◌∙◌, [], ◌∷◌, ◌++◌, ◌/◌, ◌%◌, arith}
use Rattle.std.specs.Prelude.{pos, Some}
use Rattle.cnb_drill.specs.Buildpacks.{tail_key}
use Rattle.cnb_drill.specs.Replies.{column_replies, drill_replies, reply_by, tail_plan}
use Rattle.cnb_drill.proofs.ListLemmas.{five_parts}
use Rattle.cnb_drill.proofs.replies.replies.Goals as goal

pub returns : goal.returns
unfolding drill_replies
returns c =
    let number = c.args.number in
    let last : number / 1 % 8 ≡ number % 8 = omega arith in
    let a : c.add_column.new.replies ≡ column_replies 0 (number / 512 % 8) = c.in_ok-add_column.ensures
    ∙ (λ i. c.new-replies.ensures i ++ column_replies 0 (c.digit-first.ensures i)) in
    let b = c.in_ok-add_column-2.ensures ∙ (λ i. a i ++ column_replies 1 (c.digit-second.ensures i)) in
    let d = c.in_ok-add_column-3.ensures ∙ (λ i. b i ++ column_replies 2 (c.digit-third.ensures i)) in
    let e = c.in_ok-add_column-4.ensures ∙ (λ i. d i ++ column_replies 3 ((c.digit-fourth.ensures ∙ last) i)) in
    let tail = c.in_ok-tail.ensures ∙ (λ i. reply_by (c.in_ok-key.ensures i) (Some (pos 0)) tail_plan) in
    c.in_ok-push.ensures.ok
    ∙ ((λ i. e i ++ tail i ∷ [])
    ∙ five_parts (column_replies 0 (number / 512 % 8)) (column_replies 1 (number / 64 % 8))
    (column_replies 2 (number / 8 % 8)) (column_replies 3 (number % 8))
    (reply_by tail_key (Some (pos 0)) tail_plan ∷ []))
