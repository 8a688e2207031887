use Rattle.std.proofs.Common.{◌∙◌, ◌<◌, ◌++◌, arith}
use Rattle.std.specs.Prelude.{codes}
use Rattle.std.proofs.lemmas.Fmt.{decimal_digit}
use Rattle.cnb_drill.proofs.replies.digit_plan.Goals as goal

pub returns : goal.returns
returns c =
    let few : c.args.column < 10 = let small = c.requires in omega arith in
    c.in_ok-plan.ensures.ok
    ∙ (λ i. codes "[[provides]]\nname = \"x" ++ (decimal_digit c.args.column few i
    ++ (codes "\"\n[[or]]\n[[or.provides]]\nname = \"y"
    ++ (decimal_digit c.args.column few i ++ codes "\"\n"))))
