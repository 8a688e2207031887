use Rattle.std.proofs.Common.{◌≡◌, ◌++◌, map}
use Rattle.plan_resolve.specs.Trials.{numbers_below}
use Rattle.std.specs.Prelude.{Some}
use Rattle.cnb_drill.specs.Buildpacks.{component_key}
use Rattle.cnb_drill.specs.Replies.{digit_code, digit_plan, reply_by}
use Rattle.cnb_drill.proofs.replies.add_column.Given as goal

abbrev pub invariant-loop-digit : goal.invariant-loop-digit
invariant-loop-digit l =
    l.replies ≡ l.initial.replies ++ map (λ digit. reply_by (component_key l.column digit)
    (Some (digit_code l.wanted digit)) (digit_plan l.column)) (numbers_below l.digit)
