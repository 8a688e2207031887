use Rattle.std.proofs.Common.{◌≡◌, ℕ, false, List, drop}
use Rattle.order_expand.specs.declared.member.Member.{Member}
use Rattle.plan_resolve.specs.Choices.{choices_of}
use Rattle.detect_record.specs.Record.{trying}
use Rattle.detect_record.specs.Following.{Known, checks}
use Rattle.detect_record.proofs.trials.check_trials.Given as goal

abbrev pub invariant-loop-number : goal.invariant-loop-number
invariant-loop-number l =
    (known : Known) (place : ℕ) (groups : List (List Member)) →
    checks known (trying false place l.rows groups 0 (choices_of l.rows)) l.initial.lines
    ≡ checks known (trying false place l.rows groups l.number (drop l.number (choices_of l.rows))) l.lines
