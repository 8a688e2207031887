use Rattle.std.proofs.Common.{◌≡◌, ◌++◌, take}
use Rattle.std.specs.Prelude.{flat_map}
use Rattle.plan_resolve.specs.Choices.{choices_of}
use Rattle.detect_record.specs.Making.{trial_whole}
use Rattle.detect_record.proofs.making_groups.put_trials.Given as goal

abbrev pub invariant-loop-number : goal.invariant-loop-number
invariant-loop-number l = l.text ≡ l.initial.text ++ flat_map trial_whole (take l.number (choices_of l.rows))
