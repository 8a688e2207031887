use Rattle.std.proofs.Common.{◌≡◌, ◌++◌, drop, take}
use Rattle.std.specs.Prelude.{flat_map}
use Rattle.detect_core.specs.Kept.{kept_says}
use Rattle.detect_record.specs.GroupTexts.{passed_whole}
use Rattle.detect_record.proofs.making_groups.put_passed_groups.Given as goal

abbrev pub invariant-loop-number : goal.invariant-loop-number
invariant-loop-number l = (l.text ≡ l.initial.text ++ flat_map (passed_whole (kept_says l.target l.kept))
    (take l.number l.initial.walk)) × (l.walk ≡ drop l.number l.initial.walk)
