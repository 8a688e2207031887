use Rattle.std.proofs.Common.{◌≡◌, List, [], Option, length}
use Rattle.cnb_toml.specs.declared.target.Target.{Target}
use Rattle.order_expand.specs.declared.member.Member.{Member}
use Rattle.detect_record.specs.Checking.{Answering}
use Rattle.detect_record.specs.Following.{reads}
use Rattle.detect_record.proofs.answers.read_answers.Given as goal

abbrev pub invariant-loop-row : goal.invariant-loop-row
invariant-loop-row l = (groups : List (List Member)) (target : Option Target) →
    reads groups (Answering target []) l.initial.lines ≡ reads groups (Answering target l.kept) l.lines

abbrev pub decreases-loop-row : goal.decreases-loop-row
decreases-loop-row l = length l.lines.left
