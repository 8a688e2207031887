use Rattle.std.proofs.Common.{◌≡◌, map, take}
use Rattle.std.specs.List.{filter}
use Rattle.order_expand.specs.declared.member.Member.{Member}
use Rattle.detect_core.specs.Answer.{is_fit}
use Rattle.detect_core.specs.Asking.{unmet}
use Rattle.detect_core.specs.Job.{detect_job}
use Rattle.detect_core.specs.Kept.{keys_of}
use Rattle.detect_core.proofs.questions.questions_of.Given as goal

-- those of the members so far
abbrev pub invariant-loop-member : goal.invariant-loop-member
invariant-loop-member l = record {
  keys : l.asked.keys ≡ map (λ (m : Member). m.key)
      (unmet (keys_of l.kept) (filter (is_fit l.frame.target) (take l.member-index l.group)));
  jobs : l.asked.jobs ≡ map (detect_job l.frame)
      (unmet (keys_of l.kept) (filter (is_fit l.frame.target) (take l.member-index l.group)));
}
