use Rattle.std.proofs.Common.{◌≡◌, ◌≤◌, length, take, drop}
use Rattle.detect_core.specs.Kept.{keys_of}
use Rattle.detect_record.specs.Asked.{IsMet}
use Rattle.detect_record.specs.Proving.{asked_in}
use Rattle.detect_record.specs.Record.{AtGroup}
use Rattle.detect_record.specs.Following.{checks, known_by}
use Rattle.detect_record.proofs.groups.check_groups.Given as goal

abbrev pub invariant-loop-group : goal.invariant-loop-group
invariant-loop-group l = record {
  goes : checks (known_by l.target l.kept l.fn.walk) (AtGroup 0 l.fn.walk) l.initial.lines
      ≡ checks (known_by l.target l.kept l.fn.walk) (AtGroup l.place l.walk) l.lines;
  left : l.walk ≡ drop l.place l.fn.walk;
  within : l.place ≤ length l.fn.walk;
  met : IsMet (keys_of l.kept) (asked_in l.target (take l.place l.fn.walk)) l.met;
}

abbrev pub decreases-loop-group : goal.decreases-loop-group
decreases-loop-group l = length l.walk
