use Rattle.std.proofs.Common.{List, take}
use Rattle.cnb_toml.specs.declared.names.Key.{Key}
use Rattle.detect_core.specs.Kept.{keys_of}
use Rattle.detect_record.specs.Asked.{IsMet, put_members}
use Rattle.detect_record.proofs.asked.met_in.Given as goal

abbrev pub invariant-loop-member : goal.invariant-loop-member
invariant-loop-member l =
    (asked : List Key) → IsMet (keys_of l.kept) asked l.initial.met
    → IsMet (keys_of l.kept) (put_members l.target asked (take l.member-index l.group)) l.met
