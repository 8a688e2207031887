use Rattle.std.proofs.Common.{◌≡◌, map, take}
use Rattle.order_expand.specs.MemberComponent.{member_of}
use Rattle.order_expand.specs.Fingerprints.{member_fingerprint}
use Rattle.order_expand.specs.Groups.{distinct, same_id}
use Rattle.order_expand.proofs.walk.members.Given as goal

-- the members up to a place are done
abbrev pub invariant-loop-chosen : goal.invariant-loop-chosen
invariant-loop-chosen l =
    (l.members ≡ distinct same_id (map member_of (take l.chosen-index l.group)))
    × (l.prints.items ≡ map member_fingerprint l.members)
