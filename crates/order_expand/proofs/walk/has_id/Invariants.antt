use Rattle.std.proofs.Common.{◌≡◌, false, take}
use Rattle.std.specs.List.{list_any}
use Rattle.order_expand.specs.MemberComponent.{member_of}
use Rattle.order_expand.specs.Groups.{same_id}
use Rattle.order_expand.proofs.walk.has_id.Given as goal

-- no member up to a place has the id
abbrev pub invariant-loop-place : goal.invariant-loop-place
invariant-loop-place l = list_any (λ member. same_id member (member_of l.chosen)) (take l.place l.members) ≡ false
