-- Members that are given by their descriptors.
use Rattle.std.specs.Prelude.{Bool, false, List, []}
use Rattle.bp_docs.specs.declared.descriptor.Body.{Body}
use Rattle.bp_docs.specs.declared.descriptor.Body.TheVariants.{Component, Composite, Foreign}
use Rattle.bp_docs.specs.declared.descriptor.TargetRule.{TargetRule}
use Rattle.order_expand.specs.declared.member.Member.{Member}
use Rattle.order_expand.specs.declared.begun.MemberComponent.{MemberComponent}

abbrev pub clears_env : Body → Bool
clears_env (Component clear_env targets) = clear_env
clears_env (Composite order) = false
clears_env (Foreign api) = false

abbrev pub targets_of : Body → List TargetRule
targets_of (Component clear_env targets) = targets
targets_of (Composite order) = []
targets_of (Foreign api) = []

abbrev pub member_of : MemberComponent → Member
member_of chosen = record {
  key = chosen.descriptor.now.key;
  optional = chosen.optional;
  clear_env = clears_env chosen.descriptor.now.body;
  targets = targets_of chosen.descriptor.now.body;
}
