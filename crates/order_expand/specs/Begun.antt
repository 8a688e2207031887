-- The groups that come of places in an order and its composites.
use Rattle.std.specs.Prelude.{◌≡◌, ℕ, ◌<◌, List, [], ◌∷◌, ◌++◌, map, if◌then◌else◌}
use Rattle.std.specs.List.{flat_map, fold}
use Rattle.bp_docs.specs.declared.descriptor.Descriptor.{Descriptor}
use Rattle.order_expand.specs.declared.member.Member.{Member}
use Rattle.order_expand.specs.declared.begun.MemberComponent.{MemberComponent}
use Rattle.order_expand.specs.declared.begun.Place.{Place}
use Rattle.order_expand.specs.declared.begun.Place.TheVariants.{Entries, Groups, Nowhere}
use Rattle.order_expand.specs.declared.begun.Begun.{Begun}
use Rattle.order_expand.specs.declared.begun.Reached.{Reached}
use Rattle.order_expand.specs.declared.begun.Reached.TheVariants.{On, Complete, End}
use Rattle.order_expand.specs.MemberComponent.{member_of}
use Rattle.order_expand.specs.Groups.{raw_groups, expanded}
use Rattle.order_expand.specs.Steps.{steps_left}

-- each group of a list in front of each of another
abbrev pub joined : {X : Type 0} → List (List X) → List (List X) → List (List X)
joined fronts behind = flat_map (λ front. map (λ group. front ++ group) behind) fronts

abbrev pub groups_in : List Descriptor → Place → List (List Member)
groups_in catalog (Entries levels entries) = expanded (raw_groups levels catalog) catalog entries.now
groups_in catalog (Groups levels groups optional) =
    flat_map (expanded (raw_groups levels catalog) catalog) groups.now ++ (if optional then [] ∷ [] else [])
groups_in catalog Nowhere = []

-- where nothing more comes at a place
abbrev pub IsEnd : Place → Type 0
IsEnd (Entries levels entries) = entries.now ≡ []
IsEnd (Groups levels groups optional) = ⊥
IsEnd Nowhere = ⊥

-- where several places are still to come, of which the last comes first
abbrev pub groups_later : List Descriptor → List Place → List (List Member)
groups_later catalog places = fold (λ behind place. joined (groups_in catalog place) behind) ([] ∷ []) places

-- members, and behind them some groups and those of the places that come later
abbrev pub groups_with : List Descriptor → List MemberComponent → List (List Member) → List Place → List (List Member)
groups_with catalog members groups later = map (λ group. map member_of members ++ group)
    (joined groups (groups_later catalog later))

-- the groups that one that is begun comes to
abbrev pub groups_of : List Descriptor → Begun → List (List Member)
groups_of catalog begun = groups_with catalog begun.members.items (groups_in catalog begun.next) begun.later.items

-- the same for several, of which the last comes first
abbrev pub groups_of_waiting : List Descriptor → List Begun → List (List Member)
groups_of_waiting catalog waiting = fold (λ others begun. groups_of catalog begun ++ others) [] waiting

-- the groups of one that is begun, and then of those that wait
abbrev pub groups_left : List Descriptor → Begun → List Begun → List (List Member)
groups_left catalog current waiting = groups_of catalog current ++ groups_of_waiting catalog waiting

-- a group to which nothing more comes
abbrev pub IsComplete : List Descriptor → Begun → Type 0
IsComplete catalog begun = groups_of catalog begun ≡ map member_of begun.members.items ∷ []

-- how far a step came, where there were so many to go: there are fewer, or the group is complete, or no group is left
abbrev pub Reaches : List Descriptor → ℕ → Reached → Begun → List Begun → Type 0
Reaches catalog before On current waiting = steps_left catalog current waiting < before
Reaches catalog before Complete current waiting = IsComplete catalog current
Reaches catalog before End current waiting = groups_left catalog current waiting ≡ []
