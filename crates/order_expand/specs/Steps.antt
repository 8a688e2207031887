-- How many steps it takes at most to go through all groups that come of places.
use Rattle.std.specs.Prelude.{ℕ, zero, suc, ◌+◌, List, [], ◌∷◌, Option, Some, None}
use Rattle.std.specs.List.{fold}
use Rattle.bp_docs.specs.declared.descriptor.Entry.{Entry}
use Rattle.bp_docs.specs.declared.descriptor.Body.{Body}
use Rattle.bp_docs.specs.declared.descriptor.Body.TheVariants.{Component, Composite, Foreign}
use Rattle.bp_docs.specs.declared.descriptor.Descriptor.{Descriptor}
use Rattle.order_expand.specs.declared.begun.Place.{Place}
use Rattle.order_expand.specs.declared.begun.Place.TheVariants.{Entries, Groups, Nowhere}
use Rattle.order_expand.specs.declared.begun.Begun.{Begun}
use Rattle.order_expand.specs.Groups.{named}

-- The last number of each of these is that of the steps which follow behind a group.
abbrev pub body_steps : (List (List Entry) → ℕ → ℕ) → Body → ℕ → ℕ
body_steps order_steps (Component clear_env targets) behind = behind
body_steps order_steps (Composite order) behind = order_steps order behind
body_steps order_steps (Foreign api) behind = 0

abbrev pub named_steps : (List (List Entry) → ℕ → ℕ) → Option Descriptor → ℕ → ℕ
named_steps order_steps None behind = 0
named_steps order_steps (Some descriptor) behind = body_steps order_steps descriptor.body behind

abbrev pub entries_steps : (List (List Entry) → ℕ → ℕ) → List Descriptor → List Entry → ℕ → ℕ
entries_steps order_steps catalog [] behind = behind + 1
entries_steps order_steps catalog (entry ∷ entries) behind =
    named_steps order_steps (named catalog entry) (entries_steps order_steps catalog entries behind) + 1

abbrev pub groups_steps : (List (List Entry) → ℕ → ℕ) → List Descriptor → List (List Entry) → ℕ → ℕ
groups_steps order_steps catalog [] behind = behind + 2
groups_steps order_steps catalog (group ∷ groups) behind =
    entries_steps order_steps catalog group behind + groups_steps order_steps catalog groups behind + 2

unfoldable pub order_steps : ℕ → List Descriptor → List (List Entry) → ℕ → ℕ
order_steps zero catalog order behind = behind + 2
order_steps (suc levels) catalog order behind = groups_steps (order_steps levels catalog) catalog order behind

abbrev pub place_steps : List Descriptor → Place → ℕ → ℕ
place_steps catalog (Entries levels entries) behind = entries_steps
    (order_steps levels catalog) catalog entries.now behind
place_steps catalog (Groups levels groups optional) behind = groups_steps
    (order_steps levels catalog) catalog groups.now behind
place_steps catalog Nowhere behind = 0

abbrev pub later_steps : List Descriptor → List Place → ℕ
later_steps catalog places = fold (λ behind place. place_steps catalog place behind) 0 places

abbrev pub steps_of : List Descriptor → Begun → ℕ
steps_of catalog begun = place_steps catalog begun.next (later_steps catalog begun.later.items)

abbrev pub steps_of_waiting : List Descriptor → List Begun → ℕ
steps_of_waiting catalog waiting = fold (λ others begun. others + (steps_of catalog begun + 1)) 0 waiting

abbrev pub steps_left : List Descriptor → Begun → List Begun → ℕ
steps_left catalog current waiting = steps_of catalog current + steps_of_waiting catalog waiting
