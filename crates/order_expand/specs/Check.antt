-- Which orders are refused, and for what (buildpack.md, "Order Resolution"; the limits are this implementation's own).
use Rattle.std.specs.Prelude.{ℕ, zero, suc, ◌+◌, ◌≡◌, Bool, false, List, [], ◌∷◌, ◌++◌, map, length, sum, flat_map}
use Rattle.std.specs.Prelude.{nat_lt, if◌then◌else◌, Option, Some, None, Result, Ok, Err}
use Rattle.std.specs.List.{filter, find, list_any}
use Rattle.cnb_toml.specs.declared.names.Key.{Key}
use Rattle.cnb_toml.specs.Keys.{same_key}
use Rattle.bp_docs.specs.declared.descriptor.Entry.{Entry}
use Rattle.bp_docs.specs.declared.descriptor.Body.{Body}
use Rattle.bp_docs.specs.declared.descriptor.Body.TheVariants.{Component, Composite, Foreign}
use Rattle.bp_docs.specs.declared.descriptor.Descriptor.{Descriptor}
use Rattle.order_expand.specs.declared.order.OrderFault.{OrderFault}
use Rattle.order_expand.specs.declared.order.OrderFault.TheVariants.{Absent, Ambiguous, Api, Deep, ManyGroups}
use Rattle.order_expand.specs.declared.order.OrderFault.TheVariants.{LongGroup, Memory}
use Rattle.steps.specs.Causes.{Cause, OutOfMemory, Decided}
use Rattle.order_expand.specs.Groups.{may_mean, named, raw_groups, listed_groups}

abbrev pub order_of_body : Body → List (List Entry)
order_of_body (Composite order) = order
order_of_body (Component clear_env targets) = []
order_of_body (Foreign api) = []

abbrev pub entries_of : List (List Entry) → List Entry
entries_of order = flat_map (λ group. group) order

abbrev pub entry_count : List (List Entry) → ℕ
entry_count order = length (entries_of order)

-- the entries that a descriptor adds to those that are to be met, unless it was met before
abbrev pub entries_behind : List Key → Option Descriptor → List Entry
entries_behind met None = []
entries_behind met (Some descriptor) = if list_any (same_key descriptor.key) met then [] else entries_of
    (order_of_body descriptor.body)

abbrev pub with_met : List Key → Option Descriptor → List Key
with_met met None = met
with_met met (Some descriptor) = descriptor.key ∷ met

-- the entries in the order in which they are met: behind an entry that names a composite for the first time come that
-- composite's own
abbrev pub met_from : ℕ → List Descriptor → List Key → List Entry → List Entry
met_from zero catalog met todo = []
met_from (suc steps) catalog met [] = []
met_from (suc steps) catalog met (entry ∷ todo) =
    entry ∷ met_from steps catalog (with_met met (named catalog entry))
    (entries_behind met (named catalog entry) ++ todo)

-- no more entries can be met than the order and all composites have
abbrev pub met_entries : List Descriptor → List (List Entry) → List Entry
met_entries catalog order =
    met_from (entry_count order + sum (map (λ descriptor. entry_count (order_of_body descriptor.body)) catalog))
    catalog [] (entries_of order)

abbrev pub body_fault : Entry → Body → Option OrderFault
body_fault entry (Foreign api) = Some (Api entry.id api)
body_fault entry (Component clear_env targets) = None
body_fault entry (Composite order) = None

abbrev pub meaning_fault : Entry → List Descriptor → Option OrderFault
meaning_fault entry [] = Some (Absent entry.id)
meaning_fault entry (descriptor ∷ []) = body_fault entry descriptor.body
meaning_fault entry (descriptor ∷ other ∷ more) = Some (Ambiguous entry.id)

-- an entry is refused that may mean no descriptor, or several, or one of another Buildpack API
abbrev pub entry_fault : List Descriptor → Entry → Option OrderFault
entry_fault catalog entry = meaning_fault entry (filter (may_mean entry) catalog)

abbrev pub first_fault : List Descriptor → List Entry → Option OrderFault
first_fault catalog [] = None
first_fault catalog (entry ∷ entries) = elim (entry_fault catalog entry)
    [ Some fault ↦ Some fault | None ↦ first_fault catalog entries ]

-- whether an entry's composites nest deeper than a number of levels
abbrev pub named_order : Option Descriptor → List (List Entry)
named_order None = []
named_order (Some descriptor) = order_of_body descriptor.body

abbrev pub is_composite : Option Descriptor → Bool
is_composite None = false
is_composite (Some descriptor) = nat_lt 0 (length (order_of_body descriptor.body))

abbrev pub nests_deeper : ℕ → List Descriptor → Entry → Bool
nests_deeper zero catalog entry = is_composite (named catalog entry)
nests_deeper (suc levels) catalog entry = list_any (list_any (nests_deeper levels catalog))
    (named_order (named catalog entry))

-- the first entry of the order file whose composites nest deeper than 16
abbrev pub first_deep : List Descriptor → List (List Entry) → Option Entry
first_deep catalog order = find (nests_deeper 16 catalog) (entries_of order)

-- More than 4,096 groups, or one of more than 256 entries, where a later entry of one id still counts.
abbrev pub count_groups : List Descriptor → List (List Entry) → Result ℕ OrderFault
count_groups catalog order =
    if nat_lt 4096 (length (listed_groups catalog order)) then Err ManyGroups
    else if list_any (λ group. nat_lt 256 (length group)) (raw_groups 17 catalog order) then Err LongGroup
    else Ok (length (listed_groups catalog order))

abbrev pub deep_or_count : List Descriptor → List (List Entry) → Option Entry → Result ℕ OrderFault
deep_or_count catalog order (Some entry) = Err (Deep entry.id)
deep_or_count catalog order None = count_groups catalog order

abbrev pub fault_or_deep : List Descriptor → List (List Entry) → Option OrderFault → Result ℕ OrderFault
fault_or_deep catalog order (Some fault) = Err fault
fault_or_deep catalog order None = deep_or_count catalog order (first_deep catalog order)

-- the number of listed groups, or why the order is refused
unfoldable pub checked : List Descriptor → List (List Entry) → Result ℕ OrderFault
checked catalog order = fault_or_deep catalog order (first_fault catalog (met_entries catalog order))

-- why an order is refused: for what it says, or for want of memory
abbrev pub cause_of : OrderFault → Cause
cause_of (Absent id) = Decided
cause_of (Ambiguous id) = Decided
cause_of (Api id api) = Decided
cause_of (Deep id) = Decided
cause_of ManyGroups = Decided
cause_of LongGroup = Decided
cause_of Memory = OutOfMemory
