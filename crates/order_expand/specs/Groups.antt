-- The groups that an order lists (buildpack.md, "Order Resolution").
use Rattle.std.specs.Prelude.{ℕ, zero, suc, Bool, true, not, List, [], ◌∷◌, ◌++◌, map, ◌&&◌, if◌then◌else◌, Option}
use Rattle.std.specs.Prelude.{Some, None}
use Rattle.std.specs.List.{filter, flat_map}
use Rattle.std.specs.Option.{option_map_or}
use Rattle.std.specs.Str.{bytes_eq}
use Rattle.cnb_toml.specs.declared.names.Key.{Key}
use Rattle.bp_docs.specs.declared.descriptor.Entry.{Entry}
use Rattle.bp_docs.specs.declared.descriptor.Body.{Body}
use Rattle.bp_docs.specs.declared.descriptor.Body.TheVariants.{Component, Composite, Foreign}
use Rattle.bp_docs.specs.declared.descriptor.Descriptor.{Descriptor}
use Rattle.order_expand.specs.declared.member.Member.{Member}

-- the one element, where there is exactly one
abbrev pub the_only : {X : Type 0} → List X → Option X
the_only [] = None
the_only (x ∷ []) = Some x
the_only (x ∷ y ∷ xs) = None

-- whether an entry may mean a descriptor: the same id, and the same version where it gives one
abbrev pub may_mean : Entry → Descriptor → Bool
may_mean entry descriptor =
    bytes_eq entry.id descriptor.key.id && option_map_or (λ version. bytes_eq version descriptor.key.version)
    entry.version true

-- the descriptor that an entry names: the only one that it may mean
abbrev pub named : List Descriptor → Entry → Option Descriptor
named catalog entry = the_only (filter (may_mean entry) catalog)

-- The groups of an entry and of those behind it. A component stands in front of each. A composite is replaced by each
-- of its own groups in turn, and where it is optional, by none of them last.
abbrev pub in_front : (List (List Entry) → List (List Member)) → Entry → Key → Body → List (List Member)
    → List (List Member)
in_front groups_of entry key (Component clear_env targets) behind =
    map (λ group. record { key = key; optional = entry.optional; clear_env = clear_env; targets = targets }
    ∷ group) behind
in_front groups_of entry key (Composite order) behind =
    flat_map (λ front. map (λ group. front ++ group) behind) (groups_of order)
    ++ (if entry.optional then behind else [])
in_front groups_of entry key (Foreign api) behind = []

abbrev pub in_front_of : (List (List Entry) → List (List Member)) → Entry → Option Descriptor → List (List Member)
    → List (List Member)
in_front_of groups_of entry (Some descriptor) behind = in_front groups_of entry descriptor.key descriptor.body behind
in_front_of groups_of entry None behind = []

-- the groups that one group stands for: earlier entries vary slowest
abbrev pub expanded : (List (List Entry) → List (List Member)) → List Descriptor → List Entry → List (List Member)
expanded groups_of catalog [] = [] ∷ []
expanded groups_of catalog (entry ∷ entries) =
    in_front_of groups_of entry (named catalog entry) (expanded groups_of catalog entries)

-- the groups that an order stands for, where composites nest less deep than a number of levels
unfoldable pub raw_groups : ℕ → List Descriptor → List (List Entry) → List (List Member)
raw_groups zero catalog order = []
raw_groups (suc levels) catalog order = flat_map (expanded (raw_groups levels catalog) catalog) order

-- each element at its first place alone
abbrev pub distinct : {X : Type 0} → (X → X → Bool) → List X → List X
distinct same [] = []
distinct same (x ∷ xs) = x ∷ filter (λ y. not (same x y)) (distinct same xs)

-- two members of one id
abbrev pub same_id : Member → Member → Bool
same_id a b = bytes_eq a.key.id b.key.id

-- The listed groups: the order file's groups stand at nesting 0, and composites nest at most 16 deep. Of members of
-- one id in a group the first stands.
unfoldable pub listed_groups : List Descriptor → List (List Entry) → List (List Member)
listed_groups catalog order = map (distinct same_id) (raw_groups 17 catalog order)
