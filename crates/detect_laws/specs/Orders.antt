-- An order whose entries name buildpacks that are there, within the limits (buildpack.md, "Order Resolution").
use Rattle.std.specs.Prelude.{◌≡◌, ◌≤◌, false, List, length, Some}
use Rattle.std.specs.List.{AllByRecursion}
use Rattle.bp_docs.specs.declared.descriptor.Body.{Body}
use Rattle.bp_docs.specs.declared.descriptor.Body.TheVariants.{Component, Composite, Foreign}
use Rattle.bp_docs.specs.declared.descriptor.Descriptor.{Descriptor}
use Rattle.bp_docs.specs.declared.descriptor.Entry.{Entry}
use Rattle.order_expand.specs.Check.{entries_of, met_entries, nests_deeper}
use Rattle.order_expand.specs.Groups.{listed_groups, named, raw_groups}

-- a buildpack of the Buildpack API that is served
abbrev pub IsServed : Body → Type 0
IsServed (Component clear_env targets) = Unit {0}
IsServed (Composite order) = Unit {0}
IsServed (Foreign api) = ⊥

-- An entry names exactly one of these buildpacks, and that is of the served API.
abbrev pub NamesOne : List Descriptor → Entry → Type 0
NamesOne catalog entry = (descriptor : Descriptor) × (named catalog entry ≡ Some descriptor) × IsServed descriptor.body

-- Each entry that is met, in the order and in the composites that it leads to, names one of these buildpacks.
-- Composites nest at most 16 deep, and there are at most 4,096 groups, none of more than 256 entries.
pub record IsSoundOrder (catalog : List Descriptor) (order : List (List Entry)) : Type 0 where
  pub entries : AllByRecursion (NamesOne catalog) (met_entries catalog order)
  pub nesting : AllByRecursion (λ entry. nests_deeper 16 catalog entry ≡ false) (entries_of order)
  pub groups : length (listed_groups catalog order) ≤ 4096
  pub short : AllByRecursion (λ group. length group ≤ 256) (raw_groups 17 catalog order)
