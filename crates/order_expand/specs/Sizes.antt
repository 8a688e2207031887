-- How many groups there are, and how long the longest is, each counted no further than one above its limit.
use Rattle.std.specs.Prelude.{ℕ, List, [], ◌∷◌, length, map, min, max}
use Rattle.bp_docs.specs.declared.descriptor.Descriptor.{Descriptor}
use Rattle.order_expand.specs.declared.member.Member.{Member}
use Rattle.order_expand.specs.declared.size.Size.{Size}
use Rattle.order_expand.specs.Groups.{raw_groups}
use Rattle.order_expand.specs.Check.{order_of_body}

abbrev pub longest : List (List Member) → ℕ
longest [] = 0
longest (group ∷ groups) = max (length group) (longest groups)

unfoldable pub size_of : List (List Member) → Size
size_of groups = record { groups = min 4097 (length groups); longest = min 257 (longest groups) }

-- for each descriptor the size of its own order's groups, down to a number of levels
abbrev pub sizes_at : ℕ → List Descriptor → List Size
sizes_at levels catalog = map (λ descriptor. size_of (raw_groups levels catalog (order_of_body descriptor.body)))
    catalog
