use Rattle.std.proofs.Common.{◌≡◌, take}
use Rattle.std.specs.Option.{option_to_list}
use Rattle.order_expand.specs.Places.{places_from}
use Rattle.order_expand.proofs.catalog.Catalog.place.Given as goal

abbrev pub invariant-loop-place : goal.invariant-loop-place
invariant-loop-place l = places_from 0 l.entry (take l.place l.descriptor-items) ≡ option_to_list l.found
