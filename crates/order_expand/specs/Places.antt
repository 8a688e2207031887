-- The places of descriptors in a catalog.
use Rattle.std.specs.Prelude.{ℕ, ◌+◌, List, [], ◌∷◌, if◌then◌else◌, Option}
use Rattle.bp_docs.specs.declared.descriptor.Entry.{Entry}
use Rattle.bp_docs.specs.declared.descriptor.Descriptor.{Descriptor}
use Rattle.order_expand.specs.Groups.{may_mean, the_only}

-- the places of the descriptors that an entry may mean, in a list that begins at a place
abbrev pub places_from : ℕ → Entry → List Descriptor → List ℕ
places_from place entry [] = []
places_from place entry (descriptor ∷ descriptors) =
    if may_mean entry descriptor then place ∷ places_from (place + 1) entry descriptors else places_from
    (place + 1) entry descriptors

-- the place of the descriptor that an entry names
abbrev pub place_of : List Descriptor → Entry → Option ℕ
place_of catalog entry = the_only (places_from 0 entry catalog)
