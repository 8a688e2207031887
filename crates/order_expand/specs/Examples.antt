-- What the definitions say of small orders. A buildpack here has an id of one letter and the version `1`.
use Rattle.std.specs.Prelude.{◌≡◌, refl, ℕ, zero, suc, ◌+◌, true, false, List, [], ◌∷◌, map, Some, None}
use Rattle.cnb_toml.specs.declared.names.Key.{Key}
use Rattle.bp_docs.specs.declared.descriptor.Entry.{Entry}
use Rattle.bp_docs.specs.declared.descriptor.Body.TheVariants.{Component, Composite}
use Rattle.bp_docs.specs.declared.descriptor.Descriptor.{Descriptor}
use Rattle.order_expand.specs.declared.member.Member.{Member}
use Rattle.order_expand.specs.Groups.{raw_groups, listed_groups}

abbrev pub key : ℕ → Key
key letter = record { id = letter ∷ []; version = 49 ∷ [] }

abbrev pub component : ℕ → Descriptor
component letter = record { key = key letter; body = Component false [] }

abbrev pub composite : ℕ → List (List Entry) → Descriptor
composite letter order = record { key = key letter; body = Composite order }

-- an entry that names whatever version there is, an optional one, and one that gives its version
abbrev pub entry : ℕ → Entry
entry letter = record { id = letter ∷ []; version = None; optional = false }

abbrev pub optional_entry : ℕ → Entry
optional_entry letter = record { id = letter ∷ []; version = None; optional = true }

abbrev pub entry_at : ℕ → ℕ → Entry
entry_at letter version = record { id = letter ∷ []; version = Some (version ∷ []); optional = false }

abbrev pub member : ℕ → Member
member letter = record { key = key letter; optional = false; clear_env = false; targets = [] }

abbrev pub optional_member : ℕ → Member
optional_member letter = record { key = key letter; optional = true; clear_env = false; targets = [] }

-- an optional composite of two groups between a component and a composite of two: left out only after each of its
-- groups
abbrev catalog_of_eight : List Descriptor
catalog_of_eight = component 69 ∷ component 65 ∷ component 66 ∷ component 67 ∷ component 68 ∷
    composite 79 ((entry 65 ∷ []) ∷ (entry 66 ∷ []) ∷ []) ∷ composite 80 ((entry 67 ∷ []) ∷ (entry 68 ∷ []) ∷ []) ∷ []

pub an_optional_composite_is_left_out_last : listed_groups catalog_of_eight
    ((entry 69 ∷ optional_entry 79 ∷ entry 80 ∷ []) ∷ [])
    ≡ map (map member) ((69 ∷ 65 ∷ 67 ∷ []) ∷ (69 ∷ 65 ∷ 68 ∷ []) ∷ (69 ∷ 66 ∷ 67 ∷ []) ∷ (69 ∷ 66 ∷ 68 ∷ [])
    ∷ (69 ∷ 67 ∷ []) ∷ (69 ∷ 68 ∷ []) ∷ [])
unfolding listed_groups raw_groups
an_optional_composite_is_left_out_last = refl

-- [s], where s has [t?, u] and t has [v]
pub an_optional_composite_in_a_composite : listed_groups
    (composite 115 ((optional_entry 116 ∷ entry 117 ∷ []) ∷ []) ∷ composite 116 ((entry 118 ∷ []) ∷ [])
    ∷ component 117 ∷ component 118 ∷ [])
    ((entry 115 ∷ []) ∷ [])
    ≡ map (map member) ((118 ∷ 117 ∷ []) ∷ (117 ∷ []) ∷ [])
unfolding listed_groups raw_groups
an_optional_composite_in_a_composite = refl

-- [a at 1, k], where k has [a at 2, b]: the later member of the id a is dropped
pub the_first_of_one_id_stands : listed_groups
    (component 97 ∷ record { key = record { id = 97 ∷ []; version = 50 ∷ [] }; body = Component false [] }
    ∷ component 98 ∷ composite 107 ((entry_at 97 50 ∷ entry 98 ∷ []) ∷ []) ∷ [])
    ((entry_at 97 49 ∷ entry 107 ∷ []) ∷ [])
    ≡ map (map member) ((97 ∷ 98 ∷ []) ∷ [])
unfolding listed_groups raw_groups
the_first_of_one_id_stands = refl

-- an entry without a version names nothing where two versions are there
pub a_version_is_not_guessed : listed_groups
    (component 97 ∷ record { key = record { id = 97 ∷ []; version = 50 ∷ [] }; body = Component false [] } ∷ [])
    ((entry 97 ∷ []) ∷ [])
    ≡ []
unfolding listed_groups raw_groups
a_version_is_not_guessed = refl

-- composites from a number on, each naming the next, and a component behind them
abbrev chain : ℕ → ℕ → List Descriptor
chain zero first = component first ∷ []
chain (suc more) first = composite first ((entry (first + 1) ∷ []) ∷ []) ∷ chain more (first + 1)

pub sixteen_composites_nest : listed_groups (chain 16 100) ((entry 100 ∷ []) ∷ []) ≡ (member 116 ∷ []) ∷ []
unfolding listed_groups raw_groups
sixteen_composites_nest = refl

pub seventeen_composites_do_not : listed_groups (chain 17 100) ((entry 100 ∷ []) ∷ []) ≡ []
unfolding listed_groups raw_groups
seventeen_composites_do_not = refl
