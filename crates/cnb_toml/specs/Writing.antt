-- What is put into a table that is to be written.
use Rattle.std.specs.Prelude.{ℕ, List, [], ◌∷◌}
use Rattle.std.specs.Ordering.{nat_cmp, match_ordering}
use Rattle.std.specs.Cmp.Lexicographic.{slice_cmp}
use Rattle.toml.specs.Data.{Data, Members, no_members, member}

-- how deep lists and tables may nest in a text that `toml` reads
abbrev pub nesting_limit : ℕ
nesting_limit = 80

-- the members with a value at a key, in the order of keys; a key that is there takes the value
abbrev pub put : List ℕ → Data → Members → Members
put key value no_members = member key value no_members
put key value (member other old members) =
    match_ordering (slice_cmp nat_cmp key other) (member key value (member other old members))
    (member other value members) (member other old (put key value members))

abbrev pub put_all : List (List ℕ × Data) → Members → Members
put_all [] members = members
put_all (entry ∷ entries) members = put_all entries (put entry.0 entry.1 members)
