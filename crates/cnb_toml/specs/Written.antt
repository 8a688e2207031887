-- What values are written as.
use Rattle.std.specs.Prelude.{ℕ, Bool, true, false, ◌&&◌, ◌++◌, List, [], ◌∷◌, map, Option, Some, None}
use Rattle.toml.specs.Data.{Data, array, table, Members}
use Rattle.toml.specs.View.{items_of}
use Rattle.cnb_toml.specs.declared.meta.Meta.{Meta}
use Rattle.cnb_toml.specs.Meta.{members_of, data_of}
use Rattle.cnb_toml.specs.Writing.{put}

-- a list of values
abbrev pub list_data : {A : Type 0} → (A → Data) → List A → Data
list_data data_of list = array (items_of (map data_of list))

-- a table of a kind
abbrev pub table_data : {A : Type 0} → (A → Members) → A → Data
table_data members_of value = table (members_of value)

-- each row may stand behind those before it
abbrev pub all_follow : {A : Type 0} → (List A → A → Bool) → List A → List A → Bool
all_follow follows before [] = true
all_follow follows before (row ∷ rows) = follows before row && all_follow follows (before ++ row ∷ []) rows

-- a list, or a text, of at least one item
abbrev pub is_filled : {A : Type 0} → List A → Bool
is_filled [] = false
is_filled (first ∷ rest) = true

-- metadata, which is a table
abbrev pub metadata_data : Meta → Data
metadata_data meta = table (members_of (data_of meta))

-- a value at a key, where there is one
abbrev pub put_some : {A : Type 0} → (A → Data) → List ℕ → Option A → Members → Members
put_some data_of key None members = members
put_some data_of key (Some value) members = put key (data_of value) members
