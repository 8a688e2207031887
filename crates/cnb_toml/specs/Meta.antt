-- Kept metadata: what a table is read as, and the table that a value is written as.
use Rattle.std.specs.Prelude.{ℕ, Bool, true, ◌&&◌, ◌+◌, nat_lt, nat_le, if◌then◌else◌, List, [], ◌∷◌, ◌++◌, map, Option}
use Rattle.std.specs.Prelude.{Some, None, is_some, Result, Ok, Err, codes}
use Rattle.std.specs.List.{list_all}
use Rattle.std.specs.Fmt.{decimal}
use Rattle.std.specs.Ordering.{nat_cmp, is_lt, match_ordering}
use Rattle.std.specs.Cmp.Lexicographic.{slice_cmp}
use Rattle.toml.specs.Data.{Data, string, integer, float, boolean, datetime, array, table, Items, no_items, item}
use Rattle.toml.specs.Data.{Members, no_members, member, as_table, get_member}
use Rattle.toml.specs.View.{items_of}
use Rattle.cnb_toml.specs.declared.fault.DocFault.{DocFault}
use Rattle.cnb_toml.specs.declared.fault.DocFault.TheVariants.{MetaKind, Wrong}
use Rattle.cnb_toml.specs.declared.meta.Meta.{Meta}
use Rattle.cnb_toml.specs.declared.meta.MetaEntry.{MetaEntry}
use Rattle.cnb_toml.specs.declared.meta.Meta.TheVariants as variant
use Rattle.cnb_toml.specs.declared.meta.Meta.TheOpen as layer
use Rattle.cnb_toml.specs.declared.meta.Meta.TheFolds.{fold-Meta, fold-MetaEntry}
use Rattle.cnb_toml.specs.declared.meta.PathPart.{PathPart}
use Rattle.cnb_toml.specs.declared.meta.PathPart.TheVariants.{Key, Place}
use Rattle.cnb_toml.specs.Writing.{put_all}
use Rattle.cnb_toml.specs.Reading.{◌>>=◌}

-- how deep a value may stand: the values of the table that is read stand 1 deep, those in one of them 2 deep
abbrev pub deepest : ℕ
deepest = 32

-- how a key path spells a key of a table, and a place in a list
abbrev pub part_text : PathPart → List ℕ
part_text (Key key) = key.now
part_text (Place place) = decimal place

-- a value, unless it stands too deep, whatever it is
abbrev pub standing : {A : Type 0} → ℕ → List ℕ → Result A DocFault → Result A DocFault
standing depth key value = if nat_lt deepest depth then Err (MetaKind key) else value

-- the path of a fault begins with the key below which it was found
abbrev pub fault_below : List ℕ → DocFault → DocFault
fault_below key (MetaKind path) = MetaKind (key ++ 46 ∷ path)
fault_below key fault = fault

abbrev pub below : {A : Type 0} → List ℕ → Result A DocFault → Result A DocFault
below key (Ok value) = Ok value
below key (Err fault) = Err (fault_below key fault)

-- the entries with one more, in the order of keys; a key that is there takes the value
abbrev pub with_entry : List ℕ → Meta → List MetaEntry → List MetaEntry
with_entry key value [] = record { key = key; value = value } ∷ []
with_entry key value (entry ∷ entries) =
    match_ordering (slice_cmp nat_cmp key entry.key) (record { key = key; value = value } ∷ entry ∷ entries)
    (record { key = key; value = value } ∷ entries)
    (entry ∷ with_entry key value entries)

-- What stands at a key: truth values, whole numbers and texts, and lists and tables of such. The first that is
-- another, or too deep, is refused with its path: parents before what they hold, items in order, keys ascending.
abbrev mutual
  pub meta_at : ℕ → List ℕ → Data → Result Meta DocFault
  meta_at depth key (boolean truth) = standing depth key (Ok (variant.Bool truth))
  meta_at depth key (integer number) = standing depth key (Ok (variant.Int number))
  meta_at depth key (string text) = standing depth key (Ok (variant.Text text))
  meta_at depth key (float number) = Err (MetaKind key)
  meta_at depth key (datetime moment) = Err (MetaKind key)
  meta_at depth key (array items) = standing depth key
      (below key (items_at (depth + 1) 0 items) >>= (λ list. Ok (variant.List list)))
  meta_at depth key (table members) = standing depth key
      (below key (members_at (depth + 1) members) >>= (λ entries. Ok (variant.Table entries)))

  pub items_at : ℕ → ℕ → Items → Result (List Meta) DocFault
  items_at depth place no_items = Ok []
  items_at depth place (item first items) =
      meta_at depth (decimal place) first >>= (λ meta. items_at depth (place + 1) items >>= (λ rest. Ok (meta ∷ rest)))

  pub members_at : ℕ → Members → Result (List MetaEntry) DocFault
  members_at depth no_members = Ok []
  members_at depth (member key first members) =
      meta_at depth key first >>= (λ meta. members_at depth members >>= (λ rest. Ok (with_entry key meta rest)))

-- what a table is read as, whose values stand 1 deep; an empty path is that of a document's top
abbrev pub table_in : Members → Result Meta DocFault
table_in members = members_at 1 members >>= (λ entries. Ok (variant.Table entries))

abbrev pub meta_in : List ℕ → Members → Result Meta DocFault
meta_in [] members = table_in members
meta_in (byte ∷ path) members = below (byte ∷ path) (table_in members)

-- the metadata of a table of a document, which is a table, by default empty
abbrev pub metadata_table : Option Members → Result Meta DocFault
metadata_table (Some members) = meta_in (codes "metadata") members
metadata_table None = Err (Wrong (codes "metadata"))

abbrev pub metadata_of : Option Data → Result Meta DocFault
metadata_of (Some value) = metadata_table (as_table value)
metadata_of None = Ok (variant.Table [])

abbrev pub metadata_in : Members → Result Meta DocFault
metadata_in members = metadata_of (get_member (codes "metadata") members)

abbrev pub data_step : layer.Meta-F Data (List ℕ × Data) → Data
data_step (layer.Bool truth) = boolean truth
data_step (layer.Int number) = integer number
data_step (layer.Text text) = string text
data_step (layer.List list) = array (items_of list)
data_step (layer.Table entries) = table (put_all entries no_members)

abbrev pub entry_step : layer.MetaEntry-F Data (List ℕ × Data) → List ℕ × Data
entry_step entry = (entry.key, entry.value)

-- what a value, and an entry of a table, is written as
abbrev pub data_of : Meta → Data
data_of = fold-Meta Data (List ℕ × Data) data_step entry_step

abbrev pub entry_of : MetaEntry → List ℕ × Data
entry_of = fold-MetaEntry Data (List ℕ × Data) data_step entry_step

-- the members of a table, and none of another value
abbrev pub members_of : Data → Members
members_of (table members) = members
members_of _ = no_members

-- keys that ascend by their bytes, so that each stands once
abbrev pub comes_before : List ℕ → List (List ℕ) → Bool
comes_before key [] = true
comes_before key (next ∷ keys) = is_lt (slice_cmp nat_cmp key next)

abbrev pub ascend : List (List ℕ) → Bool
ascend [] = true
ascend (key ∷ keys) = comes_before key keys && ascend keys

abbrev pub kept_step : layer.Meta-F (ℕ → Bool) (List ℕ × (ℕ → Bool)) → ℕ → Bool
kept_step (layer.Bool truth) depth = nat_le depth deepest
kept_step (layer.Int number) depth = nat_le depth deepest
kept_step (layer.Text text) depth = nat_le depth deepest
kept_step (layer.List list) depth = nat_le depth deepest && list_all (λ kept. kept (depth + 1)) list
kept_step (layer.Table entries) depth =
    nat_le depth deepest && (ascend (map (λ entry. entry.0) entries) && list_all (λ entry. entry.1 (depth + 1)) entries)

abbrev pub kept_entry_step : layer.MetaEntry-F (ℕ → Bool) (List ℕ × (ℕ → Bool)) → List ℕ × (ℕ → Bool)
kept_entry_step entry = (entry.key, entry.value)

-- the value may stand at this depth: the keys of its tables ascend, and nothing in it stands too deep
abbrev pub is_kept_at : Meta → ℕ → Bool
is_kept_at = fold-Meta (ℕ → Bool) (List ℕ × (ℕ → Bool)) kept_step kept_entry_step

abbrev pub entry_kept_at : MetaEntry → List ℕ × (ℕ → Bool)
entry_kept_at = fold-MetaEntry (ℕ → Bool) (List ℕ × (ℕ → Bool)) kept_step kept_entry_step

abbrev pub entries_kept_at : List MetaEntry → ℕ → Bool
entries_kept_at entries depth = ascend (map (λ entry. entry.key) entries)
    && list_all (λ entry. is_kept_at entry.value depth) entries

-- kept metadata: a table, whose own values stand 1 deep
abbrev pub is_kept : Meta → Bool
is_kept meta = is_some (as_table (data_of meta)) && is_kept_at meta 0
