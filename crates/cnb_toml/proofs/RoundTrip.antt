-- A value that is kept metadata is what its table is read as.
use Rattle.std.proofs.Common.{◌≡◌, ℕ, ◌+◌, true, List, [], ◌∷◌, ◌++◌, map, Ordering, Less, Equal, Greater, Result, Ok}
use Rattle.std.proofs.Common.{Err, nat_cmp, refl, sym, ap, ◌∙◌, subst, append_assoc}
use Rattle.std.specs.Prelude.{nat_le, is_some}
use Rattle.std.specs.Fmt.{decimal}
use Rattle.std.specs.List.{list_all}
use Rattle.std.specs.Cmp.Lexicographic.{slice_cmp}
use Rattle.std.specs.Ordering.{is_lt, ordering_reverse}
use Rattle.std.proofs.lemmas.Bool.{and_parts, cond-false, leb-true, le-ltb, false≢true}
use Rattle.std.proofs.lemmas.Cmp.{nat_list_cmp_total}
use Rattle.std.proofs.lemmas.List.{append-nil, map-append}
use Rattle.toml.specs.Data.{Data, string, integer, float, boolean, datetime, array, table, Members, no_members, member}
use Rattle.toml.specs.Data.{as_table}
use Rattle.toml.specs.View.{items_of}
use Rattle.cnb_toml.specs.declared.fault.DocFault.{DocFault}
use Rattle.cnb_toml.specs.declared.meta.Meta.{Meta}
use Rattle.cnb_toml.specs.declared.meta.MetaEntry.{MetaEntry}
use Rattle.cnb_toml.specs.declared.meta.Meta.TheVariants.{Bool as Truth, Int, Text, List as Items, Table, rolls-Bool}
use Rattle.cnb_toml.specs.declared.meta.Meta.TheVariants.{rolls-Int, rolls-Text, rolls-List, rolls-Table}
use Rattle.cnb_toml.specs.declared.meta.Meta.TheOpen as layer
use Rattle.cnb_toml.specs.declared.meta.Meta.TheViews.{roll-Meta, roll-MetaEntry}
use Rattle.cnb_toml.specs.declared.meta.Meta.TheFolds.{map-Meta, ind-Meta}
use Rattle.cnb_toml.specs.Reading.{◌>>=◌}
use Rattle.cnb_toml.specs.Meta.{deepest, standing, below, with_entry, table_in, meta_at, items_at, members_at}
use Rattle.cnb_toml.specs.Meta.{members_of, meta_in, data_of, entry_of, comes_before, ascend, is_kept, is_kept_at}
use Rattle.cnb_toml.specs.Meta.{entries_kept_at}
use Rattle.cnb_toml.specs.Writing.{put, put_all}
use Rattle.cnb_toml.proofs.Metas.{with_entry-first, data_of-Bool, data_of-Int, data_of-Text, data_of-List}
use Rattle.cnb_toml.proofs.Metas.{data_of-Table, entry_of-parts, is_kept_at-Bool, is_kept_at-Int, is_kept_at-Text}
use Rattle.cnb_toml.proofs.Metas.{is_kept_at-List, is_kept_at-Table}

-- ---- keys that ascend are put one behind another

abbrev Pair : Type 0
Pair = List ℕ × Data

abbrev plain : List Pair → Members
plain [] = no_members
plain (entry ∷ entries) = member entry.0 entry.1 (plain entries)

abbrev keys : List Pair → List (List ℕ)
keys entries = map (λ (entry : Pair). entry.0) entries

less : (o : Ordering) → is_lt o ≡ true → o ≡ Less
less Less h = refl
less Equal h = absurd (false≢true h)
less Greater h = absurd (false≢true h)

less_later : (key : List ℕ) (between : List Pair) (later : List ℕ) (rest : List (List ℕ))
    → ascend (key ∷ (keys between ++ later ∷ rest)) ≡ true → slice_cmp nat_cmp key later ≡ Less
less_later key [] later rest h = less _ (and_parts (is_lt (slice_cmp nat_cmp key later)) (ascend (later ∷ rest)) h).0
less_later key (next ∷ between) later rest h =
    let parts = and_parts (is_lt (slice_cmp nat_cmp key next.0)) (ascend (next.0 ∷ (keys between ++ later ∷ rest))) h in
    nat_list_cmp_total.trans key next.0 later (less _ parts.0) (less_later next.0 between later rest parts.1)

tail_ascends : (key : List ℕ) (rest : List (List ℕ)) → ascend (key ∷ rest) ≡ true → ascend rest ≡ true
tail_ascends key rest h = (and_parts (comes_before key rest) (ascend rest) h).1

put-last : (done : List Pair) (entry : Pair) (rest : List (List ℕ)) → ascend (keys done ++ entry.0 ∷ rest) ≡ true
    → put entry.0 entry.1 (plain done) ≡ plain (done ++ entry ∷ [])
put-last [] entry rest h = refl
put-last (first ∷ done) entry rest h =
    let above : slice_cmp nat_cmp entry.0 first.0 ≡ Greater = nat_list_cmp_total.antisymm entry.0 first.0
    ∙ ap ordering_reverse (less_later first.0 done entry.0 rest h) in
    rw above (ap (member first.0 first.1) (put-last done entry rest
    (tail_ascends first.0 (keys done ++ entry.0 ∷ rest) h)))

put_all-behind : (done entries : List Pair) → ascend (keys done ++ keys entries) ≡ true
    → put_all entries (plain done) ≡ plain (done ++ entries)
put_all-behind done [] h = ap plain (sym (append-nil done))
put_all-behind done (entry ∷ entries) h =
    let regrouped : keys (done ++ entry ∷ []) ++ keys entries ≡ keys done ++ entry.0 ∷ keys entries =
    ap (λ front. front ++ keys entries) (map-append (λ (e : Pair). e.0) done (entry ∷ []))
    ∙ append_assoc (keys done) (entry.0 ∷ []) (keys entries) in
    ap (put_all entries) (put-last done entry (keys entries) h)
    ∙ put_all-behind (done ++ entry ∷ []) entries (ap ascend regrouped ∙ h)
    ∙ ap plain (append_assoc done (entry ∷ []) entries)

put_all-ascending : (entries : List Pair) → ascend (keys entries) ≡ true → put_all entries no_members ≡ plain entries
put_all-ascending entries h = put_all-behind [] entries h

-- ---- each kind of value

standing_within : {A : Type 0} (depth : ℕ) (key : List ℕ) (value : Result A DocFault)
    → nat_le depth deepest ≡ true → standing depth key value ≡ value
standing_within depth key value within = cond-false _ _ _ (le-ltb deepest depth (leb-true depth deepest within))

abbrev ReadsBack : Meta → Type 0
ReadsBack meta = (depth : ℕ) (key : List ℕ) → is_kept_at meta depth ≡ true → meta_at depth key (data_of meta) ≡ Ok meta

abbrev Seen : Type 0
Seen = (meta : Meta) × ReadsBack meta

abbrev SeenEntry : Type 0
SeenEntry = (entry : MetaEntry) × ReadsBack entry.value

abbrev bare : List Seen → List Meta
bare list = map (λ seen. seen.0) list

abbrev bare_entries : List SeenEntry → List MetaEntry
bare_entries entries = map (λ seen. seen.0) entries

items_read_back : (list : List Seen) (depth place : ℕ) → list_all (λ meta. is_kept_at meta depth) (bare list)
    ≡ true → items_at depth place (items_of (map data_of (bare list))) ≡ Ok (bare list)
items_read_back [] depth place h = refl
items_read_back (seen ∷ list) depth place h =
    let parts = and_parts (is_kept_at seen.0 depth) (list_all (λ meta. is_kept_at meta depth) (bare list)) h in
    rw (seen.1 depth (decimal place) parts.0, items_read_back list depth (place + 1) parts.1)

with_entry-before : (entry : MetaEntry) (entries : List MetaEntry)
    → comes_before entry.key (map (λ (e : MetaEntry). e.key) entries) ≡ true
    → with_entry entry.key entry.value entries ≡ entry ∷ entries
with_entry-before entry [] h = refl
with_entry-before entry (next ∷ entries) h = with_entry-first entry.key entry.value next entries (less _ h)

members_read_back : (entries : List SeenEntry) (depth : ℕ)
    → ascend (map (λ entry. entry.key) (bare_entries entries)) ≡ true
    → list_all (λ entry. is_kept_at entry.value depth) (bare_entries entries) ≡ true
    → members_at depth (plain (map (λ (entry : MetaEntry). (entry.key, data_of entry.value))
    (bare_entries entries))) ≡ Ok (bare_entries entries)
members_read_back [] depth a h = refl
members_read_back (seen ∷ entries) depth a h =
    let parts = and_parts (is_kept_at seen.0.value depth)
    (list_all (λ entry. is_kept_at entry.value depth) (bare_entries entries)) h in
    let order = and_parts (comes_before seen.0.key (map (λ entry. entry.key) (bare_entries entries)))
    (ascend (map (λ entry. entry.key) (bare_entries entries))) a in
    rw (seen.1 depth seen.0.key parts.0, members_read_back entries depth order.1 parts.1)
    (ap Ok (with_entry-before seen.0 (bare_entries entries) order.0))

entries_of : (entries : List MetaEntry) → map entry_of entries
    ≡ map (λ (entry : MetaEntry). (entry.key, data_of entry.value)) entries
entries_of [] = refl
entries_of (entry ∷ entries) = ap (λ first. first ∷ map entry_of entries) (entry_of-parts entry)
    ∙ ap (λ rest. (entry.key, data_of entry.value) ∷ rest) (entries_of entries)

keys_of : (entries : List MetaEntry) → keys (map (λ (entry : MetaEntry). (entry.key, data_of entry.value))
    entries) ≡ map (λ entry. entry.key) entries
keys_of [] = refl
keys_of (entry ∷ entries) = ap (λ rest. entry.key ∷ rest) (keys_of entries)

list_reads_back : (list : List Seen) → ReadsBack (Items (bare list))
list_reads_back list depth key h =
    let parts = and_parts (nat_le depth deepest) (list_all (λ meta. is_kept_at meta (depth + 1)) (bare list))
    (sym (is_kept_at-List (bare list) depth) ∙ h) in
    let inner = items_read_back list (depth + 1) 0 parts.1 in
    ap (meta_at depth key) (data_of-List (bare list)) ∙ standing_within depth key _ parts.0
    ∙ ap (λ (r : Result (List Meta) DocFault). below key r >>= (λ all. Ok (Items all))) inner

table_reads_back : (entries : List SeenEntry) → ReadsBack (Table (bare_entries entries))
table_reads_back entries depth key h =
    let all : List MetaEntry = bare_entries entries in
    let pairs : List Pair = map (λ (entry : MetaEntry). (entry.key, data_of entry.value)) all in
    let parts = and_parts (nat_le depth deepest) (entries_kept_at all (depth + 1))
    (sym (is_kept_at-Table all depth) ∙ h) in
    let more = and_parts (ascend (map (λ entry. entry.key) all))
    (list_all (λ entry. is_kept_at entry.value (depth + 1)) all) parts.1 in
    let inner = members_read_back entries (depth + 1) more.0 more.1 in
    let put : put_all (map entry_of all) no_members ≡ plain pairs = ap (λ all. put_all all no_members)
    (entries_of all) ∙ put_all-ascending pairs (ap ascend (keys_of all) ∙ more.0) in
    ap (meta_at depth key) (data_of-Table all ∙ ap table put) ∙ standing_within depth key _ parts.0
    ∙ ap (λ (r : Result (List MetaEntry) DocFault). below key r >>= (λ all. Ok (Table all))) inner

plain_reads_back : (meta : Meta) (data_is : Data) → data_of meta ≡ data_is
    → ((depth : ℕ) → is_kept_at meta depth ≡ nat_le depth deepest)
    → ((depth : ℕ) (key : List ℕ) → meta_at depth key data_is ≡ standing depth key (Ok meta)) → ReadsBack meta
plain_reads_back meta data_is written kept read depth key h = ap (meta_at depth key) written ∙ read depth key
    ∙ standing_within depth key (Ok meta) (sym (kept depth) ∙ h)

by_layer : (x : layer.Meta-F Meta MetaEntry) (y : layer.Meta-F Seen SeenEntry)
    → map-Meta Seen SeenEntry Meta MetaEntry (λ seen. seen.0) (λ seen. seen.0) y ≡ x → ReadsBack (roll-Meta x)
by_layer x (layer.Bool truth) is = subst (λ z. ReadsBack (roll-Meta z)) is
    (subst ReadsBack (sym (rolls-Bool truth)) (plain_reads_back (Truth truth) _ (data_of-Bool truth)
    (is_kept_at-Bool truth) (λ depth key. refl)))
by_layer x (layer.Int number) is = subst (λ z. ReadsBack (roll-Meta z)) is
    (subst ReadsBack (sym (rolls-Int number)) (plain_reads_back (Int number) _ (data_of-Int number)
    (is_kept_at-Int number) (λ depth key. refl)))
by_layer x (layer.Text text) is = subst (λ z. ReadsBack (roll-Meta z)) is
    (subst ReadsBack (sym (rolls-Text text)) (plain_reads_back (Text text) _ (data_of-Text text)
    (is_kept_at-Text text) (λ depth key. refl)))
by_layer x (layer.List list) is = subst (λ z. ReadsBack (roll-Meta z)) is
    (subst ReadsBack (sym (rolls-List (bare list))) (list_reads_back list))
by_layer x (layer.Table entries) is = subst (λ z. ReadsBack (roll-Meta z)) is
    (subst ReadsBack (sym (rolls-Table (bare_entries entries))) (table_reads_back entries))

-- what a value is written as is read as the value
pub reads_back : (meta : Meta) → ReadsBack meta
reads_back = ind-Meta ReadsBack (λ entry. ReadsBack entry.value) by_layer
    (λ x y is. subst (λ (z : layer.MetaEntry-F Meta MetaEntry). ReadsBack (roll-MetaEntry z).value) is y.value.1)

below_ok : (path : List ℕ) (all : Members) (meta : Meta) → table_in all ≡ Ok meta → meta_in path all ≡ Ok meta
below_ok [] all meta read = read
below_ok (byte ∷ path) all meta read = ap (below (byte ∷ path)) read

unwrapped : (r : Result (List MetaEntry) DocFault) (meta : Meta)
    → (below [] r >>= (λ entries. Ok (Table entries))) ≡ Ok meta
    → (r >>= (λ entries. Ok (Table entries))) ≡ Ok meta
unwrapped (Ok entries) meta read = read
unwrapped (Err fault) meta read = absurd (cc)

table_read : (written : Data) (meta : Meta) → is_some (as_table written) ≡ true → meta_at 0 [] written ≡ Ok meta
    → table_in (members_of written) ≡ Ok meta
table_read (table inner) meta some read = unwrapped (members_at 1 inner) meta read
table_read (string s) meta some read = absurd (false≢true some)
table_read (integer z) meta some read = absurd (false≢true some)
table_read (float x) meta some read = absurd (false≢true some)
table_read (boolean b) meta some read = absurd (false≢true some)
table_read (datetime t) meta some read = absurd (false≢true some)
table_read (array items) meta some read = absurd (false≢true some)

-- the table that kept metadata is written as is read as it, whatever its path
pub kept_read : (meta : Meta) → is_kept meta ≡ true → (path : List ℕ)
    → meta_in path (members_of (data_of meta)) ≡ Ok meta
kept_read meta kept path =
    let parts = and_parts (is_some (as_table (data_of meta))) (is_kept_at meta 0) kept in
    below_ok path (members_of (data_of meta)) meta
    (table_read (data_of meta) meta parts.0 (reads_back meta 0 [] parts.1))
