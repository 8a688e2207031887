-- What is read is kept metadata.
use Rattle.std.proofs.Common.{◌≡◌, ℕ, ◌+◌, Bool, true, false, cond, List, [], ◌∷◌, map, Ordering, Less, Equal, Greater}
use Rattle.std.proofs.Common.{Option, Some, None, Result, Ok, Err, nat_cmp, refl, sym, ap, ◌∙◌, subst}
use Rattle.std.specs.Prelude.{nat_le, nat_lt, codes}
use Rattle.std.specs.Fmt.{decimal}
use Rattle.std.specs.List.{list_all}
use Rattle.std.specs.Cmp.Lexicographic.{slice_cmp}
use Rattle.std.specs.Ordering.{is_lt, match_ordering, ordering_reverse}
use Rattle.std.proofs.lemmas.Bool.{and_parts, and_from, le-leb, leb-true, ltb-false}
use Rattle.std.proofs.lemmas.Cmp.{nat_list_cmp_total}
use Rattle.toml.specs.Data.{Data, string, integer, float, boolean, datetime, array, table, Items, no_items, item}
use Rattle.toml.specs.Data.{Members, no_members, member, as_table, get_member}
use Rattle.cnb_toml.specs.declared.fault.DocFault.{DocFault}
use Rattle.cnb_toml.specs.declared.fault.DocFault.TheVariants.{MetaKind}
use Rattle.cnb_toml.specs.declared.meta.Meta.{Meta}
use Rattle.cnb_toml.specs.declared.meta.MetaEntry.{MetaEntry}
use Rattle.cnb_toml.specs.declared.meta.Meta.TheVariants.{Bool as Truth, Int, Text, List as ListOf, Table}
use Rattle.cnb_toml.specs.Meta.{deepest, standing, below, meta_at, items_at, members_at, with_entry, table_in, meta_in}
use Rattle.cnb_toml.specs.Meta.{metadata_table, metadata_of, metadata_in, comes_before, ascend, is_kept, is_kept_at}
use Rattle.cnb_toml.specs.Meta.{entries_kept_at}
use Rattle.cnb_toml.specs.Reading.{◌>>=◌}
use Rattle.cnb_toml.proofs.Metas.{is_kept_at-Bool, is_kept_at-Int, is_kept_at-Text, list_kept, table_kept, kept_root}

-- ---- what a step that answered came from

and_then_ok : {A B : Type 0} (r : Result A DocFault) (next : A → Result B DocFault) (b : B) → (r >>= next) ≡ Ok b
    → (a : A) × (r ≡ Ok a) × (next a ≡ Ok b)
and_then_ok (Ok a) next b h = (a, refl, h)
and_then_ok (Err fault) next b h = absurd (cc)

below_was : {A : Type 0} (key : List ℕ) (r : Result A DocFault) (a : A) → below key r ≡ Ok a → r ≡ Ok a
below_was key (Ok b) a h = h
below_was key (Err fault) a h = absurd (cc)

allowed : {A : Type 0} (deep : Bool) (key : List ℕ) (r : Result A DocFault) (a : A)
    → cond deep (Err (MetaKind key)) r ≡ Ok a → (deep ≡ false) × (r ≡ Ok a)
allowed true key r a h = absurd (cc)
allowed false key r a h = (refl, h)

standing_was : {A : Type 0} (depth : ℕ) (key : List ℕ) (r : Result A DocFault) (a : A)
    → standing depth key r ≡ Ok a → (nat_le depth deepest ≡ true) × (r ≡ Ok a)
standing_was depth key r a h =
    let parts = allowed (nat_lt deepest depth) key r a h in
    (le-leb depth deepest (ltb-false deepest depth parts.0), parts.1)

ok_is : (a b : Meta) → (let r : Result Meta DocFault = Ok a in r) ≡ Ok b → a ≡ b
ok_is a b h = cc

list_is : (a b : List Meta) → (let r : Result (List Meta) DocFault = Ok a in r) ≡ Ok b → a ≡ b
list_is a b h = cc

entries_are : (a b : List MetaEntry) → (let r : Result (List MetaEntry) DocFault = Ok a in r) ≡ Ok b → a ≡ b
entries_are a b h = cc

-- ---- entries in order stay so

abbrev names : List MetaEntry → List (List ℕ)
names entries = map (λ (entry : MetaEntry). entry.key) entries

before_at : (o : Ordering) (key new : List ℕ) (one next : MetaEntry) (entries more : List MetaEntry)
    → slice_cmp nat_cmp key one.key ≡ Less → slice_cmp nat_cmp key next.key ≡ Less
    → comes_before key (names (match_ordering o (one ∷ next ∷ entries) (one ∷ entries) (next ∷ more))) ≡ true
before_at Less key new one next entries more first second = ap is_lt first
before_at Equal key new one next entries more first second = ap is_lt first
before_at Greater key new one next entries more first second = ap is_lt second

is_less : (o : Ordering) → is_lt o ≡ true → o ≡ Less
is_less Less h = refl
is_less Equal h = absurd (cc)
is_less Greater h = absurd (cc)

comes_before-with : (key new : List ℕ) (meta : Meta) (entries : List MetaEntry) → slice_cmp nat_cmp key new ≡ Less
    → comes_before key (names entries) ≡ true → comes_before key (names (with_entry new meta entries)) ≡ true
comes_before-with key new meta [] first rest = ap is_lt first
comes_before-with key new meta (next ∷ entries) first rest =
    before_at (slice_cmp nat_cmp new next.key) key new (record { key = new; value = meta }) next entries
    (with_entry new meta entries) first (is_less _ rest)

later : (key new : List ℕ) (entries : List (List ℕ)) → slice_cmp nat_cmp new key ≡ Equal
    → comes_before key entries ≡ true → comes_before new entries ≡ true
later key new [] same h = refl
later key new (next ∷ entries) same h = ap is_lt (nat_list_cmp_total.congr new key next same) ∙ h

ascend_at : (o : Ordering) (new : List ℕ) (meta : Meta) (next : MetaEntry) (entries : List MetaEntry)
    → slice_cmp nat_cmp new next.key ≡ o → ascend (names (next ∷ entries)) ≡ true
    → ascend (names (with_entry new meta entries)) ≡ true
    → ascend (names (match_ordering o (record { key = new; value = meta } ∷ next ∷ entries)
    (record { key = new; value = meta } ∷ entries) (next ∷ with_entry new meta entries))) ≡ true
ascend_at Less new meta next entries o h more = and_from _ _ (ap is_lt o) h
ascend_at Equal new meta next entries o h more =
    let parts = and_parts (comes_before next.key (names entries)) (ascend (names entries)) h in
    and_from _ _ (later next.key new (names entries) o parts.0) parts.1
ascend_at Greater new meta next entries o h more =
    let parts = and_parts (comes_before next.key (names entries)) (ascend (names entries)) h in
    and_from _ _ (comes_before-with next.key new meta entries
    (nat_list_cmp_total.antisymm next.key new ∙ ap ordering_reverse o) parts.0) more

ascend-with : (new : List ℕ) (meta : Meta) (entries : List MetaEntry) → ascend (names entries) ≡ true
    → ascend (names (with_entry new meta entries)) ≡ true
ascend-with new meta [] h = refl
ascend-with new meta (next ∷ entries) h =
    ascend_at (slice_cmp nat_cmp new next.key) new meta next entries refl h
    (ascend-with new meta entries (and_parts (comes_before next.key (names entries))
    (ascend (names entries)) h).1)

all_at : (o : Ordering) (p : MetaEntry → Bool) (one next : MetaEntry) (entries more : List MetaEntry)
    → p one ≡ true → p next ≡ true → list_all p entries ≡ true → list_all p more ≡ true
    → list_all p (match_ordering o (one ∷ next ∷ entries) (one ∷ entries) (next ∷ more)) ≡ true
all_at Less p one next entries more a b c d = and_from _ _ a (and_from _ _ b c)
all_at Equal p one next entries more a b c d = and_from _ _ a c
all_at Greater p one next entries more a b c d = and_from _ _ b d

all-with : (p : MetaEntry → Bool) (new : List ℕ) (meta : Meta) (entries : List MetaEntry)
    → p (record { key = new; value = meta }) ≡ true → list_all p entries ≡ true
    → list_all p (with_entry new meta entries) ≡ true
all-with p new meta [] a h = and_from _ _ a refl
all-with p new meta (next ∷ entries) a h =
    let parts = and_parts (p next) (list_all p entries) h in
    all_at (slice_cmp nat_cmp new next.key) p (record { key = new; value = meta }) next entries
    (with_entry new meta entries) a parts.0 parts.1 (all-with p new meta entries a parts.1)

entries_kept-with : (depth : ℕ) (new : List ℕ) (meta : Meta) (entries : List MetaEntry)
    → is_kept_at meta depth ≡ true → entries_kept_at entries depth ≡ true
    → entries_kept_at (with_entry new meta entries) depth ≡ true
entries_kept-with depth new meta entries a h =
    let parts = and_parts (ascend (names entries)) (list_all (λ entry. is_kept_at entry.value depth) entries) h in
    and_from _ _ (ascend-with new meta entries parts.0)
    (all-with (λ entry. is_kept_at entry.value depth) new meta entries a parts.1)

-- ---- each value that is read

mutual
  kept_at : (value : Data) (depth : ℕ) (key : List ℕ) (meta : Meta) → meta_at depth key value ≡ Ok meta
      → is_kept_at meta depth ≡ true
  kept_at (boolean truth) depth key meta h =
      let was = standing_was depth key (Ok (Truth truth)) meta h in
      subst (λ m. is_kept_at m depth ≡ true) (ok_is (Truth truth) meta was.1) (is_kept_at-Bool truth depth ∙ was.0)
  kept_at (integer number) depth key meta h =
      let was = standing_was depth key (Ok (Int number)) meta h in
      subst (λ m. is_kept_at m depth ≡ true) (ok_is (Int number) meta was.1) (is_kept_at-Int number depth ∙ was.0)
  kept_at (string text) depth key meta h =
      let was = standing_was depth key (Ok (Text text)) meta h in
      subst (λ m. is_kept_at m depth ≡ true) (ok_is (Text text) meta was.1) (is_kept_at-Text text depth ∙ was.0)
  kept_at (float number) depth key meta h = absurd (cc)
  kept_at (datetime moment) depth key meta h = absurd (cc)
  kept_at (array items) depth key meta h =
      let was = standing_was depth key (below key (items_at (depth + 1) 0 items) >>= (λ list. Ok (ListOf list)))
      meta h in
      let step = and_then_ok (below key (items_at (depth + 1) 0 items)) (λ list. Ok (ListOf list)) meta was.1 in
      subst (λ m. is_kept_at m depth ≡ true) (ok_is (ListOf step.0) meta step.2)
      (list_kept step.0 depth (leb-true depth deepest was.0)
      (items_kept items (depth + 1) 0 step.0 (below_was key _ step.0 step.1)))
  kept_at (table inner) depth key meta h =
      let was = standing_was depth key (below key (members_at (depth + 1) inner)
      >>= (λ entries. Ok (Table entries))) meta h in
      let step = and_then_ok (below key (members_at (depth + 1) inner)) (λ entries. Ok (Table entries)) meta was.1 in
      subst (λ m. is_kept_at m depth ≡ true) (ok_is (Table step.0) meta step.2)
      (table_kept step.0 depth (leb-true depth deepest was.0)
      (members_kept inner (depth + 1) step.0 (below_was key _ step.0 step.1)))

  items_kept : (items : Items) (depth place : ℕ) (list : List Meta) → items_at depth place items ≡ Ok list
      → list_all (λ meta. is_kept_at meta depth) list ≡ true
  items_kept no_items depth place list h = subst (λ all. list_all (λ meta. is_kept_at meta depth) all ≡ true)
      (list_is [] list h) refl
  items_kept (item first items) depth place list h =
      let one = and_then_ok (meta_at depth (decimal place) first)
      (λ meta. items_at depth (place + 1) items >>= (λ rest. Ok (meta ∷ rest))) list h in
      let more = and_then_ok (items_at depth (place + 1) items) (λ rest. Ok (one.0 ∷ rest)) list one.2 in
      subst (λ all. list_all (λ meta. is_kept_at meta depth) all ≡ true) (list_is (one.0 ∷ more.0) list more.2)
      (and_from _ _ (kept_at first depth (decimal place) one.0 one.1)
      (items_kept items depth (place + 1) more.0 more.1))

  members_kept : (inner : Members) (depth : ℕ) (entries : List MetaEntry) → members_at depth inner ≡ Ok entries
      → entries_kept_at entries depth ≡ true
  members_kept no_members depth entries h = subst (λ all. entries_kept_at all depth ≡ true)
      (entries_are [] entries h) refl
  members_kept (member key first inner) depth entries h =
      let one = and_then_ok (meta_at depth key first)
      (λ meta. members_at depth inner >>= (λ rest. Ok (with_entry key meta rest))) entries h in
      let more = and_then_ok (members_at depth inner) (λ rest. Ok (with_entry key one.0 rest)) entries one.2 in
      subst (λ all. entries_kept_at all depth ≡ true) (entries_are (with_entry key one.0 more.0) entries more.2)
      (entries_kept-with depth key one.0 more.0 (kept_at first depth key one.0 one.1)
      (members_kept inner depth more.0 more.1))

table_kept_in : (inner : Members) (meta : Meta) → table_in inner ≡ Ok meta → is_kept meta ≡ true
table_kept_in inner meta h =
    let step = and_then_ok (members_at 1 inner) (λ entries. Ok (Table entries)) meta h in
    subst (λ m. is_kept m ≡ true) (ok_is (Table step.0) meta step.2)
    (kept_root step.0 (members_kept inner 1 step.0 step.1))

-- what a table at a path is read as
pub meta_kept : (path : List ℕ) (inner : Members) (meta : Meta) → Ok meta ≡ meta_in path inner → is_kept meta ≡ true
meta_kept [] inner meta h = table_kept_in inner meta (sym h)
meta_kept (byte ∷ path) inner meta h = table_kept_in inner meta (below_was (byte ∷ path) _ meta (sym h))

table_at_metadata : (inner : Option Members) (meta : Meta) → metadata_table inner ≡ Ok meta → is_kept meta ≡ true
table_at_metadata (Some inner) meta h = meta_kept (codes "metadata") inner meta (sym h)
table_at_metadata None meta h = absurd (cc)

value_at_metadata : (value : Option Data) (meta : Meta) → metadata_of value ≡ Ok meta → is_kept meta ≡ true
value_at_metadata (Some value) meta h = table_at_metadata (as_table value) meta h
value_at_metadata None meta h = subst (λ m. is_kept m ≡ true) (ok_is (Table []) meta h) (kept_root [] refl)

-- the metadata of a table of a document
pub metadata_kept : (inner : Members) (meta : Meta) → metadata_in inner ≡ Ok meta → is_kept meta ≡ true
metadata_kept inner meta h = value_at_metadata (get_member (codes "metadata") inner) meta h

-- the entries that a table's members are read as
pub read_kept : (inner : Members) (entries : List MetaEntry) → Ok entries ≡ members_at 1 inner
    → is_kept (Table entries) ≡ true
read_kept inner entries h = kept_root entries (members_kept inner 1 entries (sym h))
