-- What is written of each kind of value, and when it is kept metadata.
use Rattle.std.proofs.Common.{◌≡◌, ℕ, ℤ, ◌+◌, ◌≤◌, Bool, true, ◌&&◌, List, [], ◌∷◌, map, Less, string_bytes, Result, Ok}
use Rattle.std.proofs.Common.{Err, refl, sym, ap, ◌∙◌, lit≤}
use Rattle.std.specs.Prelude.{nat_le, is_some}
use Rattle.std.specs.List.{list_all, AllByRecursion}
use Rattle.std.specs.List.Sorted.{IsStrictlySortedBy}
use Rattle.std.specs.Ordering.{nat_cmp, match_ordering}
use Rattle.std.specs.Cmp.Lexicographic.{slice_cmp}
use Rattle.std.specs.Map.{keys_of}
use Rattle.std.specs.String.{string_cmp}
use Rattle.std.proofs.lemmas.Bool.{and_from, le-leb}
use Rattle.std.proofs.lemmas.List.Folds.{list_all-map}
use Rattle.toml.specs.Data.{string, integer, boolean, array, table, Members, no_members, member, as_table}
use Rattle.toml.specs.View.{view, items_of, members_view}
use Rattle.toml.proofs.Views.{Entry}
use Rattle.cnb_toml.specs.declared.fault.DocFault.{DocFault}
use Rattle.cnb_toml.specs.declared.meta.Meta.{Meta}
use Rattle.cnb_toml.specs.declared.meta.MetaEntry.{MetaEntry}
use Rattle.cnb_toml.specs.declared.meta.Meta.TheVariants.{Bool as Truth, Int, Text, List as Items, Table, rolls-Bool}
use Rattle.cnb_toml.specs.declared.meta.Meta.TheVariants.{rolls-Int, rolls-Text, rolls-List, rolls-Table}
use Rattle.cnb_toml.specs.declared.meta.Meta.TheOpen as layer
use Rattle.cnb_toml.specs.declared.meta.Meta.TheFolds.{fold-roll-Meta, fold_out-MetaEntry}
use Rattle.cnb_toml.specs.Meta.{deepest, ascend, meta_at, members_at, with_entry, data_of, entry_of, data_step}
use Rattle.cnb_toml.specs.Meta.{entry_step, is_kept, is_kept_at, entry_kept_at, entries_kept_at, kept_step}
use Rattle.cnb_toml.specs.Meta.{kept_entry_step}
use Rattle.cnb_toml.specs.Writing.{put_all}
use Rattle.cnb_toml.specs.Reading.{◌>>=◌}

-- ---- what is written

pub data_of-Bool : (truth : Bool) → data_of (Truth truth) ≡ boolean truth
data_of-Bool truth = ap data_of (sym (rolls-Bool truth)) ∙ fold-roll-Meta _ _ data_step entry_step (layer.Bool truth)

pub data_of-Int : (number : ℤ) → data_of (Int number) ≡ integer number
data_of-Int number = ap data_of (sym (rolls-Int number)) ∙ fold-roll-Meta _ _ data_step entry_step (layer.Int number)

pub data_of-Text : (text : List ℕ) → data_of (Text text) ≡ string text
data_of-Text text = ap data_of (sym (rolls-Text text)) ∙ fold-roll-Meta _ _ data_step entry_step (layer.Text text)

pub data_of-List : (list : List Meta) → data_of (Items list) ≡ array (items_of (map data_of list))
data_of-List list = ap data_of (sym (rolls-List list)) ∙ fold-roll-Meta _ _ data_step entry_step (layer.List list)

pub data_of-Table : (entries : List MetaEntry) → data_of (Table entries)
    ≡ table (put_all (map entry_of entries) no_members)
data_of-Table entries = ap data_of (sym (rolls-Table entries))
    ∙ fold-roll-Meta _ _ data_step entry_step (layer.Table entries)

pub entry_of-parts : (entry : MetaEntry) → entry_of entry ≡ (entry.key, data_of entry.value)
entry_of-parts entry = fold_out-MetaEntry _ _ data_step entry_step entry

-- ---- what is kept

kept_at : (depth : ℕ) {f g : ℕ → Bool} → f ≡ g → f depth ≡ g depth
kept_at depth e = ap (λ (f : ℕ → Bool). f depth) e

pub is_kept_at-Bool : (truth : Bool) (depth : ℕ) → is_kept_at (Truth truth) depth ≡ nat_le depth deepest
is_kept_at-Bool truth depth = kept_at depth (ap is_kept_at (sym (rolls-Bool truth))
    ∙ fold-roll-Meta _ _ kept_step kept_entry_step (layer.Bool truth))

pub is_kept_at-Int : (number : ℤ) (depth : ℕ) → is_kept_at (Int number) depth ≡ nat_le depth deepest
is_kept_at-Int number depth = kept_at depth (ap is_kept_at (sym (rolls-Int number))
    ∙ fold-roll-Meta _ _ kept_step kept_entry_step (layer.Int number))

pub is_kept_at-Text : (text : List ℕ) (depth : ℕ) → is_kept_at (Text text) depth ≡ nat_le depth deepest
is_kept_at-Text text depth = kept_at depth (ap is_kept_at (sym (rolls-Text text))
    ∙ fold-roll-Meta _ _ kept_step kept_entry_step (layer.Text text))

pub is_kept_at-List : (list : List Meta) (depth : ℕ) → is_kept_at (Items list) depth
    ≡ (nat_le depth deepest && list_all (λ meta. is_kept_at meta (depth + 1)) list)
is_kept_at-List list depth =
    kept_at depth (ap is_kept_at (sym (rolls-List list)) ∙ fold-roll-Meta _ _ kept_step kept_entry_step
    (layer.List list))
    ∙ ap (λ rest. nat_le depth deepest && rest) (list_all-map (λ (kept : ℕ → Bool). kept (depth + 1)) is_kept_at list)

entries_kept : (entries : List MetaEntry) → map entry_kept_at entries
    ≡ map (λ entry. (entry.key, is_kept_at entry.value)) entries
entries_kept [] = refl
entries_kept (entry ∷ entries) = ap (λ first. first ∷ map entry_kept_at entries)
    (fold_out-MetaEntry _ _ kept_step kept_entry_step entry)
    ∙ ap (λ rest. (entry.key, is_kept_at entry.value) ∷ rest) (entries_kept entries)

map-keys : (entries : List MetaEntry) → map (λ (kept : List ℕ × (ℕ → Bool)). kept.0)
    (map (λ entry. (entry.key, is_kept_at entry.value)) entries) ≡ map (λ entry. entry.key) entries
map-keys [] = refl
map-keys (entry ∷ entries) = ap (λ rest. entry.key ∷ rest) (map-keys entries)

pub is_kept_at-Table : (entries : List MetaEntry) (depth : ℕ)
    → is_kept_at (Table entries) depth ≡ (nat_le depth deepest && entries_kept_at entries (depth + 1))
is_kept_at-Table entries depth =
    kept_at depth (ap is_kept_at (sym (rolls-Table entries))
    ∙ fold-roll-Meta _ _ kept_step kept_entry_step (layer.Table entries))
    ∙ ap (λ all. nat_le depth deepest && (ascend (map (λ (kept : List ℕ × (ℕ → Bool)). kept.0) all)
    && list_all (λ kept. kept.1 (depth + 1)) all)) (entries_kept entries)
    ∙ ap (λ keys. nat_le depth deepest && (ascend keys && list_all
    (λ (kept : List ℕ × (ℕ → Bool)). kept.1 (depth + 1))
    (map (λ entry. (entry.key, is_kept_at entry.value)) entries))) (map-keys entries)
    ∙ ap (λ rest. nat_le depth deepest && (ascend (map (λ entry. entry.key) entries) && rest))
    (list_all-map (λ (kept : List ℕ × (ℕ → Bool)). kept.1 (depth + 1))
    (λ (entry : MetaEntry). (entry.key, is_kept_at entry.value)) entries)

pub list_kept : (list : List Meta) (depth : ℕ) → depth ≤ deepest
    → list_all (λ meta. is_kept_at meta (depth + 1)) list ≡ true → is_kept_at (Items list) depth ≡ true
list_kept list depth within kept = is_kept_at-List list depth ∙ and_from _ _ (le-leb depth deepest within) kept

pub table_kept : (entries : List MetaEntry) (depth : ℕ) → depth ≤ deepest
    → entries_kept_at entries (depth + 1) ≡ true → is_kept_at (Table entries) depth ≡ true
table_kept entries depth within kept = is_kept_at-Table entries depth ∙ and_from _ _ (le-leb depth deepest within) kept

pub kept_root : (entries : List MetaEntry) → entries_kept_at entries 1 ≡ true → is_kept (Table entries) ≡ true
kept_root entries kept =
    and_from (is_some (as_table (data_of (Table entries)))) _
    (ap (λ all. is_some (as_table all)) (data_of-Table entries)) (table_kept entries 0 (lit≤ tt) kept)

-- ---- a table whose keys ascend

-- its members read one behind another
abbrev pub plain_at : ℕ → Members → Result (List MetaEntry) DocFault
plain_at depth no_members = Ok []
plain_at depth (member key first rest) = meta_at depth key first
    >>= (λ meta. plain_at depth rest >>= (λ entries. Ok (record { key = key; value = meta } ∷ entries)))

pub with_entry-first : (key : List ℕ) (meta : Meta) (entry : MetaEntry) (entries : List MetaEntry)
    → slice_cmp nat_cmp key entry.key ≡ Less
    → with_entry key meta (entry ∷ entries) ≡ record { key = key; value = meta } ∷ entry ∷ entries
with_entry-first key meta entry entries less =
    ap (λ o. match_ordering o (record { key = key; value = meta } ∷ entry ∷ entries)
    (record { key = key; value = meta } ∷ entries) (entry ∷ with_entry key meta entries)) less

comes_first : (key next : List ℕ) (meta : Meta) (first : Result Meta DocFault)
    (more : Result (List MetaEntry) DocFault) → slice_cmp nat_cmp key next ≡ Less
    → ((first >>= (λ other. more >>= (λ entries. Ok (record { key = next; value = other } ∷ entries))))
    >>= (λ rest. Ok (with_entry key meta rest)))
    ≡ ((first >>= (λ other. more >>= (λ entries. Ok (record { key = next; value = other } ∷ entries))))
    >>= (λ rest. Ok (record { key = key; value = meta } ∷ rest)))
comes_first key next meta (Ok other) (Ok entries) less = ap Ok
    (with_entry-first key meta (record { key = next; value = other }) entries less)
comes_first key next meta (Ok other) (Err fault) less = refl
comes_first key next meta (Err fault) more less = refl

entry_first : (depth : ℕ) (e : Entry) (es : List Entry) (meta : Meta)
    → AllByRecursion (λ other. string_cmp e.0 other ≡ Less) (keys_of es)
    → (plain_at depth (members_view es) >>= (λ rest. Ok (with_entry (string_bytes e.0) meta rest)))
    ≡ (plain_at depth (members_view es) >>= (λ rest. Ok
    (record { key = string_bytes e.0; value = meta } ∷ rest)))
entry_first depth e [] meta h = refl
entry_first depth e (next ∷ es) meta h =
    comes_first (string_bytes e.0) (string_bytes next.0) meta (meta_at depth (string_bytes next.0) (view next.1))
    (plain_at depth (members_view es)) h.0

one_by_one : (depth : ℕ) (e : Entry) (es : List Entry) (first : Result Meta DocFault)
    → AllByRecursion (λ other. string_cmp e.0 other ≡ Less) (keys_of es)
    → (first >>= (λ meta. plain_at depth (members_view es) >>= (λ rest. Ok (with_entry (string_bytes e.0) meta rest))))
    ≡ (first >>= (λ meta. plain_at depth (members_view es) >>=
    (λ rest. Ok (record { key = string_bytes e.0; value = meta } ∷ rest))))
one_by_one depth e es (Ok meta) h = entry_first depth e es meta h
one_by_one depth e es (Err fault) h = refl

pub members_at-sorted : (depth : ℕ) (es : List Entry) → IsStrictlySortedBy string_cmp (keys_of es)
    → members_at depth (members_view es) ≡ plain_at depth (members_view es)
unfolding IsStrictlySortedBy
members_at-sorted depth [] h = refl
members_at-sorted depth (e ∷ es) h =
    ap (λ (more : Result (List MetaEntry) DocFault). meta_at depth (string_bytes e.0) (view e.1)
    >>= (λ meta. more >>= (λ rest. Ok (with_entry (string_bytes e.0) meta rest))))
    (members_at-sorted depth es h.1)
    ∙ one_by_one depth e es (meta_at depth (string_bytes e.0) (view e.1)) h.0
