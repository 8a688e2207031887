-- What a document that holds metadata needs to know of it: how deep its data nests, and that it holds no date-time.
use Rattle.std.proofs.Common.{◌≡◌, ℕ, ◌+◌, ◌-◌, ◌≤◌, true, List, [], ◌∷◌, map, refl, sym, ap, ◌∙◌, subst, arith}
use Rattle.std.specs.Prelude.{nat_le}
use Rattle.std.specs.List.{list_all}
use Rattle.std.proofs.lemmas.Bool.{and_parts, and_from, leb-true}
use Rattle.toml.specs.Data.{Data, string, integer, float, boolean, datetime, array, table, Members, no_members, depth}
use Rattle.toml.specs.Data.{items_depth, members_depth, has_valid_dates, items_have_valid_dates}
use Rattle.toml.specs.Data.{members_have_valid_dates}
use Rattle.toml.specs.View.{items_of}
use Rattle.cnb_toml.specs.declared.meta.Meta.{Meta}
use Rattle.cnb_toml.specs.declared.meta.MetaEntry.{MetaEntry}
use Rattle.cnb_toml.specs.declared.meta.Meta.TheVariants.{Bool as Truth, Int, Text, List as Items, Table, rolls-Bool}
use Rattle.cnb_toml.specs.declared.meta.Meta.TheVariants.{rolls-Int, rolls-Text, rolls-List, rolls-Table}
use Rattle.cnb_toml.specs.declared.meta.Meta.TheOpen as layer
use Rattle.cnb_toml.specs.declared.meta.Meta.TheViews.{roll-Meta, roll-MetaEntry}
use Rattle.cnb_toml.specs.declared.meta.Meta.TheFolds.{map-Meta, ind-Meta}
use Rattle.cnb_toml.specs.Writing.{put, put_all}
use Rattle.cnb_toml.specs.Meta.{deepest, members_of, is_kept, data_of, entry_of, ascend, is_kept_at, entries_kept_at}
use Rattle.cnb_toml.specs.Written.{metadata_data}
use Rattle.cnb_toml.proofs.Puts.{put-dates, put-depth}
use Rattle.cnb_toml.proofs.Metas.{data_of-Bool, data_of-Int, data_of-Text, data_of-List, data_of-Table, entry_of-parts}
use Rattle.cnb_toml.proofs.Metas.{is_kept_at-Bool, is_kept_at-Int, is_kept_at-Text, is_kept_at-List, is_kept_at-Table}

-- ---- metadata

-- it holds no date-time, and where it may stand at a depth nothing in it stands too deep
abbrev Sound : Meta → Type 0
Sound meta = (has_valid_dates (data_of meta) ≡ true)
    × ((at : ℕ) → is_kept_at meta at ≡ true → depth (data_of meta) + at ≤ deepest + 1)

abbrev Seen : Type 0
Seen = (meta : Meta) × Sound meta

abbrev SeenEntry : Type 0
SeenEntry = (entry : MetaEntry) × Sound entry.value

abbrev bare : List Seen → List Meta
bare list = map (λ seen. seen.0) list

abbrev bare_entries : List SeenEntry → List MetaEntry
bare_entries entries = map (λ seen. seen.0) entries

items_dates : (list : List Seen) → items_have_valid_dates (items_of (map data_of (bare list))) ≡ true
items_dates [] = refl
items_dates (seen ∷ list) = and_from _ _ seen.1.0 (items_dates list)

items_sound : (list : List Seen) (at : ℕ) → at ≤ deepest + 1
    → list_all (λ meta. is_kept_at meta at) (bare list) ≡ true
    → items_depth (items_of (map data_of (bare list))) + at ≤ deepest + 1
items_sound [] at within kept = omega arith
items_sound (seen ∷ list) at within kept =
    let parts = and_parts (is_kept_at seen.0 at) (list_all (λ meta. is_kept_at meta at) (bare list)) kept in
    omega (arith, seen.1.1 at parts.0, items_sound list at within parts.1)

put_all-dates : (entries : List SeenEntry) (all : Members) → members_have_valid_dates all ≡ true
    → members_have_valid_dates (put_all (map entry_of (bare_entries entries)) all) ≡ true
put_all-dates [] all a = a
put_all-dates (seen ∷ entries) all a =
    subst (λ (pair : List ℕ × Data). members_have_valid_dates
    (put_all (map entry_of (bare_entries entries)) (put pair.0 pair.1 all)) ≡ true)
    (sym (entry_of-parts seen.0))
    (put_all-dates entries (put seen.0.key (data_of seen.0.value) all)
    (put-dates seen.0.key (data_of seen.0.value) all seen.1.0 a))

put_all-depth : (entries : List SeenEntry) (all : Members) (at bound : ℕ) → deepest + 1 ≤ bound + at
    → list_all (λ entry. is_kept_at entry.value at) (bare_entries entries) ≡ true
    → members_depth all ≤ bound → members_depth (put_all (map entry_of (bare_entries entries)) all) ≤ bound
put_all-depth [] all at bound within kept a = a
put_all-depth (seen ∷ entries) all at bound within kept a =
    let parts = and_parts (is_kept_at seen.0.value at)
    (list_all (λ entry. is_kept_at entry.value at) (bare_entries entries)) kept in
    subst (λ (pair : List ℕ × Data). members_depth
    (put_all (map entry_of (bare_entries entries)) (put pair.0 pair.1 all)) ≤ bound)
    (sym (entry_of-parts seen.0))
    (put_all-depth entries (put seen.0.key (data_of seen.0.value) all) at bound within parts.1
    (put-depth seen.0.key (data_of seen.0.value) all bound (omega (arith, seen.1.1 at parts.0)) a))

plain_sound : (meta : Meta) (written : Data) → data_of meta ≡ written → has_valid_dates written ≡ true
    → depth written ≡ 0 → ((at : ℕ) → is_kept_at meta at ≡ nat_le at deepest) → Sound meta
plain_sound meta written is dates flat kept =
    (ap has_valid_dates is ∙ dates, λ at h. omega (arith, ap depth is, flat, leb-true at deepest (sym (kept at) ∙ h)))

list_sound : (list : List Seen) → Sound (Items (bare list))
list_sound list = (
  ap has_valid_dates (data_of-List (bare list)) ∙ items_dates list,
  λ at h.
      let parts = and_parts (nat_le at deepest) (list_all (λ meta. is_kept_at meta (at + 1)) (bare list))
      (sym (is_kept_at-List (bare list) at) ∙ h) in
      omega (
        arith,
        ap depth (data_of-List (bare list)),
        items_sound list (at + 1)
            (omega (arith, leb-true at deepest parts.0)) parts.1,
      ),
)

table_sound : (entries : List SeenEntry) → Sound (Table (bare_entries entries))
table_sound entries = (
  ap has_valid_dates (data_of-Table (bare_entries entries)) ∙ put_all-dates entries no_members refl,
  λ at h.
      let all : List MetaEntry = bare_entries entries in
      let parts = and_parts (nat_le at deepest) (entries_kept_at all (at + 1)) (sym (is_kept_at-Table all at) ∙ h) in
      let more = and_parts (ascend (map (λ entry. entry.key) all))
      (list_all (λ entry. is_kept_at entry.value (at + 1)) all) parts.1 in
      let within : at ≤ 32 = leb-true at deepest parts.0 in
      omega (
        arith,
        ap depth (data_of-Table all),
        put_all-depth entries no_members (at + 1) (32 - at)
            (omega arith) more.1 (omega arith),
      ),
)

by_layer : (x : layer.Meta-F Meta MetaEntry) (y : layer.Meta-F Seen SeenEntry)
    → map-Meta Seen SeenEntry Meta MetaEntry (λ seen. seen.0) (λ seen. seen.0) y ≡ x → Sound (roll-Meta x)
by_layer x (layer.Bool truth) is = subst (λ z. Sound (roll-Meta z)) is
    (subst Sound (sym (rolls-Bool truth)) (plain_sound (Truth truth) _ (data_of-Bool truth) refl refl
    (is_kept_at-Bool truth)))
by_layer x (layer.Int number) is = subst (λ z. Sound (roll-Meta z)) is
    (subst Sound (sym (rolls-Int number)) (plain_sound (Int number) _ (data_of-Int number) refl refl
    (is_kept_at-Int number)))
by_layer x (layer.Text text) is = subst (λ z. Sound (roll-Meta z)) is
    (subst Sound (sym (rolls-Text text)) (plain_sound (Text text) _ (data_of-Text text) refl refl
    (is_kept_at-Text text)))
by_layer x (layer.List list) is = subst (λ z. Sound (roll-Meta z)) is
    (subst Sound (sym (rolls-List (bare list))) (list_sound list))
by_layer x (layer.Table entries) is = subst (λ z. Sound (roll-Meta z)) is
    (subst Sound (sym (rolls-Table (bare_entries entries))) (table_sound entries))

sound : (meta : Meta) → Sound meta
sound = ind-Meta Sound (λ entry. Sound entry.value) by_layer
    (λ x y is. subst (λ (z : layer.MetaEntry-F Meta MetaEntry). Sound (roll-MetaEntry z).value) is y.value.1)

pub data_of-dates : (meta : Meta) → has_valid_dates (data_of meta) ≡ true
data_of-dates meta = (sound meta).0

pub data_of-depth : (meta : Meta) (at : ℕ) → is_kept_at meta at ≡ true → depth (data_of meta) + at ≤ deepest + 1
data_of-depth meta = (sound meta).1

-- ---- what is written of metadata as a table

of_dates : (written : Data) → has_valid_dates written ≡ true → has_valid_dates (table (members_of written)) ≡ true
of_dates (table inner) h = h
of_dates (string s) h = refl
of_dates (integer z) h = refl
of_dates (float x) h = refl
of_dates (boolean b) h = refl
of_dates (datetime t) h = refl
of_dates (array xs) h = refl

of_depth : (written : Data) → depth written ≤ 33 → depth (table (members_of written)) ≤ 33
of_depth (table inner) h = h
of_depth (string s) h = omega arith
of_depth (integer z) h = omega arith
of_depth (float x) h = omega arith
of_depth (boolean b) h = omega arith
of_depth (datetime t) h = omega arith
of_depth (array xs) h = omega arith

pub metadata_dates : (meta : Meta) → has_valid_dates (metadata_data meta) ≡ true
metadata_dates meta = of_dates (data_of meta) (data_of-dates meta)

pub metadata_within : (meta : Meta) → is_kept meta ≡ true → depth (metadata_data meta) ≤ 33
metadata_within meta kept = of_depth (data_of meta)
    (omega (arith, data_of-depth meta 0 (and_parts _ (is_kept_at meta 0) kept).1))
