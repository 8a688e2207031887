-- Lists of values that are read as they were written, which need no more than what is known of one value.
use Rattle.std.proofs.Common.{◌≡◌, ℕ, zero, suc, ◌+◌, ◌≤◌, Bool, true, List, [], ◌∷◌, ◌++◌, map, Ok, Err, refl, sym, ap}
use Rattle.std.proofs.Common.{◌∙◌, append_assoc}
use Rattle.std.proofs.Math.Nat.{le_refl, le_step, max-le, suc-le-suc_iff}
use Rattle.std.specs.List.{list_all}
use Rattle.std.proofs.lemmas.Bool.{and_parts, and_from, cond-true, false≢true}
use Rattle.std.proofs.lemmas.List.{append-nil}
use Rattle.toml.specs.Data.{Data, string, Members, depth, items_depth, members_depth, has_valid_dates}
use Rattle.toml.specs.Data.{items_have_valid_dates}
use Rattle.toml.specs.View.{items_of}
use Rattle.cnb_toml.specs.declared.fault.DocFault.TheVariants.{Name}
use Rattle.cnb_toml.specs.declared.names.Key.{Key}
use Rattle.cnb_toml.specs.Form.{Form, items_in, list_of, name_of, filled_text_of}
use Rattle.cnb_toml.specs.Keys.{key_in, is_key, key_members}
use Rattle.cnb_toml.specs.Names.{is_bp_id, is_bp_version}
use Rattle.cnb_toml.specs.Rows.{RowForm, rows_in, rows_of}
use Rattle.cnb_toml.specs.Written.{list_data, table_data, all_follow, is_filled}

pub zero_within : (n : ℕ) → 0 ≤ n
zero_within zero = le_refl 0
zero_within (suc n) = le_step (zero_within n)

pub suc_within : (a b : ℕ) → a ≤ b → suc a ≤ suc b
suc_within a b h = suc-le-suc_iff.1 h

pub name_read : (is_name : List ℕ → Bool) (text : List ℕ) → is_name text ≡ true
    → name_of is_name (string text) ≡ Ok text
name_read is_name text named = cond-true (is_name text) (Ok text) (Err (Name [])) named

pub key_read : (key : Key) → is_key key ≡ true → true ≡ true → key_in (key_members key) ≡ Ok key
key_read key named sound =
    let parts = and_parts (is_bp_id key.id) (is_bp_version key.version) named in
    rw (name_read is_bp_id key.id parts.0, name_read is_bp_version key.version parts.1)

pub filled_read : (text : List ℕ) → is_filled text ≡ true → filled_text_of (string text) ≡ Ok text
filled_read [] h = absurd (false≢true h)
filled_read (byte ∷ text) h = refl

pub all_true : {A : Type 0} (all : List A) → list_all (λ a. true) all ≡ true
all_true [] = refl
all_true (a ∷ all) = all_true all

module _ {A : Type 0} (data_of : A → Data) where
  items_dates : ((v : A) → has_valid_dates (data_of v) ≡ true) → (all : List A)
      → items_have_valid_dates (items_of (map data_of all)) ≡ true
  items_dates each [] = refl
  items_dates each (a ∷ all) = and_from _ _ (each a) (items_dates each all)

  pub list_dates : ((v : A) → has_valid_dates (data_of v) ≡ true) → (all : List A)
      → has_valid_dates (list_data data_of all) ≡ true
  list_dates each all = items_dates each all

  items_within : (is_sound : A → Bool) (nesting : ℕ) → ((v : A) → is_sound v ≡ true → depth (data_of v) ≤ nesting)
      → (all : List A) → list_all is_sound all ≡ true → items_depth (items_of (map data_of all)) ≤ nesting
  items_within is_sound nesting each [] h = zero_within nesting
  items_within is_sound nesting each (a ∷ all) h =
      let parts = and_parts (is_sound a) (list_all is_sound all) h in
      max-le (each a parts.0) (items_within is_sound nesting each all parts.1)

  pub list_within : (is_sound : A → Bool) (nesting : ℕ) →
      ((v : A) → is_sound v ≡ true → depth (data_of v) ≤ nesting) → (all : List A) → list_all is_sound all ≡ true
      → depth (list_data data_of all) ≤ suc nesting
  list_within is_sound nesting each all h = suc_within _ _ (items_within is_sound nesting each all h)

  items_read : (form : Form A) (is_typed is_sound : A → Bool)
      → ((v : A) → is_typed v ≡ true → is_sound v ≡ true → form (data_of v) ≡ Ok v)
      → (all : List A) (place : ℕ) → list_all is_typed all ≡ true → list_all is_sound all ≡ true
      → items_in form place (items_of (map data_of all)) ≡ Ok all
  items_read form is_typed is_sound each [] place typed h = refl
  items_read form is_typed is_sound each (a ∷ all) place typed h =
      let types = and_parts (is_typed a) (list_all is_typed all) typed in
      let parts = and_parts (is_sound a) (list_all is_sound all) h in
      rw (each a types.0 parts.0, items_read form is_typed is_sound each all (place + 1) types.1 parts.1)

  pub list_read : (form : Form A) (is_typed is_sound : A → Bool)
      → ((v : A) → is_typed v ≡ true → is_sound v ≡ true → form (data_of v) ≡ Ok v)
      → (all : List A) → list_all is_typed all ≡ true → list_all is_sound all ≡ true
      → list_of form (list_data data_of all) ≡ Ok all
  list_read form is_typed is_sound each all typed h = items_read form is_typed is_sound each all 0 typed h

module _ {A : Type 0} (members_of : A → Members) (form : RowForm A) (is_typed : A → Bool)
    (follows : List A → A → Bool) where
  rows_read_on : ((before : List A) (v : A) → is_typed v ≡ true → follows before v ≡ true
      → form before (members_of v) ≡ Ok v)
      → (rows before : List A) (place : ℕ) → list_all is_typed rows ≡ true → all_follow follows before rows ≡ true
      → rows_in form before place (items_of (map (table_data members_of) rows)) ≡ Ok (before ++ rows)
  rows_read_on each [] before place typed h = ap Ok (sym (append-nil before))
  rows_read_on each (row ∷ rows) before place typed h =
      let types = and_parts (is_typed row) (list_all is_typed rows) typed in
      let parts = and_parts (follows before row) (all_follow follows (before ++ row ∷ []) rows) h in
      rw (each before row types.0 parts.0) (rows_read_on each rows (before ++ row ∷ [])
      (place + 1) types.1 parts.1 ∙ ap Ok (append_assoc before (row ∷ []) rows))

  pub rows_read : ((before : List A) (v : A) → is_typed v ≡ true → follows before v ≡ true
      → form before (members_of v) ≡ Ok v)
      → (rows : List A) → list_all is_typed rows ≡ true → all_follow follows [] rows ≡ true
      → rows_of form (list_data (table_data members_of) rows) ≡ Ok rows
  rows_read each rows typed h = rows_read_on each rows [] 0 typed h

  rows_within_on : (nesting : ℕ) → ((before : List A) (v : A) → follows before v ≡ true
      → members_depth (members_of v) ≤ nesting)
      → (rows before : List A) → all_follow follows before rows ≡ true
      → items_depth (items_of (map (table_data members_of) rows)) ≤ suc nesting
  rows_within_on nesting each [] before h = zero_within (suc nesting)
  rows_within_on nesting each (row ∷ rows) before h =
      let parts = and_parts (follows before row) (all_follow follows (before ++ row ∷ []) rows) h in
      max-le (suc_within _ _ (each before row parts.0)) (rows_within_on nesting each rows (before ++ row ∷ []) parts.1)

  pub rows_within : (nesting : ℕ) → ((before : List A) (v : A) → follows before v ≡ true
      → members_depth (members_of v) ≤ nesting)
      → (rows : List A) → all_follow follows [] rows ≡ true → depth (list_data (table_data members_of) rows)
      ≤ suc (suc nesting)
  rows_within nesting each rows h = suc_within _ _ (rows_within_on nesting each rows [] h)
