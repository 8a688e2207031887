-- What holds of each value that a form gives.
use Rattle.std.proofs.Common.{◌≡◌, ◌∙◌, refl, sym, ap, subst, ℕ, ◌+◌, Bool, true, false, not, ◌&&◌, ◌||◌, List, [], ◌∷◌}
use Rattle.std.proofs.Common.{◌++◌, Option, Some, None, Result, Ok, Err}
use Rattle.std.specs.Prelude.{IfOk, if◌then◌else◌}
use Rattle.std.specs.Fmt.{decimal}
use Rattle.std.specs.List.{list_all}
use Rattle.std.proofs.lemmas.Bool.{and_from, and_parts, not-true, or_from, or_parts}
use Rattle.std.proofs.lemmas.List.Folds.{list_all-append, list_any-append}
use Rattle.toml.specs.Data.{Data, Items, no_items, item, Members, as_array, as_str, as_table, get_member}
use Rattle.cnb_toml.specs.declared.fault.DocFault.{DocFault}
use Rattle.cnb_toml.specs.declared.fault.DocFault.TheVariants.{Name, Wrong}
use Rattle.cnb_toml.specs.Distinct.{are_distinct, has_key, is_new}
use Rattle.cnb_toml.specs.Document.{document_in, document_of}
use Rattle.cnb_toml.specs.Fields.{filled, list_at, read_or, read_required, required_at, value_or}
use Rattle.cnb_toml.specs.Form.{Form, TableForm, filled_text, filled_text_of, items_in, list_of, name_of, or_wrong}
use Rattle.cnb_toml.specs.Form.{table_of}
use Rattle.cnb_toml.specs.Reading.{◌>>=◌, Answers, under}
use Rattle.cnb_toml.specs.Rows.{RowForm, rows_in, rows_of}
use Rattle.cnb_toml.specs.Written.{is_filled}
use Rattle.image_docs.specs.DistinctRows.{distinct_row, unless_listed}

-- it holds of the value, where there is one
abbrev pub Holds : {A : Type 0} → (A → Bool) → Result A DocFault → Type 0
Holds p r = IfOk r (λ a. p a ≡ true)

pub holds_by : {A : Type 0} (p : A → Bool) (r : Result A DocFault) → ((a : A) → r ≡ Ok a → p a ≡ true) → Holds p r
holds_by p (Ok a) each = each a refl
holds_by p (Err fault) each = tt

pub holds_of : {A : Type 0} (p : A → Bool) (r : Result A DocFault) (a : A) → Holds p r → r ≡ Ok a → p a ≡ true
holds_of p r a h is = let at : Holds p (Ok a) = subst (Holds p) is h in at

-- one step after another
pub and_then : {A B : Type 0} (p : A → Bool) (q : B → Bool) (r : Result A DocFault) (next : A → Result B DocFault)
    → Holds p r → ((a : A) → p a ≡ true → Holds q (next a)) → Holds q (r >>= next)
and_then p q (Ok a) next h k = k a h
and_then p q (Err fault) next h k = tt

pub under_holds : {A : Type 0} (p : A → Bool) (key : List ℕ) (r : Result A DocFault) → Holds p r → Holds p (under key r)
under_holds p key (Ok a) h = h
under_holds p key (Err fault) h = tt

-- a value that is answered where it meets a test
pub tested : {A : Type 0} (p : A → Bool) (value : A) (fault : DocFault)
    → Holds p (if p value then Ok value else Err fault)
tested p value fault = by (p value) refl
  where
    by : (b : Bool) → p value ≡ b → Holds p (if b then Ok value else Err fault)
    by true e = e
    by false e = tt

-- ---- values, and lists of them

module _ {A : Type 0} (form : Form A) (p : A → Bool) (each : (value : Data) → Holds p (form value)) where
  in_items : (place : ℕ) (values : Items) → Holds (list_all p) (items_in form place values)
  in_items place no_items = refl
  in_items place (item value values) = pair (under (decimal place) (form value))
      (items_in form (place + 1) values) (under_holds p (decimal place) (form value) (each value))
      (in_items (place + 1) values)
    where
      pair : (first : Result A DocFault) (rest : Result (List A) DocFault) → Holds p first
          → Holds (list_all p) rest → Holds (list_all p) (first >>= (λ a. rest >>= (λ more. Ok (a ∷ more))))
      pair (Ok a) (Ok more) h k = and_from (p a) (list_all p more) h k
      pair (Ok a) (Err fault) h k = tt
      pair (Err fault) rest h k = tt

  in_list : (value : Data) → Holds (list_all p) (list_of form value)
  in_list value = by (as_array value)
    where
      by : (o : Option Items) → Holds (list_all p) (or_wrong o >>= items_in form 0)
      by (Some values) = in_items 0 values
      by None = tt

  pub at_required : (key : List ℕ) (table : Members) → Holds p (required_at form key table)
  at_required key table = by (get_member key table)
    where
      by : (o : Option Data) → Holds p (read_required form key o)
      by (Some value) = under_holds p key (form value) (each value)
      by None = tt

  pub at_or : (absent : A) (key : List ℕ) (table : Members) → p absent ≡ true → Holds p (value_or absent form key table)
  at_or absent key table h = by (get_member key table)
    where
      by : (o : Option Data) → Holds p (read_or absent form key o)
      by (Some value) = under_holds p key (form value) (each value)
      by None = h

pub at_list : {A : Type 0} (form : Form A) (p : A → Bool) (key : List ℕ) (table : Members)
    → ((value : Data) → Holds p (form value)) → Holds (list_all p) (list_at form key table)
at_list form p key table each = at_or (list_of form) (list_all p) (in_list form p each) [] key table refl

pub in_table : {A : Type 0} (form : TableForm A) (p : A → Bool) → ((table : Members) → Holds p (form table))
    → (value : Data) → Holds p (table_of form value)
in_table form p each value = by (as_table value)
  where
    by : (o : Option Members) → Holds p (or_wrong o >>= form)
    by (Some table) = each table
    by None = tt

pub in_document : {A : Type 0} (form : TableForm A) (p : A → Bool) → ((table : Members) → Holds p (form table))
    → (bytes : List ℕ) → Holds p (document_of form bytes)
in_document form p each bytes = by (document_in bytes)
  where
    by : (r : Result Members DocFault) → Holds p (r >>= form)
    by (Ok table) = each table
    by (Err fault) = tt

-- ---- texts

pub in_name : (is_name : List ℕ → Bool) (value : Data) → Holds is_name (name_of is_name value)
in_name is_name value = by (as_str value)
  where
    by : (o : Option (List ℕ)) → Holds is_name (or_wrong o >>=
        (λ text. if is_name text then Ok text else Err (Name [])))
    by (Some text) = tested is_name text (Name [])
    by None = tt

pub in_filled_text : (value : Data) → Holds is_filled (filled_text_of value)
in_filled_text value = by (as_str value)
  where
    by : (o : Option (List ℕ)) → Holds is_filled (or_wrong o >>= filled_text)
    by (Some []) = tt
    by (Some (byte ∷ text)) = refl
    by None = tt

pub in_filled : {A : Type 0} (key : List ℕ) (r : Result (List A) DocFault) → Holds is_filled (r >>= filled key)
in_filled key (Ok []) = tt
in_filled key (Ok (first ∷ rest)) = refl
in_filled key (Err fault) = tt

-- ---- rows, no two of which have one key

module _ {A K : Type 0} (eq : K → K → Bool) (key_of : A → K) where
  -- a row of which it holds, and that is new behind those before
  abbrev pub follows : (A → Bool) → List A → A → Bool
  follows p before row = p row && is_new eq key_of before row

  abbrev pub all_distinct : (A → Bool) → List A → Bool
  all_distinct p rows = list_all p rows && are_distinct eq key_of rows

  pub in_distinct_row : (form : TableForm A) (p : A → Bool) → ((table : Members) → Holds p (form table))
      → (before : List A) (table : Members) → Holds (follows p before) (distinct_row eq key_of form before table)
  in_distinct_row form p each before table = and_then p (follows p before) (form table)
      (unless_listed eq key_of before) (each table)
      (λ row h. by row h (has_key eq key_of before (key_of row)) refl)
    where
      by : (row : A) → p row ≡ true → (listed : Bool) → has_key eq key_of before (key_of row) ≡ listed
          → Holds (follows p before) (if listed then Err (Wrong []) else Ok row)
      by row h true e = tt
      by row h false e = and_from (p row) (is_new eq key_of before row) h (ap not e)

  module _ (symmetric : (a b : K) → eq a b ≡ eq b a) where
    -- one more row, whose key none before has
    one_more : (before : List A) (row : A) → are_distinct eq key_of before ≡ true
        → is_new eq key_of before row ≡ true → are_distinct eq key_of (before ++ row ∷ []) ≡ true
    one_more [] row h new = refl
    one_more (first ∷ before) row h new =
        let parts = and_parts (not (has_key eq key_of before (key_of first))) (are_distinct eq key_of before) h in
        let others = or_parts (eq (key_of first) (key_of row)) (has_key eq key_of before (key_of row))
        (not-true (has_key eq key_of (first ∷ before) (key_of row)) new) in
        and_from _ _
        (ap not (list_any-append (λ other. eq (key_of other) (key_of first)) before (row ∷ [])
        ∙ or_from (has_key eq key_of before (key_of first)) (eq (key_of row) (key_of first) || false)
        (not-true _ parts.0) (or_from (eq (key_of row) (key_of first)) false
        (symmetric (key_of row) (key_of first) ∙ others.0) refl)))
        (one_more before row parts.1 (ap not others.1))

    pub longer : (p : A → Bool) (before : List A) (row : A) → all_distinct p before ≡ true
        → follows p before row ≡ true → all_distinct p (before ++ row ∷ []) ≡ true
    longer p before row h new =
        let parts = and_parts (list_all p before) (are_distinct eq key_of before) h in
        let one = and_parts (p row) (is_new eq key_of before row) new in
        and_from (list_all p (before ++ row ∷ [])) (are_distinct eq key_of (before ++ row ∷ []))
        (list_all-append p before (row ∷ []) ∙ and_from (list_all p before) (p row && true) parts.0
        (and_from (p row) true one.0 refl))
        (one_more before row parts.1 one.1)

    module _ (form : RowForm A) (p : A → Bool) (each : (before : List A) (table : Members)
        → Holds (follows p before) (form before table)) where
      in_rows_from : (values : Items) (place : ℕ) (before : List A) → all_distinct p before ≡ true
          → Holds (all_distinct p) (rows_in form before place values)
      in_rows_from no_items place before h = h
      in_rows_from (item value values) place before h =
          and_then (follows p before) (all_distinct p) (under (decimal place) (table_of (form before) value))
          (λ row. rows_in form (before ++ row ∷ []) (place + 1) values)
          (under_holds (follows p before) (decimal place) (table_of (form before) value)
          (in_table (form before) (follows p before) (each before) value))
          (λ row new. in_rows_from values (place + 1) (before ++ row ∷ []) (longer p before row h new))

      pub in_rows : (value : Data) → Holds (all_distinct p) (rows_of form value)
      in_rows value = by (as_array value)
        where
          by : (o : Option Items) → Holds (all_distinct p) (or_wrong o >>= rows_in form [] 0)
          by (Some values) = in_rows_from values 0 [] refl
          by None = tt

-- what is answered is what is wanted, or memory ran out
pub answered : {A : Type 0} (p : A → Bool) (result want : Result A DocFault) → Answers result want → Holds p want
    → IfOk result (λ a. p a ≡ true)
answered p (Ok a) want is h = holds_of p want a h (sym is)
answered p (Err fault) want is h = tt
