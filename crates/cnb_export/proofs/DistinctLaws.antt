-- The last rows of their keys are distinct.
use Rattle.std.proofs.Common.{◌≡◌, ◌∙◌, refl, sym, ap, ℕ, Bool, true, false, not, ◌&&◌, List, [], ◌∷◌, map, length}
use Rattle.std.proofs.Common.{arith}
use Rattle.std.specs.Prelude.{T, fold}
use Rattle.std.specs.Cmp.Lexicographic.{nat_list_cmp_total}
use Rattle.std.specs.FinMap.{FinMap, empty, entries, entries-insert, entries_sorted, insert, is_sorted, len-empty}
use Rattle.std.specs.FinMap.{len-entries, nat_cmp-IsAntisymmetric, slice_cmp-IsAntisymmetric}
use Rattle.std.specs.FinMap.Entries.{below_all, by_order, put}
use Rattle.std.specs.List.{list_all}
use Rattle.std.specs.Ordering.{is_lt}
use Rattle.std.specs.Str.{bytes_eq}
use Rattle.std.specs.declared.cmp.Ordering.{Ordering}
use Rattle.std.specs.declared.cmp.Ordering.TheVariants.{Less, Equal, Greater}
use Rattle.std.proofs.lemmas.Bool.{and_from, and_parts, or_from}
use Rattle.std.proofs.lemmas.Slice.Eq.{bytes_eq-Decides}
use Rattle.cnb_toml.specs.Distinct.{are_distinct, has_key}
use Rattle.cnb_export.specs.Ascending.{last_of_each, latest}
use Rattle.cnb_layers.proofs.DistinctLaws.{less_other, order}

is_from_T : (b : Bool) → T b → b ≡ true
is_from_T true h = refl
is_from_T false h = absurd h

module _ {V : Type 0} (key_of : V → List ℕ) (p : V → Bool) where
  -- an entry under its own key, of which it holds
  abbrev is_right : List ℕ × V → Bool
  is_right entry = bytes_eq entry.0 (key_of entry.1) && p entry.1

  put_right : (row : V) (es : List (List ℕ × V)) → p row ≡ true → list_all is_right es ≡ true
      → list_all is_right (put order (key_of row) row es) ≡ true
  put_right row [] h all = and_from (is_right (key_of row, row)) true
      (and_from (bytes_eq (key_of row) (key_of row)) (p row) ((bytes_eq-Decides (key_of row) (key_of row)).1 refl)
      h) refl
  put_right row (e ∷ es) h all = by (order (key_of row) e.0) refl
      (put_right row es h (and_parts (is_right e) (list_all is_right es) all).1)
    where
      halves : (is_right e ≡ true) × (list_all is_right es ≡ true)
      halves = and_parts (is_right e) (list_all is_right es) all

      by : (o : Ordering) → order (key_of row) e.0 ≡ o → list_all is_right (put order (key_of row) row es) ≡ true
          → list_all is_right (by_order o ((key_of row, row) ∷ e ∷ es) ((e.0, row) ∷ es)
          (e ∷ put order (key_of row) row es)) ≡ true
      by Less tie later = and_from (is_right (key_of row, row)) (list_all is_right (e ∷ es))
          (and_from (bytes_eq (key_of row) (key_of row)) (p row)
          ((bytes_eq-Decides (key_of row) (key_of row)).1 refl) h) all
      by Equal tie later =
          and_from (is_right (e.0, row)) (list_all is_right es)
          (and_from (bytes_eq e.0 (key_of row)) (p row)
          ((bytes_eq-Decides e.0 (key_of row)).1 (sym (slice_cmp-IsAntisymmetric nat_cmp-IsAntisymmetric
          (key_of row) e.0 tie))) h) halves.1
      by Greater tie later = and_from (is_right e) (list_all is_right (put order (key_of row) row es)) halves.0 later

  fold_right : (rows : List V) (m : FinMap order V) → list_all p rows ≡ true → list_all is_right (entries m) ≡ true
      → list_all is_right (entries (fold (λ found row. insert found (key_of row) row) m rows)) ≡ true
  fold_right [] m all h = h
  fold_right (row ∷ rows) m all h =
      let halves = and_parts (p row) (list_all p rows) all in
      fold_right rows (insert m (key_of row) row) halves.1
      (ap (list_all is_right) (entries-insert nat_list_cmp_total m (key_of row) row)
      ∙ put_right row (entries m) halves.0 h)

  nothing_right : (es : List (List ℕ × V)) → length es ≡ 0 → list_all is_right es ≡ true
  nothing_right [] none = refl
  nothing_right (e ∷ es) none = absurd (omega arith)

  none_yet : list_all is_right (entries (empty {X = V} {R = order})) ≡ true
  none_yet = nothing_right (entries empty) (sym (len-entries empty) ∙ len-empty order V)

  values_hold : (es : List (List ℕ × V)) → list_all is_right es ≡ true
      → list_all p (map (λ (e : List ℕ × V). e.1) es) ≡ true
  values_hold [] h = refl
  values_hold (e ∷ es) h =
      let halves = and_parts (is_right e) (list_all is_right es) h in
      and_from (p e.1) (list_all p (map (λ (e : List ℕ × V). e.1) es))
      (and_parts (bytes_eq e.0 (key_of e.1)) (p e.1) halves.0).1 (values_hold es halves.1)

  key_is : (e : List ℕ × V) → is_right e ≡ true → e.0 ≡ key_of e.1
  key_is e h = (bytes_eq-Decides e.0 (key_of e.1)).0 (and_parts (bytes_eq e.0 (key_of e.1)) (p e.1) h).0

  none_above : (e : List ℕ × V) (es : List (List ℕ × V)) → is_right e ≡ true → list_all is_right es ≡ true
      → below_all order e.0 es ≡ true → has_key bytes_eq key_of (map (λ (e : List ℕ × V). e.1) es) (key_of e.1)
      ≡ false
  none_above e [] right all h = refl
  none_above e (f ∷ es) right all h =
      let halves = and_parts (is_right f) (list_all is_right es) all in
      let below = and_parts (is_lt (order e.0 f.0)) (below_all order e.0 es) h in
      or_from (bytes_eq (key_of f.1) (key_of e.1)) (has_key bytes_eq key_of (map (λ (e : List ℕ × V). e.1) es)
      (key_of e.1))
      (ap (λ k. bytes_eq k (key_of e.1)) (sym (key_is f halves.0)) ∙ ap (bytes_eq f.0) (sym (key_is e right))
      ∙ less_other e.0 f.0 below.0)
      (none_above e es right halves.1 below.1)

  values_distinct : (es : List (List ℕ × V)) → list_all is_right es ≡ true → is_sorted order es ≡ true
      → are_distinct bytes_eq key_of (map (λ (e : List ℕ × V). e.1) es) ≡ true
  values_distinct [] all h = refl
  values_distinct (e ∷ es) all h =
      let halves = and_parts (is_right e) (list_all is_right es) all in
      let sorted = and_parts (below_all order e.0 es) (is_sorted order es) h in
      and_from (not (has_key bytes_eq key_of (map (λ (e : List ℕ × V). e.1) es) (key_of e.1)))
      (are_distinct bytes_eq key_of (map (λ (e : List ℕ × V). e.1) es))
      (ap not (none_above e es halves.0 halves.1 sorted.0)) (values_distinct es halves.1 sorted.1)

  latest_right : (rows : List V) → list_all p rows ≡ true → list_all is_right (entries (latest key_of rows)) ≡ true
  latest_right rows all = fold_right rows empty all none_yet

  pub last_hold : (rows : List V) → list_all p rows ≡ true → list_all p (last_of_each key_of rows) ≡ true
  last_hold rows all = values_hold (entries (latest key_of rows)) (latest_right rows all)

  pub last_distinct : (rows : List V) → list_all p rows ≡ true
      → are_distinct bytes_eq key_of (last_of_each key_of rows) ≡ true
  last_distinct rows all = values_distinct (entries (latest key_of rows)) (latest_right rows all)
      (is_from_T (is_sorted order (entries (latest key_of rows))) (entries_sorted (latest key_of rows)))
