-- Names that ascend are distinct.
use Rattle.std.proofs.Common.{◌≡◌, ◌∙◌, refl, sym, ap, ℕ, Bool, true, false, not, cond, ◌&&◌, List, [], ◌∷◌}
use Rattle.std.specs.Cmp.Lexicographic.{slice_cmp, nat_list_cmp_total}
use Rattle.std.specs.List.{filter, list_all}
use Rattle.std.specs.Ordering.{is_eq, is_lt, nat_cmp, ordering_reverse}
use Rattle.std.specs.Str.{bytes_eq}
use Rattle.std.specs.declared.cmp.Ordering.{Ordering}
use Rattle.std.specs.declared.cmp.Ordering.TheVariants.{Less, Equal, Greater}
use Rattle.std.proofs.lemmas.Bool.{and_from, and_parts, or_from}
use Rattle.std.proofs.lemmas.Map.Text.{is_eq-slice_cmp}
use Rattle.std.proofs.lemmas.Slice.Eq.{bytes_eq-Decides}
use Rattle.cnb_toml.specs.Distinct.{are_distinct, has_key}
use Rattle.cnb_toml.specs.Ascending.{ascending, put_name, put_name_by}

abbrev pub order : List ℕ → List ℕ → Ordering
order = slice_cmp nat_cmp

less_is : (o : Ordering) → is_lt o ≡ true → o ≡ Less
less_is Less h = refl
less_is Equal h = absurd (cc)
less_is Greater h = absurd (cc)

-- a lesser name is another
pub less_other : (a b : List ℕ) → is_lt (order a b) ≡ true → bytes_eq b a ≡ false
less_other a b h = by (bytes_eq b a) refl
  where
    by : (same : Bool) → bytes_eq b a ≡ same → same ≡ false
    by false e = refl
    by true e =
        let named : b ≡ a = (bytes_eq-Decides b a).0 e in
        let tied : is_eq (order a b) ≡ true = is_eq-slice_cmp a b ∙ (bytes_eq-Decides a b).1 (sym named) in
        let equal : is_eq Less ≡ true = ap is_eq (sym (less_is (order a b) h)) ∙ tied in
        absurd (cc)

-- ---- names that ascend

-- a name stands before each of these
abbrev leads : List ℕ → List (List ℕ) → Bool
leads name names = list_all (λ other. is_lt (order name other)) names

abbrev are_rising : List (List ℕ) → Bool
are_rising [] = true
are_rising (name ∷ names) = leads name names && are_rising names

leads_further : (a b : List ℕ) (names : List (List ℕ)) → order a b ≡ Less → leads b names ≡ true → leads a names ≡ true
leads_further a b [] h all = refl
leads_further a b (name ∷ names) h all =
    let halves = and_parts (is_lt (order b name)) (leads b names) all in
    and_from (is_lt (order a name)) (leads a names)
    (ap is_lt (nat_list_cmp_total.trans a b name h (less_is (order b name) halves.0)))
    (leads_further a b names h halves.1)

leads_put : (a name : List ℕ) (names : List (List ℕ)) → is_lt (order a name) ≡ true → leads a names ≡ true
    → leads a (put_name name names) ≡ true
leads_put a name [] h all = and_from (is_lt (order a name)) true h refl
leads_put a name (first ∷ names) h all = by (order name first)
    (leads_put a name names h (and_parts (is_lt (order a first)) (leads a names) all).1)
  where
    by : (o : Ordering) → leads a (put_name name names) ≡ true
        → leads a (put_name_by o name first names (put_name name names)) ≡ true
    by Less later = and_from (is_lt (order a name)) (leads a (first ∷ names)) h all
    by Equal later = all
    by Greater later = and_from (is_lt (order a first)) (leads a (put_name name names))
        (and_parts (is_lt (order a first)) (leads a names) all).0 later

put_rises : (name : List ℕ) (names : List (List ℕ)) → are_rising names ≡ true → are_rising (put_name name names) ≡ true
put_rises name [] h = refl
put_rises name (first ∷ names) h = by (order name first) refl
    (put_rises name names (and_parts (leads first names) (are_rising names) h).1)
  where
    front : leads first names ≡ true
    front = (and_parts (leads first names) (are_rising names) h).0

    by : (o : Ordering) → order name first ≡ o → are_rising (put_name name names) ≡ true
        → are_rising (put_name_by o name first names (put_name name names)) ≡ true
    by Less e later = and_from (leads name (first ∷ names)) (are_rising (first ∷ names))
        (and_from (is_lt (order name first)) (leads name names) (ap is_lt e)
        (leads_further name first names e front)) h
    by Equal e later = h
    by Greater e later =
        and_from (leads first (put_name name names)) (are_rising (put_name name names))
        (leads_put first name names (ap is_lt (nat_list_cmp_total.antisymm first name ∙ ap ordering_reverse e))
        front) later

ascending_rise : (names : List (List ℕ)) → are_rising (ascending names) ≡ true
ascending_rise [] = refl
ascending_rise (name ∷ names) = put_rises name (ascending names) (ascending_rise names)

leads_some : (p : List ℕ → Bool) (a : List ℕ) (names : List (List ℕ)) → leads a names ≡ true
    → leads a (filter p names) ≡ true
leads_some p a [] h = refl
leads_some p a (name ∷ names) h = by (p name)
    (leads_some p a names (and_parts (is_lt (order a name)) (leads a names) h).1)
  where
    by : (kept : Bool) → leads a (filter p names) ≡ true → leads a
        (cond kept (name ∷ filter p names) (filter p names)) ≡ true
    by true later = and_from (is_lt (order a name)) (leads a (filter p names))
        (and_parts (is_lt (order a name)) (leads a names) h).0 later
    by false later = later

some_rise : (p : List ℕ → Bool) (names : List (List ℕ)) → are_rising names ≡ true → are_rising (filter p names) ≡ true
some_rise p [] h = refl
some_rise p (name ∷ names) h = by (p name) (some_rise p names (and_parts (leads name names) (are_rising names) h).1)
  where
    by : (kept : Bool) → are_rising (filter p names) ≡ true
        → are_rising (cond kept (name ∷ filter p names) (filter p names)) ≡ true
    by true later = and_from (leads name (filter p names)) (are_rising (filter p names))
        (leads_some p name names (and_parts (leads name names) (are_rising names) h).0) later
    by false later = later

-- the name itself, as a key
abbrev pub same_name : List ℕ → List ℕ
same_name name = name

none_same : (name : List ℕ) (names : List (List ℕ)) → leads name names ≡ true
    → has_key bytes_eq same_name names name ≡ false
none_same name [] h = refl
none_same name (other ∷ names) h =
    let halves = and_parts (is_lt (order name other)) (leads name names) h in
    or_from (bytes_eq other name) (has_key bytes_eq same_name names name) (less_other name other halves.0)
    (none_same name names halves.1)

rising_distinct : (names : List (List ℕ)) → are_rising names ≡ true → are_distinct bytes_eq same_name names ≡ true
rising_distinct [] h = refl
rising_distinct (name ∷ names) h =
    let halves = and_parts (leads name names) (are_rising names) h in
    and_from (not (has_key bytes_eq same_name names name)) (are_distinct bytes_eq same_name names)
    (ap not (none_same name names halves.0)) (rising_distinct names halves.1)

pub ascending_distinct : (p : List ℕ → Bool) (names : List (List ℕ))
    → are_distinct bytes_eq same_name (filter p (ascending names)) ≡ true
ascending_distinct p names = rising_distinct (filter p (ascending names))
    (some_rise p (ascending names) (ascending_rise names))
