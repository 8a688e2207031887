-- Which places of a prefix a closed set may have, and what makes a prefix dead.
use Rattle.std.proofs.Common.{◌≡◌, ℕ, zero, suc, ◌+◌, ◌<◌, Bool, true, false, ◌&&◌, ◌||◌, List, [], ◌∷◌, ◌++◌, length}
use Rattle.std.proofs.Common.{reverse, take, refl, sym, ◌∙◌, ap, subst, inl, inr, arith, Some, None, not, append_assoc}
use Rattle.std.proofs.Common.{length-append}
use Rattle.std.specs.Prelude.{◌==◌, nat_le, nat_lt, slice_get}
use Rattle.std.specs.List.{list_all}
use Rattle.std.proofs.lemmas.Bool.{false≢true, eqb-true, eq-eqb, leb-true, and_parts, or_cases, or_left, or_right}
use Rattle.std.proofs.lemmas.Bool.{cases_Bool, cases_lt, both_ways, cond-false}
use Rattle.std.proofs.lemmas.List.Folds.{list_any-append}
use Rattle.cnb_toml.specs.declared.meta.Need.{Need}
use Rattle.plan_resolve.specs.declared.rows.TrialRow.{TrialRow}
use Rattle.plan_resolve.specs.Trials.{has_name, provided_by, required_by, provided_at, required_at, is_provided}
use Rattle.plan_resolve.specs.Trials.{is_required, holds, is_closed, is_in, is_optional_at, is_passing, largest}
use Rattle.plan_resolve.specs.Trials.{numbers_below, places}
use Rattle.plan_resolve.specs.Pruning.{is_provided_by}
use Rattle.plan_resolve.specs.Prefixes.{IsDead, CoversClosed}
use Rattle.plan_resolve.proofs.ChoiceLemmas.{slice_get-append_within, slice_get-append_past}
use Rattle.plan_resolve.proofs.NearLemmas.{any-reverse}
use Rattle.plan_resolve.proofs.LargestLemmas.{any_in, any_from, all_at, all_mono, largest_closed}

-- whether the places provide each name that a row requires, which stands last
abbrev pub has_provided : List TrialRow → List ℕ → TrialRow → Bool
has_provided trial covered row = list_all (λ need. is_provided_by trial (reverse covered) need.name) row.needs

pub covers_empty : (prefix : List TrialRow) (covered : List ℕ) → prefix ≡ [] → CoversClosed prefix covered
covers_empty prefix covered none = record {
  each = λ rest set place closed there lt. absurd
      (omega (arith, ap length none));
}

-- the list without the last element
front : (xs : List ℕ) (n k : ℕ) → k ≡ length xs → take k (xs ++ n ∷ []) ≡ xs
front [] n k e = let none : k ≡ 0 = omega arith in ap (λ m. take m (n ∷ [])) none
front (x ∷ xs) n zero e = absurd (omega arith)
front (x ∷ xs) n (suc k) e = ap (λ ys. x ∷ ys) (front xs n k (omega arith))

pub not_true : (b : Bool) → not b ≡ true → b ≡ false
not_true true e = absurd (false≢true e)
not_true false e = refl

last_row : (prefix : List TrialRow) (row : TrialRow) (n : ℕ) → n ≡ length prefix
    → slice_get (prefix ++ row ∷ []) n ≡ Some row
last_row prefix row n e = slice_get-append_past prefix (row ∷ []) n 0 (omega arith)

last_len : (prefix : List TrialRow) (row : TrialRow) (n : ℕ) → n ≡ length prefix → length (prefix ++ row ∷ []) ≡ n + 1
last_len prefix row n e = omega (arith, length-append prefix (row ∷ []))

-- one row more, whose place a closed set may have
pub covers_more : (prefix : List TrialRow) (covered : List ℕ) (n : ℕ) (row : TrialRow)
    → CoversClosed prefix covered → n ≡ length prefix →
    CoversClosed (prefix ++ row ∷ []) (covered ++ n ∷ [])
covers_more prefix covered n row covers e = record {
  each = λ rest set place closed there lt.
      let same : (prefix ++ row ∷ []) ++ rest ≡ prefix ++ row ∷ rest = append_assoc prefix (row ∷ []) rest in
      let len = last_len prefix row n e in
      list_any-append (λ other. place == other) covered (n ∷ []) ∙ elim (cases_lt place n) [
        | inl less ↦ or_left (is_in place covered) (is_in place (n ∷ []))
            (covers.each (row ∷ rest) set place (subst (λ (trial : List TrialRow). is_closed trial set ≡ true)
            same closed) there (omega arith))
        | inr more ↦ or_right (is_in place covered) (is_in place (n ∷ []))
            (or_left (place == n) false (eq-eqb place n (omega arith)))
      ];
}

provided_among : (trial rest : List TrialRow) (covered set : List ℕ) (n : ℕ) (name : List ℕ)
    → CoversClosed trial covered → length trial ≡ n + 1 →
    is_closed (trial ++ rest) set ≡ true → is_provided (trial ++ rest) set n name ≡ true
    → is_provided_by trial (reverse covered) name ≡ true
provided_among trial rest covered set n name covers len closed h =
    let whole = trial ++ rest in
    let found = any_in (λ other. nat_le other n && has_name (provided_at whole other) name) set h in
    let other = found.0 in
    let parts = and_parts (nat_le other n) (has_name (provided_at whole other) name) found.2 in
    let le = leb-true other n parts.0 in
    let near : other < length trial = omega arith in
    any-reverse (λ place. has_name (provided_at trial place) name) covered
    ∙ any_from (λ place. has_name (provided_at trial place) name) other covered
    (covers.each rest set other closed found.1 near)
    (ap (λ row. has_name (provided_by row) name) (sym (slice_get-append_within trial rest other near)) ∙ parts.1)

-- where a closed set has the last row's place, what that row requires is provided
needs_provided : (trial rest : List TrialRow) (covered set : List ℕ) (n : ℕ) (row : TrialRow)
    → CoversClosed trial covered → length trial ≡ n + 1 →
    slice_get trial n ≡ Some row → is_closed (trial ++ rest) set ≡ true → is_in n set ≡ true
    → has_provided trial covered row ≡ true
needs_provided trial rest covered set n row covers len at closed there =
    let whole = trial ++ rest in
    let parts = and_parts (list_all (λ need. is_provided whole set n need.name) (required_at whole n))
    (list_all (is_required whole set n) (provided_at whole n))
    (all_at (holds whole set) n set closed there) in
    let near : n < length trial = omega arith in
    let required : required_at whole n ≡ row.needs = ap required_by (slice_get-append_within trial rest n near ∙ at) in
    all_mono (λ (need : Need). is_provided whole set n need.name)
    (λ need. is_provided_by trial (reverse covered) need.name) row.needs
    (λ need h. provided_among trial rest covered set n need.name covers len closed h)
    (subst (λ (needs : List Need). list_all (λ need. is_provided whole set n need.name) needs ≡ true) required parts.0)

-- no closed set has the last row's place where what that row requires isn't provided
covers_fewer : (prefix : List TrialRow) (covered : List ℕ) (n : ℕ) (row : TrialRow) → CoversClosed prefix covered
    → n ≡ length prefix →
    has_provided (prefix ++ row ∷ []) (covered ++ n ∷ []) row ≡ false → CoversClosed (prefix ++ row ∷ []) covered
covers_fewer prefix covered n row covers e unmet =
    let trial = prefix ++ row ∷ [] in
    let more = covered ++ n ∷ [] in
    let covers_both = covers_more prefix covered n row covers e in
    record {
      each = λ rest set place closed there lt.
          elim (or_cases (is_in place covered) (is_in place (n ∷ []))
          (sym (list_any-append (λ other. place == other) covered (n ∷ []))
          ∙ covers_both.each rest set place closed there lt)) [
            | inl before ↦ before
            | inr last ↦ elim (or_cases (place == n) false last) [
              | inl same ↦ absurd (both_ways (has_provided trial more row) unmet
                  (needs_provided trial rest more set n row covers_both (last_len prefix row n e)
                  (last_row prefix row n e) closed
                  (subst (λ (i : ℕ). is_in i set ≡ true) (eqb-true place n same) there)))
              | inr wrong ↦ absurd (false≢true wrong)
            ]
          ];
    }

-- the same, of the places without the last one
pub covers_cut : (prefix : List TrialRow) (covered : List ℕ) (n k : ℕ) (row : TrialRow)
    → CoversClosed prefix covered → n ≡ length prefix → k ≡ length covered →
    has_provided (prefix ++ row ∷ []) (covered ++ n ∷ []) row ≡ false
    → CoversClosed (prefix ++ row ∷ []) (take k (covered ++ n ∷ []))
covers_cut prefix covered n k row covers e len unmet = rw (front covered n k len)
    (covers_fewer prefix covered n row covers e unmet)

in_numbers : (n m : ℕ) → n < m → is_in n (numbers_below m) ≡ true
in_numbers n zero lt = absurd (omega arith)
in_numbers n (suc m) lt = list_any-append (λ other. n == other) (numbers_below m) (m ∷ []) ∙ elim (cases_lt n m) [
  | inl less ↦ or_left (is_in n (numbers_below m)) (is_in n (m ∷ [])) (in_numbers n m less)
  | inr more ↦ or_right (is_in n (numbers_below m)) (is_in n (m ∷ []))
      (or_left (n == m) false (eq-eqb n m (omega arith)))
]

-- a required row whose requirements aren't provided fails each trial
pub dead_by_last : (prefix : List TrialRow) (covered : List ℕ) (n : ℕ) (row : TrialRow)
    → CoversClosed prefix covered → n ≡ length prefix →
    has_provided (prefix ++ row ∷ []) (covered ++ n ∷ []) row ≡ false → row.optional ≡ false
    → IsDead (prefix ++ row ∷ [])
dead_by_last prefix covered n row covers e unmet required rest =
    let trial = prefix ++ row ∷ [] in
    let more = covered ++ n ∷ [] in
    let whole = trial ++ rest in
    let most = largest whole in
    let len = last_len prefix row n e in
    let at = last_row prefix row n e in
    let near : n < length trial = omega arith in
    cond-false (is_passing whole most) (Some most) None
    (elim (cases_Bool (is_passing whole most)) as (λ _. is_passing whole most ≡ false) [
      | inr failing ↦ failing
      | inl passing ↦
          let stays = λ (place : ℕ). is_optional_at (slice_get whole place) || is_in place most in
          let all = (and_parts (nat_lt 0 (length most)) (list_all stays (places whole)) passing).1 in
          let stay = all_at stays n (places whole) all (in_numbers n (length whole)
          (omega (arith, length-append trial rest))) in
          let needed : is_optional_at (slice_get whole n) ≡ false = ap is_optional_at
          (slice_get-append_within trial rest n near ∙ at) ∙ required in
          let there : is_in n most ≡ true = ap (λ b. b || is_in n most) (sym needed) ∙ stay in
          absurd (both_ways (has_provided trial more row) unmet
          (needs_provided trial rest more most n row (covers_more prefix covered n row covers e) len at
          (largest_closed whole) there))
    ])
