-- Distinct rows one behind another.
use Rattle.std.proofs.Common.{◌≡◌, ℕ, Bool, true, false, not, ◌||◌, List, [], ◌∷◌, ◌++◌, refl, sym, ap, ◌∙◌}
use Rattle.std.proofs.Common.{append_assoc}
use Rattle.std.specs.HashSet.{HashSet, IsEmpty, contains}
use Rattle.std.specs.List.{list_any}
use Rattle.std.proofs.lemmas.Bool.{and_parts, and_from, not-true, or_parts, or_from}
use Rattle.std.specs.Str.{bytes_eq}
use Rattle.std.proofs.lemmas.Bool.Decides.{same_from_decides}
use Rattle.std.proofs.lemmas.Slice.Eq.{bytes_eq-Decides}
use Rattle.std.proofs.lemmas.List.Folds.{list_any-append}
use Rattle.cnb_toml.specs.Distinct.{has_key, is_new, are_distinct, HasKeysOf}
use Rattle.cnb_toml.specs.Written.{all_follow}

either_order : (a b : Bool) → (a || b) ≡ (b || (a || false))
either_order true true = refl
either_order true false = refl
either_order false true = refl
either_order false false = refl

pub bytes_eq-symmetric : (a b : List ℕ) → bytes_eq a b ≡ bytes_eq b a
bytes_eq-symmetric a b =
    let other = bytes_eq-Decides b a in
    same_from_decides (bytes_eq a b) (bytes_eq b a) (bytes_eq-Decides a b) (λ h. sym (other.0 h), λ e. other.1 (sym e))

module _ {A K : Type 0} (eq : K → K → Bool) (key_of : A → K) where
  pub none_seen : {S : Type 0} (seen : HashSet K S) → IsEmpty seen → HasKeysOf eq key_of [] seen
  none_seen seen empty key = ap (list_any (eq key)) empty

  pub one_more_seen : {S : Type 0} (before : List A) (row : A) (old new : HashSet K S) → HasKeysOf eq key_of before old
      → ((key : K) → contains eq new key ≡ (eq (key_of row) key || contains eq old key))
      → HasKeysOf eq key_of (before ++ row ∷ []) new
  one_more_seen before row old new had added key =
      added key ∙ ap (λ b. eq (key_of row) key || b) (had key)
      ∙ either_order (eq (key_of row) key) (has_key eq key_of before key)
      ∙ sym (list_any-append (λ other. eq (key_of other) key) before (row ∷ []))

  module _ (symmetric : (a b : K) → eq a b ≡ eq b a) where
    -- a later row's key is none of those before
    not_before : (before : List A) (row : A) (rest : List A)
        → are_distinct eq key_of (before ++ row ∷ rest) ≡ true → has_key eq key_of before (key_of row) ≡ false
    not_before [] row rest h = refl
    not_before (first ∷ before) row rest h =
        let parts = and_parts (not (has_key eq key_of (before ++ row ∷ rest) (key_of first)))
        (are_distinct eq key_of (before ++ row ∷ rest)) h in
        let none : has_key eq key_of (before ++ row ∷ rest) (key_of first) ≡ false = not-true _ parts.0 in
        let split = or_parts (has_key eq key_of before (key_of first)) (has_key eq key_of (row ∷ rest) (key_of first))
        (sym (list_any-append (λ other. eq (key_of other) (key_of first)) before (row ∷ rest)) ∙ none) in
        let other = or_parts (eq (key_of row) (key_of first)) (has_key eq key_of rest (key_of first)) split.1 in
        or_from _ _ (symmetric (key_of first) (key_of row) ∙ other.0) (not_before before row rest parts.1)

    follow_on : (rows before : List A) → are_distinct eq key_of (before ++ rows) ≡ true
        → all_follow (is_new eq key_of) before rows ≡ true
    follow_on [] before h = refl
    follow_on (row ∷ rows) before h =
        and_from _ _ (ap not (not_before before row rows h))
        (follow_on rows (before ++ row ∷ []) (ap (are_distinct eq key_of)
        (append_assoc before (row ∷ []) rows) ∙ h))

    -- distinct rows may stand one behind another
    pub distinct_follow : (rows : List A) → are_distinct eq key_of rows ≡ true
        → all_follow (is_new eq key_of) [] rows ≡ true
    distinct_follow rows h = follow_on rows [] h
