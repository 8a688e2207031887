-- Distinct rows read back.
use Rattle.std.specs.Prelude.{◌≡◌, ◌≤◌, ℕ, Bool, true, List, [], ◌∷◌, ◌++◌, Ok}
use Rattle.std.specs.List.{list_all}
use Rattle.std.proofs.Common.{refl, ap, ◌∙◌}
use Rattle.std.proofs.lemmas.Bool.{and_parts, and_from, cond-false, not-true}
use Rattle.toml.specs.Data.{Members, members_depth}
use Rattle.cnb_toml.specs.Distinct.{has_key, is_new, are_distinct}
use Rattle.cnb_toml.specs.DistinctLaws.{distinct_follow}
use Rattle.cnb_toml.specs.Form.{TableForm}
use Rattle.cnb_toml.specs.Reading.{◌>>=◌}
use Rattle.cnb_toml.specs.Written.{all_follow}
use Rattle.image_docs.specs.DistinctRows.{unless_listed, distinct_row, may_follow}

module _ {A K : Type 0} (eq : K → K → Bool) (key_of : A → K) (is_sound : A → Bool) where
  pub distinct_row_read : (members_of : A → Members) (form : TableForm A) (is_typed : A → Bool)
      → ((v : A) → is_typed v ≡ true → is_sound v ≡ true → form (members_of v) ≡ Ok v)
      → (before : List A) (v : A) → is_typed v ≡ true → may_follow eq key_of is_sound before v ≡ true
      → distinct_row eq key_of form before (members_of v) ≡ Ok v
  distinct_row_read members_of form is_typed each before v typed h =
      let parts = and_parts (is_sound v) (is_new eq key_of before v) h in
      ap (λ read. read >>= unless_listed eq key_of before) (each v typed parts.0)
      ∙ cond-false _ _ _ (not-true (has_key eq key_of before (key_of v)) parts.1)

  pub distinct_row_within : (members_of : A → Members) (nesting : ℕ)
      → ((v : A) → is_sound v ≡ true → members_depth (members_of v) ≤ nesting)
      → (before : List A) (v : A) → may_follow eq key_of is_sound before v ≡ true
      → members_depth (members_of v) ≤ nesting
  distinct_row_within members_of nesting each before v h = each v
      (and_parts (is_sound v) (is_new eq key_of before v) h).0

  both_follow : (rows before : List A) → list_all is_sound rows ≡ true
      → all_follow (is_new eq key_of) before rows ≡ true → all_follow (may_follow eq key_of is_sound) before rows
      ≡ true
  both_follow [] before sound new = refl
  both_follow (row ∷ rows) before sound new =
      let sounds = and_parts (is_sound row) (list_all is_sound rows) sound in
      let news = and_parts (is_new eq key_of before row) (all_follow (is_new eq key_of) (before ++ row ∷ []) rows)
      new in
      and_from _ _ (and_from _ _ sounds.0 news.0) (both_follow rows (before ++ row ∷ []) sounds.1 news.1)

  -- distinct rows that can each be read may stand one behind another
  pub distinct_rows_follow : ((a b : K) → eq a b ≡ eq b a) → (rows : List A) → list_all is_sound rows ≡ true
      → are_distinct eq key_of rows ≡ true → all_follow (may_follow eq key_of is_sound) [] rows ≡ true
  distinct_rows_follow symmetric rows sound distinct = both_follow rows [] sound
      (distinct_follow eq key_of symmetric rows distinct)
