-- The path of a tree's file.
use Rattle.std.proofs.Common.{◌≡◌, ℕ, ◌+◌, ◌≤◌, ◌<◌, ◌∙◌, ◌==◌, ◌&&◌, Bool, true, false, not, List, [], ◌∷◌, length}
use Rattle.std.proofs.Common.{refl, sym, ap, subst, arith, length-append}
use Rattle.std.specs.Prelude.{IsTrue, codes}
use Rattle.std.specs.List.{list_all}
use Rattle.std.proofs.lemmas.Bool.{and_parts, and_from, eqb-true, lt-ltb, le-leb}
use Rattle.std.proofs.lemmas.List.Folds.{list_all-append}
use Rattle.cnb_world.specs.Path.{is_part, is_part_byte, is_path, joined, beside}
use Rattle.cnb_world.proofs.Folders.{not_longer}
use Rattle.cnb_world.proofs.Joins.{path_beside_file}
use Rattle.tree_canon.specs.Digest.{is_digest_text, is_lower_digit}
use Rattle.tree_store.proofs.Ways.{joined_short}

-- digits can stand in a name
plain_digit : (c : ℕ) → is_lower_digit c ≡ true → is_part_byte c ≡ true
plain_digit c h = by (c == 47) refl (c == 0) refl
  where
    by : (slash : Bool) → (c == 47) ≡ slash → (zero : Bool) → (c == 0) ≡ zero → (not slash && not zero) ≡ true
    by true e zero f = absurd (let no : false ≡ true = ap is_lower_digit (sym (eqb-true c 47 e)) ∙ h in cc)
    by false e true f = absurd (let no : false ≡ true = ap is_lower_digit (sym (eqb-true c 0 f)) ∙ h in cc)
    by false e false f = refl

plain_digits : (text : List ℕ) → list_all is_lower_digit text ≡ true → list_all is_part_byte text ≡ true
plain_digits [] h = refl
plain_digits (c ∷ cs) h = let p = and_parts (is_lower_digit c) (list_all is_lower_digit cs) h
    in and_from _ _ (plain_digit c p.0) (plain_digits cs p.1)

five : (a b c d e : Bool) → a ≡ true → b ≡ true → c ≡ true → d ≡ true → e ≡ true → IsTrue ((((a && b) && c) && d) && e)
five a b c d e p q r s t = and_from _ _ (and_from _ _ (and_from _ _ (and_from _ _ p q) r) s) t

-- a name of more than two bytes, none of which is a slash or zero
long_part : (name : List ℕ) → 2 < length name → length name ≤ 255 → list_all is_part_byte name ≡ true
    → IsTrue (is_part name)
long_part name long short plain = five _ _ _ _ _ (lt-ltb 0 (length name) (omega arith))
    (le-leb (length name) 255 short) (ap not (not_longer name (46 ∷ []) (omega arith)))
    (ap not (not_longer name (46 ∷ 46 ∷ []) (omega arith))) plain

pub digits : (text : List ℕ) → is_digest_text text ≡ true → (length text ≡ 64) × (list_all is_part_byte text ≡ true)
digits text h = let p = and_parts (length text == 64) (list_all is_lower_digit text) h
    in (eqb-true (length text) 64 p.0, plain_digits text p.1)

pub digest_part : (text name : List ℕ) → name ≡ text → is_digest_text text ≡ true → IsTrue (is_part name)
digest_part text name e h = subst (λ n. IsTrue (is_part n)) (sym e)
    (let size : length text ≡ 64 = (digits text h).0 in long_part text (omega arith) (omega arith)
    (digits text h).1)

digest_beside : (text : List ℕ) → is_digest_text text ≡ true → IsTrue (is_part (beside text))
digest_beside text h =
    let size : length text ≡ 64 = (digits text h).0 in
    let more : length (beside text) ≡ length text + 4 = length-append text (46 ∷ 110 ∷ 101 ∷ 119 ∷ []) in
    long_part (beside text) (omega arith) (omega arith)
    (list_all-append is_part_byte text (46 ∷ 110 ∷ 101 ∷ 119 ∷ []) ∙ and_from _ _ (digits text h).1 refl)

-- so a file can stand beside a tree's file
pub tree_beside : (store trees text name path : List ℕ) → length store ≤ 8192
    → trees ≡ joined store (codes "trees") → is_path trees ≡ true → name ≡ text → is_digest_text text ≡ true
    → path ≡ joined trees name → IsTrue (is_path (beside path))
tree_beside store trees text name path short is good e h at = subst (λ p. IsTrue (is_path (beside p)))
    (sym (at ∙ ap (joined trees) e)) (path_beside_file trees text good (digest_beside text h)
    (omega (
      arith,
      joined_short trees (beside text),
      joined_short store
          (codes "trees"),
      ap length is,
      length-append text (46 ∷ 110 ∷ 101 ∷ 119 ∷ []),
      (digits text h).0,
    )))
