-- What the forms of names and targets give.
use Rattle.std.proofs.Common.{◌≡◌, ℕ, ◌<◌, ◌≤◌, List, length, true, false, refl, Bool, ◌&&◌}
use Rattle.std.specs.Prelude.{nat_lt, nat_le, not}
use Rattle.std.specs.Str.{IsUtf8, is_utf8}
use Rattle.std.proofs.lemmas.Str.{IsUtf8-from_is_utf8}
use Rattle.std.proofs.lemmas.Bool.{and_parts, ltb-true, leb-true}
use Rattle.tree_canon.specs.Names.{is_text, is_plain, is_dots, is_name, has_no_zero, is_target}

-- the length of a text
pub text_sizes : (most : ℕ) (bytes : List ℕ) → is_text most bytes ≡ true → (0 < length bytes) × (length bytes ≤ most)
text_sizes most bytes h =
    let whole = and_parts (nat_lt 0 (length bytes) && nat_le (length bytes) most) (is_utf8 bytes) h in
    let sizes = and_parts (nat_lt 0 (length bytes)) (nat_le (length bytes) most) whole.0 in
    (ltb-true 0 (length bytes) sizes.0, leb-true (length bytes) most sizes.1)

pub name_sizes : (name : List ℕ) → is_name name ≡ true → (0 < length name) × (length name ≤ 255)
name_sizes name h = text_sizes 255 name (and_parts (is_text 255 name) (is_plain name && not (is_dots name)) h).0

pub target_sizes : (target : List ℕ) → is_target target ≡ true → (0 < length target) × (length target ≤ 4096)
target_sizes target h = text_sizes 4096 target (and_parts (is_text 4096 target) (has_no_zero target) h).0

pub name_utf8 : (name : List ℕ) → is_name name ≡ true → is_utf8 name ≡ true
name_utf8 name h = (and_parts (nat_lt 0 (length name) && nat_le (length name) 255) (is_utf8 name)
    (and_parts (is_text 255 name) (is_plain name && not (is_dots name)) h).0).1

pub target_utf8 : (target : List ℕ) → is_target target ≡ true → is_utf8 target ≡ true
target_utf8 target h = (and_parts (nat_lt 0 (length target) && nat_le (length target) 4096) (is_utf8 target)
    (and_parts (is_text 4096 target) (has_no_zero target) h).0).1

-- bytes that aren't UTF-8 fail the test
pub not_utf8 : (bytes : List ℕ) → (IsUtf8 bytes → ⊥) → is_utf8 bytes ≡ false
not_utf8 bytes h = pick (is_utf8 bytes) refl
  where
    pick : (b : Bool) → is_utf8 bytes ≡ b → is_utf8 bytes ≡ false
    pick true e = absurd (h (IsUtf8-from_is_utf8 bytes e))
    pick false e = e
