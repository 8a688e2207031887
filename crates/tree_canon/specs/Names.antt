-- The forms of names and of targets of links, and the order of names.
use Rattle.std.specs.Prelude.{ℕ, Bool, true, false, ◌&&◌, ◌==◌, not, List, [], ◌∷◌, length, Option, Some, None, nat_lt}
use Rattle.std.specs.Prelude.{nat_le}
use Rattle.std.specs.List.{list_all}
use Rattle.std.specs.Str.{is_utf8}
use Rattle.std.specs.Cmp.Lexicographic.{slice_cmp}
use Rattle.std.specs.Ordering.{nat_cmp, is_lt}

-- a text that isn't empty and isn't longer than this
abbrev pub is_text : ℕ → List ℕ → Bool
is_text most bytes = (nat_lt 0 (length bytes) && nat_le (length bytes) most) && is_utf8 bytes

-- neither a zero byte nor a slash
abbrev pub is_plain : List ℕ → Bool
is_plain bytes = list_all (λ b. not (b == 0) && not (b == 47)) bytes

-- `.` or `..`
abbrev pub is_dots : List ℕ → Bool
is_dots [] = false
is_dots (a ∷ []) = a == 46
is_dots (a ∷ b ∷ []) = (a == 46) && (b == 46)
is_dots (a ∷ b ∷ c ∷ rest) = false

-- the name of an entry
abbrev pub is_name : List ℕ → Bool
is_name name = is_text 255 name && (is_plain name && not (is_dots name))

abbrev pub has_no_zero : List ℕ → Bool
has_no_zero bytes = list_all (λ b. not (b == 0)) bytes

-- the target of a link
abbrev pub is_target : List ℕ → Bool
is_target target = is_text 4096 target && has_no_zero target

-- the order of bytes
abbrev pub is_below : List ℕ → List ℕ → Bool
is_below xs ys = is_lt (slice_cmp nat_cmp xs ys)

-- a name may stand behind the last one of its folder, if there is one
abbrev pub follows : Option (List ℕ) → List ℕ → Bool
follows None name = true
follows (Some last) name = is_below last name
