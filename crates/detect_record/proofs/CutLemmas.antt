-- Bytes in front of a mark and behind it.
use Rattle.std.proofs.Common.{◌≡◌, ◌∙◌, ℕ, ◌+◌, ◌<◌, ◌==◌, Bool, List, [], ◌∷◌, ◌++◌, length, Option, Some, None, true}
use Rattle.std.proofs.Common.{false, cond, arith, ap, refl, take, drop, eq-eqb, get_or}
use Rattle.std.specs.Prelude.{nat_lt, not}
use Rattle.std.specs.Option.{option_map}
use Rattle.std.specs.List.{list_all, position_or_len, slice_split}
use Rattle.std.proofs.lemmas.Bool.{and_parts, le-ltb, lt-ltb, ltb-true}
use Rattle.std.proofs.lemmas.Bool.Decides.{nat_tests}
use Rattle.std.proofs.lemmas.List.{length-append, length-drop}
use Rattle.std.proofs.lemmas.List.Elements.{All-from_get_or}
use Rattle.std.proofs.lemmas.List.Sums.{prefix_len_passes}
use Rattle.std.proofs.lemmas.List.Splits.{slice_split_first, slice_split_none}
use Rattle.std.proofs.Math.Seq.{take-append_seam, drop-append-add}
use Rattle.detect_record.specs.Forms.{cut, halves_at}

abbrev pub is_mark : ℕ → ℕ → Bool
is_mark mark byte = byte == mark

-- bytes without such a byte
abbrev pub lacks : ℕ → List ℕ → Bool
lacks mark bytes = list_all (λ byte. not (byte == mark)) bytes

not_true : (b : Bool) → not b ≡ true → b ≡ false
not_true true h = absurd cc
not_true false h = refl

-- ---- what a cut says of the pieces

halves_by : (found : Bool) (at : ℕ) (bytes first rest : List ℕ)
    → option_map (halves_at bytes) (cond found (Some at) None) ≡ Some (first, rest)
    → (found ≡ true) × (take at bytes ≡ first) × (drop (at + 1) bytes ≡ rest)
halves_by true at bytes first rest e =
    let same : halves_at bytes at ≡ (first, rest) = cc in
    (refl, ap (λ halves. halves.0) same, ap (λ halves. halves.1) same)
halves_by false at bytes first rest e = absurd cc

none_by : (found : Bool) (at : ℕ) (bytes : List ℕ) → option_map (halves_at bytes) (cond found (Some at) None)
    ≡ None → found ≡ false
none_by true at bytes e = absurd cc
none_by false at bytes e = refl

pub cut_first : (mark : ℕ) (bytes first rest : List ℕ) → cut mark bytes ≡ Some (first, rest)
    → slice_split (λ byte. byte == mark) bytes ≡ first ∷ slice_split (λ byte. byte == mark) rest
cut_first mark bytes first rest e =
    let at = position_or_len (is_mark mark) bytes in
    let halves = halves_by (nat_lt at (length bytes)) at bytes first rest e in
    let split = slice_split_first (is_mark mark) bytes 0 (ltb-true at (length bytes) halves.0) in
    let front = halves.1 in
    let back = halves.2 in
    split ∙ ap (λ x. x ∷ slice_split (is_mark mark) (drop (at + 1) bytes)) front
    ∙ ap (λ x. first ∷ slice_split (is_mark mark) x) back

pub cut_shorter : (mark : ℕ) (bytes first rest : List ℕ) → cut mark bytes ≡ Some (first, rest)
    → length rest < length bytes
cut_shorter mark bytes first rest e =
    let at = position_or_len (is_mark mark) bytes in
    let halves = halves_by (nat_lt at (length bytes)) at bytes first rest e in
    let within : at < length bytes = ltb-true at (length bytes) halves.0 in
    let back : length (drop (at + 1) bytes) ≡ length rest = ap length halves.2 in
    omega (arith, length-drop (at + 1) bytes)

all_other : (mark : ℕ) (bytes : List ℕ) → nat_lt (position_or_len (is_mark mark) bytes) (length bytes) ≡ false
    → (k : ℕ) → k < length bytes → is_mark mark (get_or bytes k 0) ≡ false
all_other mark bytes none k within =
    let passed : not (is_mark mark (get_or bytes k 0)) ≡ true = prefix_len_passes
    (λ byte. not (is_mark mark byte)) bytes k 0 (grind (arith, nat_tests)) in
    not_true (is_mark mark (get_or bytes k 0)) passed

pub cut_none : (mark : ℕ) (bytes : List ℕ) → cut mark bytes ≡ None
    → slice_split (λ byte. byte == mark) bytes ≡ bytes ∷ []
cut_none mark bytes e =
    let at = position_or_len (is_mark mark) bytes in
    let none = none_by (nat_lt at (length bytes)) at bytes e in
    slice_split_none (is_mark mark) bytes (All-from_get_or (λ byte. is_mark mark byte ≡ false) bytes 0
    (all_other mark bytes none))

-- ---- what is cut out of bytes that were put together

place_at : (mark : ℕ) (front rest : List ℕ) → lacks mark front ≡ true
    → position_or_len (is_mark mark) (front ++ (mark ∷ rest)) ≡ length front
place_at mark [] rest h = let e : is_mark mark mark ≡ true = eq-eqb mark mark refl in rw e refl
place_at mark (byte ∷ front) rest h =
    let parts = and_parts (not (byte == mark)) (lacks mark front) h in
    let later = place_at mark front rest parts.1 in
    rw parts.0 (omega (arith, later))

abbrev both : List ℕ → List ℕ → Option (List ℕ × List ℕ)
both front rest = Some (front, rest)

pair : (a b c d : List ℕ) → a ≡ b → c ≡ d → both a c ≡ both b d
pair a b c d e f = cc

pub cut_at : (mark : ℕ) (front rest : List ℕ) → lacks mark front ≡ true
    → cut mark (front ++ (mark ∷ rest)) ≡ Some (front, rest)
cut_at mark front rest h =
    let bytes = front ++ (mark ∷ rest) in
    let at = place_at mark front rest h in
    let within : nat_lt (length front) (length bytes) ≡ true = lt-ltb (length front) (length bytes)
    (omega (arith, length-append front (mark ∷ rest))) in
    let first : take (length front) bytes ≡ front = take-append_seam front (mark ∷ rest) in
    let behind : drop (length front + 1) bytes ≡ rest = drop-append-add front (mark ∷ rest) 1 in
    rw (at, within) (pair (take (length front) bytes) front (drop (length front + 1) bytes) rest first behind)

-- a mark ends the first piece
pub pieces_at : (mark : ℕ) (front rest : List ℕ) → lacks mark front ≡ true
    → slice_split (λ byte. byte == mark) (front ++ (mark ∷ rest)) ≡ front
    ∷ slice_split (λ byte. byte == mark) rest
pieces_at mark front rest h = cut_first mark (front ++ (mark ∷ rest)) front rest (cut_at mark front rest h)

place_none : (mark : ℕ) (bytes : List ℕ) → lacks mark bytes ≡ true → position_or_len (is_mark mark) bytes ≡ length bytes
place_none mark [] h = refl
place_none mark (byte ∷ bytes) h =
    let parts = and_parts (not (byte == mark)) (lacks mark bytes) h in
    let later = place_none mark bytes parts.1 in
    rw parts.0 (omega (arith, later))

pub cut_lacking : (mark : ℕ) (bytes : List ℕ) → lacks mark bytes ≡ true → cut mark bytes ≡ None
cut_lacking mark bytes h =
    let at = place_none mark bytes h in
    let out : nat_lt (length bytes) (length bytes) ≡ false = le-ltb (length bytes) (length bytes) (omega arith) in
    rw (at, out) refl

pub pieces_lacking : (mark : ℕ) (bytes : List ℕ) → lacks mark bytes ≡ true
    → slice_split (λ byte. byte == mark) bytes ≡ bytes ∷ []
pieces_lacking mark bytes h = cut_none mark bytes (cut_lacking mark bytes h)
