-- Bytes that are read from a shelf, or put there, in pieces.
use Rattle.std.proofs.Common.{◌≡◌, ℕ, ◌+◌, ◌≤◌, Bool, true, false, nat_eq, List, [], ◌++◌, length}
use Rattle.std.proofs.Common.{take, drop, refl, sym, ap, ◌∙◌, arith, Option, Some, None, IfSome}
use Rattle.std.specs.Option.{option_map}
use Rattle.std.specs.FinMap.{get}
use Rattle.std.proofs.Math.Seq.{take-add}
use Rattle.std.proofs.lemmas.Bool.{eqb-true, eqb-false}
use Rattle.std.proofs.lemmas.List.{append_assoc, take_all, take-append-drop, length-append, length-take}
use Rattle.cnb_world.specs.Shelf.{Held, empty_at, with_more}
use Rattle.cnb_world.specs.declared.memory.shelf.Held.{Held as HeldBytes}

-- what was read of the bytes under a digest: their first ones where there may be more, and else all
abbrev pub HasRead : Option (List ℕ) → List ℕ → Bool → Type 0
HasRead None bytes more = ⊥
HasRead (Some whole) bytes true = take (length bytes) whole ≡ bytes
HasRead (Some whole) bytes false = whole ≡ bytes

next_of : (whole bytes piece : List ℕ) (more : Bool) → take (length bytes) whole ≡ bytes
    → piece ≡ take 65536 (drop (length bytes) whole) → nat_eq (length piece) 65536 ≡ more
    → HasRead (Some whole) (bytes ++ piece) more
next_of whole bytes piece true before is full =
    ap (λ n. take n whole) (length-append bytes piece ∙ ap (λ n. length bytes + n) (eqb-true _ _ full))
    ∙ take-add (length bytes) 65536 whole
    ∙ ap (λ b. b ++ take 65536 (drop (length bytes) whole)) before ∙ ap (λ p. bytes ++ p) (sym is)
next_of whole bytes piece false before is short =
    sym (take-append-drop (length bytes) whole) ∙ ap (λ b. b ++ drop (length bytes) whole) before
    ∙ ap (λ p. bytes ++ p) (sym (take_all 65536 (drop (length bytes) whole) rest) ∙ sym is)
  where
    rest : length (drop (length bytes) whole) ≤ 65536
    rest = omega (arith, ap length is ∙ length-take 65536 (drop (length bytes) whole), eqb-false _ _ short)

read_of : (found : Option (List ℕ)) (bytes piece : List ℕ) → HasRead found bytes true
    → Some piece ≡ option_map (λ b. take 65536 (drop (length bytes) b)) found
    → HasRead found (bytes ++ piece) (nat_eq (length piece) 65536)
read_of None bytes piece before is = before
read_of (Some whole) bytes piece before is = next_of whole bytes piece _ before (grind (arith, is)) refl

pub read_next : (held was : Option Held) (digest bytes view piece shown after last : List ℕ)
    (found : Option (List ℕ))
    → IfSome held (λ h. HasRead (get h digest) bytes true) → was ≡ held → view ≡ bytes → found ≡ Some piece
    → IfSome was (λ h. found ≡ option_map (λ b. take 65536 (drop (length view) b)) (get h digest))
    → shown ≡ piece → after ≡ bytes ++ shown → last ≡ piece
    → IfSome held (λ h. HasRead (get h digest) after (nat_eq (length last) 65536))
read_next held was digest bytes view piece shown after last found before same seen some told copy whole end =
    rw (whole, copy, end) (by held before (rw (same, some, seen) at told))
  where
    by : (held : Option Held) → IfSome held (λ h. HasRead (get h digest) bytes true)
        → IfSome held (λ h. Some piece ≡ option_map (λ b. take 65536 (drop (length bytes) b)) (get h digest))
        → IfSome held (λ h. HasRead (get h digest) (bytes ++ piece) (nat_eq (length piece) 65536))
    by None before is = tt
    by (Some h) before is = read_of (get h digest) bytes piece before is

first_of : (found : Option (List ℕ)) (piece : List ℕ) → Some piece ≡ option_map (λ b. take 65536 (drop 0 b)) found
    → HasRead found piece (nat_eq (length piece) 65536)
first_of None piece is = grind (arith, is)
first_of (Some whole) piece is = next_of whole [] piece _ refl (grind (arith, is)) refl

pub read_first : (held : Option Held) (digest piece view : List ℕ) (found : Option (List ℕ)) → found ≡ Some piece
    → IfSome held (λ h. found ≡ option_map (λ b. take 65536 (drop 0 b)) (get h digest)) → view ≡ piece
    → IfSome held (λ h. HasRead (get h digest) piece (nat_eq (length view) 65536))
read_first held digest piece view found some told seen = rw seen (by held (rw some at told))
  where
    by : (held : Option Held) → IfSome held (λ h. Some piece ≡ option_map (λ b. take 65536 (drop 0 b)) (get h digest))
        → IfSome held (λ h. HasRead (get h digest) piece (nat_eq (length piece) 65536))
    by None is = tt
    by (Some h) is = first_of (get h digest) piece is

-- what was begun has the first of the bytes, and the rest is still to come
abbrev pub HasBegun : Option Held → Option HeldBytes → List ℕ → List ℕ → List ℕ → Type 0
HasBegun held begun digest bytes rest =
    (put : List ℕ) × (put ++ rest ≡ bytes) × (begun ≡ option_map (λ _. with_more put (empty_at digest)) held)

pub begun_more : (held : Option Held) (begun after : Option HeldBytes) (digest bytes rest piece more : List ℕ)
    → HasBegun held begun digest bytes rest → piece ++ more ≡ rest → after ≡ option_map (with_more piece) begun
    → HasBegun held after digest bytes more
begun_more held begun after digest bytes rest piece more before parts is = (
  before.0 ++ piece,
  append_assoc before.0 piece more ∙ ap (λ b. before.0 ++ b) parts ∙ before.1,
  is ∙ ap (option_map (with_more piece)) before.2 ∙ by held,
)
  where
    by : (held : Option Held)
        → option_map (with_more piece) (option_map (λ _. with_more before.0 (empty_at digest)) held)
        ≡ option_map (λ _. with_more (before.0 ++ piece) (empty_at digest)) held
    by None = refl
    by (Some h) = refl
