-- Lines one after another.
use Rattle.std.proofs.Common.{◌≡◌, ◌∙◌, ℕ, ◌==◌, Bool, true, false, cond, List, [], ◌∷◌, length, Some, None, Err, ap}
use Rattle.std.proofs.Common.{sym, refl, arith}
use Rattle.std.proofs.lemmas.Bool.Decides.{nat_tests}
use Rattle.std.specs.List.{onto_first}
use Rattle.detect_record.specs.declared.parts.Line.{Line}
use Rattle.detect_record.specs.Forms.{cut}
use Rattle.detect_record.specs.Lines.{line_in, lines_in, lines_of, pieces_of, unended}
use Rattle.detect_record.specs.LinesLeft.{HasNoNext, IsRefused, are_none_left}
use Rattle.detect_record.specs.Reading.{IsReadAs}
use Rattle.detect_record.specs.declared.line_fault.LineFault.{LineFault}
use Rattle.detect_record.specs.declared.line_fault.LineFault.TheVariants.{Bad, Memory}
use Rattle.detect_record.proofs.CutLemmas.{cut_first, cut_none}

-- pieces behind the first
lines_onto : (text : List ℕ) (pieces : List (List ℕ)) → ((pieces ≡ []) → ⊥)
    → lines_of (text ∷ pieces) ≡ line_in text ∷ lines_of pieces
lines_onto text [] some = absurd (some refl)
lines_onto text (piece ∷ pieces) some = refl

onto_some : (byte : ℕ) (pieces : List (List ℕ)) → onto_first byte pieces ≡ [] → ⊥
onto_some byte [] e = cc
onto_some byte (piece ∷ pieces) e = cc

split_by : (is : Bool) (byte : ℕ) (pieces : List (List ℕ)) → cond is ([] ∷ pieces) (onto_first byte pieces) ≡ [] → ⊥
split_by true byte pieces e = cc
split_by false byte pieces e = onto_some byte pieces e

pieces_some : (bytes : List ℕ) → pieces_of bytes ≡ [] → ⊥
pieces_some [] e = cc
pieces_some (byte ∷ bytes) e = split_by (byte == 10) byte (pieces_of bytes) e

pub lines_cut : (bytes text rest : List ℕ) → cut 10 bytes ≡ Some (text, rest)
    → lines_in bytes ≡ line_in text ∷ lines_in rest
unfolding lines_in
lines_cut bytes text rest e = ap lines_of (cut_first 10 bytes text rest e)
    ∙ lines_onto text (pieces_of rest) (pieces_some rest)

no_next : (piece : List ℕ) → HasNoNext (unended piece)
no_next [] = tt
no_next (byte ∷ bytes) = refl

pub lines_whole : (bytes : List ℕ) → cut 10 bytes ≡ None → HasNoNext (lines_in bytes)
unfolding lines_in
lines_whole bytes e = rw (cut_none 10 bytes e) (no_next bytes)

pub lines_refused : (bytes text rest : List ℕ) → cut 10 bytes ≡ Some (text, rest) → line_in text ≡ None
    → HasNoNext (lines_in bytes)
lines_refused bytes text rest e none = rw (lines_cut bytes text rest e) none

pub lines_read : (bytes text rest : List ℕ) (line : Line) → cut 10 bytes ≡ Some (text, rest)
    → line_in text ≡ Some line → lines_in bytes ≡ Some line ∷ lines_in rest
lines_read bytes text rest line e read = lines_cut bytes text rest e ∙ ap (λ x. x ∷ lines_in rest) read

pub lines_fault : (bytes text rest : List ℕ) (fault : LineFault) → cut 10 bytes ≡ Some (text, rest)
    → IsReadAs {T = Line} (Err fault) (line_in text) → IsRefused (lines_in bytes) fault
lines_fault bytes text rest Bad halves read = lines_refused bytes text rest halves read
lines_fault bytes text rest Memory halves read = tt

-- ---- where no line is left

left_of_onto : (byte : ℕ) (pieces : List (List ℕ)) → are_none_left (lines_of (onto_first byte pieces)) ≡ false
left_of_onto byte [] = refl
left_of_onto byte (piece ∷ []) = refl
left_of_onto byte (piece ∷ other ∷ pieces) = refl

left_of_more : (pieces : List (List ℕ)) → ((pieces ≡ []) → ⊥) → are_none_left (lines_of ([] ∷ pieces)) ≡ false
left_of_more [] some = absurd (some refl)
left_of_more (piece ∷ pieces) some = refl

left_of_split : (is : Bool) (byte : ℕ) (pieces : List (List ℕ)) → ((pieces ≡ []) → ⊥)
    → are_none_left (lines_of (cond is ([] ∷ pieces) (onto_first byte pieces))) ≡ false
left_of_split true byte pieces some = left_of_more pieces some
left_of_split false byte pieces some = left_of_onto byte pieces

pub none_left : are_none_left (lines_in []) ≡ true
unfolding lines_in
none_left = refl

pub some_left : (byte : ℕ) (bytes : List ℕ) → are_none_left (lines_in (byte ∷ bytes)) ≡ false
unfolding lines_in
some_left byte bytes = left_of_split (byte == 10) byte (pieces_of bytes) (pieces_some bytes)

pub empty_test : (bytes : List ℕ) → (length bytes == 0) ≡ are_none_left (lines_in bytes)
empty_test [] = sym none_left
empty_test (byte ∷ bytes) =
    let some : (length (byte ∷ bytes) == 0) ≡ false = grind (arith, nat_tests) in
    some ∙ sym (some_left byte bytes)
