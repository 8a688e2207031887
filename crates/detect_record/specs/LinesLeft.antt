-- Where a reader of a record's lines is.
use Rattle.std.specs.Prelude.{ℕ, ◌+◌, ◌≡◌, Bool, true, false, List, [], ◌∷◌, Option, None}
use Rattle.detect_record.specs.declared.outcome.CheckFault.{CheckFault}
use Rattle.detect_record.specs.declared.outcome.CheckFault.TheVariants.{Bad, Memory}
use Rattle.detect_record.specs.declared.line_fault.LineFault.{LineFault}
use Rattle.detect_record.specs.declared.line_fault.LineFault.TheVariants as line_fault
use Rattle.detect_record.specs.declared.parts.Line.{Line}

-- how many lines were taken, and those that are left; what isn't a line is none, as are bytes without a line feed
pub record LinesLeft : Type 0 where
  pub taken : ℕ
  pub left : List (Option Line)

abbrev pub are_none_left : List (Option Line) → Bool
are_none_left [] = true
are_none_left (piece ∷ pieces) = false

-- whether no line is left
abbrev pub is_at_end : LinesLeft → Bool
is_at_end lines = are_none_left lines.left

-- the next line is missing or is no line
abbrev pub HasNoNext : List (Option Line) → Type 0
HasNoNext [] = Unit {0}
HasNoNext (piece ∷ pieces) = piece ≡ None

-- the number of the next line, which is missing or is no line; or memory ran out
abbrev pub IsBadFirst : LinesLeft → CheckFault → Type 0
IsBadFirst lines (Bad line) = (line ≡ lines.taken + 1) × HasNoNext lines.left
IsBadFirst lines Memory = Unit {0}

abbrev pub IsRefused : List (Option Line) → LineFault → Type 0
IsRefused left line_fault.Bad = HasNoNext left
IsRefused left line_fault.Memory = Unit {0}
