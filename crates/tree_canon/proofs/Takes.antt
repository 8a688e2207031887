-- What a scanner does with the bytes that make a field whole.
use Rattle.std.specs.Prelude.{◌==◌, OnOk}
use Rattle.std.proofs.lemmas.Bool.{eqb-true, eqb-false}
use Rattle.std.proofs.Common.{◌≡◌, ◌∙◌, arith, refl, ap, true, false, ℕ, ◌+◌, List, [], ◌∷◌, length, reverse, sym}
use Rattle.std.proofs.Common.{subst, Some, None, Result, Ok, Err}
use Rattle.tree_canon.specs.declared.event.Event.{Event}
use Rattle.tree_canon.specs.declared.fault.Reason.{Reason}
use Rattle.tree_canon.specs.declared.fault.DecodeFault.{DecodeFault}
use Rattle.tree_canon.specs.declared.scanner.Scanner.{Scanner}
use Rattle.tree_canon.specs.CutTree.{CutTree}
use Rattle.tree_canon.specs.Reading.{State, Stuck, Going, run}
use Rattle.tree_canon.specs.Scanning.{bytes_taken, field_width, reason_at, place, behind, HasReached, IsAt}
use Rattle.tree_canon.proofs.Scans.{HasTaken, HasMoved, IsAtField, field_runs, field_reached, field_breaks}
use Rattle.tree_canon.proofs.Scans.{field_direct, field_kept}

pub is_none : (n : ℕ) (xs : List ℕ) → n ≡ length xs → (n == 0) ≡ true → xs ≡ []
is_none n [] len is = refl
is_none n (x ∷ xs) len is = absurd (omega (arith, eqb-true n 0 is))

pub is_some : (n : ℕ) (xs : List ℕ) → n ≡ length xs → (n == 0) ≡ false → xs ≡ [] → ⊥
is_some n xs len is none = eqb-false n 0 is (len ∙ ap length none)

-- one scanner stands before the field that these bytes make whole, where another has come
pub record StandsBefore (old mid : Scanner) (bytes field : List ℕ) : Type 0 where
  pub at_field : (at : ℕ) (c : CutTree) (part : List ℕ) → HasReached old at c part → IsAtField mid at c part bytes field

pub stands_direct : (s : Scanner) (bytes : List ℕ) → s.part.items ≡ []
    → bytes_taken s.next s.part.items + length bytes ≡ field_width s.next → StandsBefore s s bytes bytes
stands_direct s bytes none whole = record { at_field = λ at c part h. field_direct s at c part bytes h none whole }

pub stands_kept : (old mid : Scanner) (bytes field : List ℕ) → (old.part.items ≡ [] → ⊥)
    → bytes_taken old.next old.part.items + length bytes ≡ field_width old.next → HasTaken old mid bytes
    → field ≡ mid.part.items
    → StandsBefore old mid bytes field
stands_kept old mid bytes field some whole t is = record
    { at_field = λ at c part h. field_kept old mid at c part bytes field h some whole t is }

pub takes_field : (old mid new : Scanner) (bytes field : List ℕ) → StandsBefore old mid bytes field
    → HasMoved mid new field → (state : State) → IsAt old state → IsAt new (run state bytes)
takes_field old mid new bytes field s m (Stuck at r) h = absurd h
takes_field old mid new bytes field s m (Going at c part) h =
    let f = s.at_field at c part h in
    subst (IsAt new) (sym (field_runs mid new at c part bytes field f m))
    (field_reached mid new at c part bytes field f m)

pub breaks_field : (old mid : Scanner) (bytes field : List ℕ) → StandsBefore old mid bytes field
    → (place : ℕ) (reason : Reason)
    → (place ≡ mid.at) × (reason_at (length mid.folders.items) mid.at mid.next field ≡ Some reason)
    → (state : State) → IsAt old state → run state bytes ≡ Stuck place reason
breaks_field old mid bytes field s place reason broken (Stuck at r) h = absurd h
breaks_field old mid bytes field s place reason broken (Going at c part) h = field_breaks mid at c part bytes
    field place reason (s.at_field at c part h) broken

-- where the field meets its rules
pub moved_ok : (result : Result Event DecodeFault) (old new : Scanner) (field : List ℕ)
    → OnOk result (reason_at (length old.folders.items) old.at old.next field ≡ None)
    → OnOk result (new.at ≡ old.at + field_width old.next)
    → OnOk result (place (reverse new.folders.items) new.next ≡ behind (reverse old.folders.items) old.next field)
    → OnOk result (new.part.items ≡ []) → OnOk result (HasMoved old new field)
moved_ok (Ok e) old new field meets at here empty = record { meets = meets; at = at; place = here; empty = empty }
moved_ok (Err fault) old new field meets at here empty = tt

pub takes_ok : (result : Result Event DecodeFault) (old mid new : Scanner) (bytes field : List ℕ)
    → StandsBefore old mid bytes field → OnOk result (HasMoved mid new field)
    → OnOk result ((state : State) → IsAt old state → IsAt new (run state bytes))
takes_ok (Ok e) old mid new bytes field stands m = takes_field old mid new bytes field stands m
takes_ok (Err fault) old mid new bytes field stands m = tt
