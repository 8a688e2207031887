-- What a shelf holds under a digest, judged as it is read.
use Rattle.std.proofs.Common.{◌≡◌, ◌∙◌, ℕ, ◌+◌, ◌*◌, ◌≤◌, ◌<◌, refl, sym, ap, subst, arith, List, [], ◌++◌, length}
use Rattle.std.proofs.Common.{take}
use Rattle.std.proofs.Common.{drop}
use Rattle.std.proofs.Common.{Option, Some, None, Result, Ok, Err}
use Rattle.std.specs.Prelude.{IfSome}
use Rattle.std.specs.Option.{option_map}
use Rattle.std.specs.FinMap.{get}
use Rattle.std.proofs.Math.Seq.{take-add}
use Rattle.std.proofs.lemmas.List.{length-take, take-append-drop, take_all}
use Rattle.cnb_world.specs.Calls.{CountsShelf}
use Rattle.cnb_world.specs.Shelf.{Held}
use Rattle.cnb_world.specs.declared.shelf.ShelfFault.{ShelfFault}
use Rattle.cnb_world.specs.declared.shelf.ShelfFault.TheVariants as shelf
use Rattle.tree_canon.specs.Judging.{IsJudged}
use Rattle.tree_canon.specs.declared.judging.Judged.{Judged}
use Rattle.shelf_set.specs.ShelfState.{ShelfState}
use Rattle.shelf_set.specs.Searching.{Asks, IsChecked, IsSpelled, Reads}
use Rattle.shelf_set.specs.declared.ask.Checked.{Checked}
use Rattle.shelf_set.specs.declared.ask.Checked.TheVariants as checked
use Rattle.tree_canon.specs.declared.judging.Judged.TheVariants as kinds

-- these are the first of the bytes under a digest, so many pieces
abbrev pub AreFirst : Option (List ℕ) → ℕ → List ℕ → Type 0
AreFirst None number bytes = Unit {0}
AreFirst (Some whole) number bytes = bytes ≡ take (number * 65536) whole

-- where the shelf tells what it holds
abbrev pub HasRead : Option Held → List ℕ → ℕ → List ℕ → Type 0
HasRead held digest number bytes = IfSome held (λ h. AreFirst (get h digest) number bytes)

pub none_read : (held : Option Held) (digest : List ℕ) → HasRead held digest 0 []
none_read None digest = tt
none_read (Some h) digest = by (get h digest)
  where
    by : (found : Option (List ℕ)) → AreFirst found 0 []
    by None = tt
    by (Some whole) = refl

abbrev Told : Option Held → List ℕ → ℕ → Option (List ℕ) → Type 0
Told held digest number found = IfSome held
    (λ h. found ≡ option_map (λ whole. take 65536 (drop (number * 65536) whole)) (get h digest))

-- one piece more
pub piece_read : (held : Option Held) (digest bytes piece : List ℕ) (number : ℕ) → HasRead held digest number bytes
    → Told held digest number (Some piece) → HasRead held digest (number + 1) (bytes ++ piece)
piece_read None digest bytes piece number before told = tt
piece_read (Some h) digest bytes piece number before told = by (get h digest) before told
  where
    by : (found : Option (List ℕ)) → AreFirst found number bytes
        → Some piece ≡ option_map (λ whole. take 65536 (drop (number * 65536) whole)) found
        → AreFirst found (number + 1) (bytes ++ piece)
    by None first is = tt
    by (Some whole) first is =
        let same : piece ≡ take 65536 (drop (number * 65536) whole) = cc in
        let next : number * 65536 + 65536 ≡ (number + 1) * 65536 = omega arith in
        ap (λ b. b ++ piece) first ∙ ap (λ p. take (number * 65536) whole ++ p) same
        ∙ sym (take-add (number * 65536) 65536 whole) ∙ ap (λ n. take n whole) next

-- a piece that is the last
pub last_read : (held : Option Held) (digest bytes piece : List ℕ) (number : ℕ) → HasRead held digest number bytes
    → Told held digest number (Some piece) → length piece < 65536
    → IfSome held (λ h. Some (bytes ++ piece) ≡ get h digest)
last_read None digest bytes piece number before told short = tt
last_read (Some h) digest bytes piece number before told short = by (get h digest) before told
  where
    by : (found : Option (List ℕ)) → AreFirst found number bytes
        → Some piece ≡ option_map (λ whole. take 65536 (drop (number * 65536) whole)) found
        → Some (bytes ++ piece) ≡ found
    by None first is = absurd (cc)
    by (Some whole) first is =
        let same : piece ≡ take 65536 (drop (number * 65536) whole) = cc in
        let size : length piece ≡ length (take 65536 (drop (number * 65536) whole)) = ap length same in
        let rest : length (drop (number * 65536) whole) ≤ 65536 = omega
        (arith, size, length-take 65536 (drop (number * 65536) whole), short) in
        ap Some (ap (λ b. b ++ piece) first ∙ ap (λ p. take (number * 65536) whole ++ p) same
        ∙ ap (λ p. take (number * 65536) whole ++ p) (take_all 65536 (drop (number * 65536) whole) rest)
        ∙ take-append-drop (number * 65536) whole)

-- ---- the call

-- a shelf is as before, and these bytes were read so far, of which this holds
pub record Reading (digest : List ℕ) (number : ℕ) (Holds : List ℕ → Type 0) (before now : ShelfState) : Type 0 where
  pub held : now.held ≡ before.held
  pub rows : now.rows ≡ before.rows
  pub faults : now.faults ≡ before.faults
  pub bytes : List ℕ
  pub holds : Holds bytes
  pub told : HasRead before.held digest number bytes

pub reading_none : (digest : List ℕ) (Holds : List ℕ → Type 0) (s : ShelfState) → Holds []
    → Reading digest 0 Holds s s
reading_none digest Holds s holds = record {
  held = refl;
  rows = refl;
  faults = refl;
  bytes = [];
  holds = holds;
  told = none_read s.held digest;
}

answered_so : (digest : List ℕ) (at : ℕ) (result : Result (Option (List ℕ)) ShelfFault) (answer : Option (List ℕ))
    (now new : ShelfState) → result ≡ Ok answer → Reads digest at result now new → Reads digest at (Ok answer) now new
answered_so digest at result answer now new is reads = subst (λ r. Reads digest at r now new) is reads

-- what is answered, by what a shelf was asked
abbrev pub ChecksSo : List ℕ → Result (Option Checked) ShelfFault → ShelfState → ShelfState → Type 0
ChecksSo digest result before after = (asked : Result (Option Judged) ShelfFault) × IsChecked asked result
    × Asks digest asked before after

module _ (digest piece view : List ℕ) (number : ℕ) (result : Result (Option (List ℕ)) ShelfFault)
    (found : Option (List ℕ)) (Holds More : List ℕ → Type 0) (before now new : ShelfState)
    (so_far : Reading digest number Holds before now) (is : result ≡ Ok found) (some : found ≡ Some piece)
    (seen : view ≡ piece) (reads : Reads digest (number * 65536) result now new)
    (more : (bytes : List ℕ) → Holds bytes → More (bytes ++ view)) where
  answered : Reads digest (number * 65536) (Ok (Some piece)) now new
  answered = answered_so digest (number * 65536) result (Some piece) now new (is ∙ ap (λ f. Ok f) some) reads

  told_before : Told before.held digest number (Some piece)
  told_before = subst (λ h. Told h digest number (Some piece)) so_far.held answered.told

  pub reading_more : Reading digest (number + 1) More before new
  reading_more = record {
    held = answered.held ∙ so_far.held;
    rows = answered.rows ∙ so_far.rows;
    faults = answered.faults ∙ so_far.faults;
    bytes = so_far.bytes ++ view;
    holds = more so_far.bytes so_far.holds;
    told = subst (λ v. HasRead before.held digest (number + 1) (so_far.bytes ++ v)) (sym seen)
        (piece_read before.held digest so_far.bytes piece number so_far.told told_before);
  }

  last_so : (judged : Judged) → length piece < 65536 → IsJudged digest (so_far.bytes ++ view) judged
      → Asks digest (Ok (Some judged)) before new
  last_so judged short is_judged = record {
    held = answered.held ∙ so_far.held;
    rows = answered.rows ∙ so_far.rows;
    faults = answered.faults ∙ so_far.faults;
    bytes = Some (so_far.bytes ++ view);
    judged = is_judged;
    told = subst (λ v. IfSome before.held (λ h. Some (so_far.bytes ++ v) ≡ get h digest)) (sym seen)
        (last_read before.held digest so_far.bytes piece number so_far.told told_before short);
  }

  pub reading_last : (judged : Judged) → length piece < 65536
      → ((bytes : List ℕ) → More bytes → IsJudged digest bytes judged) → Asks digest (Ok (Some judged)) before new
  reading_last judged short ends = last_so judged short (ends (so_far.bytes ++ view) (more so_far.bytes so_far.holds))

  -- the same of bytes of which nothing is kept
  pub check_last : (is : Checked) → length piece < 65536 → ((bytes : List ℕ) → More bytes → IsSpelled digest bytes is)
      → ChecksSo digest (Ok (Some is)) before new
  check_last is short ends = by is (ends (so_far.bytes ++ view) (more so_far.bytes so_far.holds))
    where
      by : (is : Checked) → IsSpelled digest (so_far.bytes ++ view) is → ChecksSo digest (Ok (Some is)) before new
      by checked.Tree (tree, j) = (Ok (Some (kinds.Tree tree)), refl, last_so (kinds.Tree tree) short j)
      by (checked.Damaged asked found bad) j = (
        Ok (Some (kinds.Damaged asked found bad)),
        refl,
        last_so (kinds.Damaged asked found bad) short j,
      )

nothing_so : (held : Option Held) (digest : List ℕ) (number : ℕ) → Told held digest number None
    → IfSome held (λ h. (let o : Option (List ℕ) = None in o) ≡ get h digest)
nothing_so None digest number told = tt
nothing_so (Some h) digest number told = by (get h digest) told
  where
    by : (found : Option (List ℕ))
        → (let o : Option (List ℕ) = None in o) ≡ option_map (λ whole. take 65536 (drop (number * 65536) whole)) found
        → (let o : Option (List ℕ) = None in o) ≡ found
    by None is = refl
    by (Some whole) is = absurd (cc)

-- nothing is there
pub reading_nothing : (digest : List ℕ) (number : ℕ) (result : Result (Option (List ℕ)) ShelfFault)
    (found : Option (List ℕ)) (Holds : List ℕ → Type 0) (before now new : ShelfState)
    → Reading digest number Holds before now → result ≡ Ok found → found ≡ None
    → Reads digest (number * 65536) result now new → Asks digest (Ok None) before new
reading_nothing digest number result found Holds before now new so_far is none reads =
    let answered = answered_so digest (number * 65536) result None now new (is ∙ ap (λ f. Ok f) none) reads in
    record {
      held = answered.held ∙ so_far.held;
      rows = answered.rows ∙ so_far.rows;
      faults = answered.faults ∙ so_far.faults;
      bytes = None;
      judged = refl;
      told = nothing_so before.held digest number
          (subst (λ h. Told h digest number None) so_far.held answered.told);
    }

counts_on : (fault : ShelfFault) (before now new : ℕ) → now ≡ before
    → CountsShelf {T = Option (List ℕ)} (Err fault) now new → CountsShelf {T = Option Judged} (Err fault) before new
counts_on shelf.Failed before now new e c = subst (λ n. CountsShelf {T = Option Judged} (Err shelf.Failed) n new) e c
counts_on shelf.Memory before now new e c = subst (λ n. CountsShelf {T = Option Judged} (Err shelf.Memory) n new) e c

-- of a refused call nothing is told
nothing_said : (held : Option Held) → IfSome held (λ h. Unit {0})
nothing_said None = tt
nothing_said (Some h) = tt

-- a call is refused
pub reading_fails : (digest : List ℕ) (number : ℕ) (result : Result (Option (List ℕ)) ShelfFault)
    (fault : ShelfFault) (Holds : List ℕ → Type 0) (before now new : ShelfState)
    → Reading digest number Holds before now → result ≡ Err fault → Reads digest (number * 65536) result now new
    → Asks digest (Err fault) before new
reading_fails digest number result fault Holds before now new so_far is reads =
    let answered : Reads digest (number * 65536) (Err fault) now new = subst
    (λ r. Reads digest (number * 65536) r now new) is reads in
    record {
      held = answered.held ∙ so_far.held;
      rows = answered.rows ∙ so_far.rows;
      faults = counts_on fault before.faults now.faults new.faults so_far.faults answered.faults;
      bytes = None;
      judged = tt;
      told = nothing_said before.held;
    }

-- memory runs out between two calls
pub reading_stops : (digest : List ℕ) (number : ℕ) (Holds : List ℕ → Type 0) (before now : ShelfState)
    → Reading digest number Holds before now → Asks digest (Err shelf.Memory) before now
reading_stops digest number Holds before now so_far = record {
  held = so_far.held;
  rows = so_far.rows;
  faults = so_far.faults;
  bytes = None;
  judged = tt;
  told = nothing_said before.held;
}

-- ---- the same of bytes of which nothing is kept

pub check_fails : (digest : List ℕ) (number : ℕ) (result : Result (Option (List ℕ)) ShelfFault)
    (fault : ShelfFault) (end : Result (Option Checked) ShelfFault) (Holds : List ℕ → Type 0)
    (before now new : ShelfState) → Reading digest number Holds before now → result ≡ Err fault → end ≡ Err fault
    → Reads digest (number * 65536) result now new → ChecksSo digest end before new
check_fails digest number result fault end Holds before now new so_far is ends reads =
    (Err fault, ends, reading_fails digest number result fault Holds before now new so_far is reads)

pub check_nothing : (digest : List ℕ) (number : ℕ) (result : Result (Option (List ℕ)) ShelfFault)
    (found : Option (List ℕ)) (Holds : List ℕ → Type 0) (before now new : ShelfState)
    → Reading digest number Holds before now → result ≡ Ok found → found ≡ None
    → Reads digest (number * 65536) result now new → ChecksSo digest (Ok None) before new
check_nothing digest number result found Holds before now new so_far is none reads =
    (Ok None, refl, reading_nothing digest number result found Holds before now new so_far is none reads)

-- memory ran out behind a piece
pub check_stops : (digest : List ℕ) (number : ℕ) (Holds : List ℕ → Type 0) (before now : ShelfState)
    (end : Result (Option Checked) ShelfFault) → Reading digest number Holds before now → end ≡ Err shelf.Memory
    → ChecksSo digest end before now
check_stops digest number Holds before now end so_far is = (
  Err shelf.Memory,
  is,
  reading_stops digest number Holds before now so_far,
)
