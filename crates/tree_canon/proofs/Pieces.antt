-- What a decoder does with a piece: it has read the front of it.
use Rattle.std.proofs.Common.{◌≡◌, ℕ, ◌-◌, ◌<◌, ◌≤◌, ◌∙◌, List, [], ◌∷◌, ◌++◌, length, take, reverse, append_assoc, sym}
use Rattle.std.proofs.Common.{ap, subst}
use Rattle.std.proofs.lemmas.List.{append-nil, take-append-le}
use Rattle.tree_canon.specs.declared.event.Event.{Event}
use Rattle.tree_canon.specs.declared.fault.Reason.{Reason}
use Rattle.tree_canon.specs.declared.scanner.Scanner.{Scanner}
use Rattle.tree_canon.specs.declared.building.Building.{Building}
use Rattle.tree_canon.specs.Reading.{State, Stuck, Going, run}
use Rattle.tree_canon.specs.Scanning.{place, bytes_taken, field_width, kept_width, IsSmallPlace, IsSmall, IsAt}
use Rattle.tree_canon.specs.Events.{Told, Closed, told}
use Rattle.tree_canon.specs.Telling.{HasTold}
use Rattle.tree_canon.specs.Making.{made_none, made_from}
use Rattle.tree_canon.specs.Decoding.{made, HasMade, HasSamePlace}
use Rattle.tree_canon.proofs.Reach.{run-append}
use Rattle.tree_canon.proofs.CutMoves.{stuck_stays}
use Rattle.tree_canon.proofs.Tells.{close_told}
use Rattle.tree_canon.proofs.Making.{made_from-append}

-- ---- what is told is added

pub adds : (s t : Scanner) (b d : Building) (bytes taken : List ℕ) (facts : List Told) (h : HasMade s b bytes)
    → HasTold t (bytes ++ taken) (h.given ++ facts) → made d ≡ made_from (made b) facts
    → HasMade t d (bytes ++ taken)
adds s t b d bytes taken facts h tells added = record {
  given = h.given ++ facts;
  told = tells;
  is = added ∙ ap (λ m. made_from m facts) h.is ∙ sym (made_from-append made_none h.given facts);
}

-- the end of a folder
pub adds_close : (s t : Scanner) (b d : Building) → 0 < s.owed → t.at ≡ s.at → t.folders ≡ s.folders
    → t.next ≡ s.next → t.part ≡ s.part → t.owed ≡ s.owed - 1 → made d ≡ made_from (made b) (Closed ∷ [])
    → (bytes : List ℕ) → HasMade s b bytes → HasMade t d bytes
adds_close s t b d some at folders next part owed added bytes h =
    subst (HasMade t d) (append-nil bytes) (adds s t b d bytes [] (Closed ∷ []) h
    (close_told s t bytes h.given h.told some at folders next part owed) added)

-- ---- two scanners at one place

pub beside_at : (s t : Scanner) → HasSamePlace s t → (state : State) → IsAt s state → IsAt t state
beside_at s t same (Stuck at reason) h = h
beside_at s t same (Going at c part) h = record {
  at = same.at ∙ h.at;
  folders = ap (λ v. reverse v.items) same.folders ∙ h.folders;
  next = same.next ∙ h.next;
  part = ap (λ v. v.items) same.part ∙ h.part;
  partial = h.partial;
}

pub beside_partial : (s t : Scanner) → HasSamePlace s t → bytes_taken s.next s.part.items < field_width s.next
    → bytes_taken t.next t.part.items < field_width t.next
beside_partial s t same h =
    subst (λ f. bytes_taken f t.part.items < field_width f) (sym same.next)
    (subst (λ v. bytes_taken s.next v.items < field_width s.next) (sym same.part) h)

pub beside_small : (s t : Scanner) → HasSamePlace s t → IsSmall s → IsSmall t
beside_small s t same h = record {
  place = subst (λ f. IsSmallPlace (place (reverse t.folders.items) f)) (sym same.next)
      (subst (λ v. IsSmallPlace (place (reverse v.items) s.next)) (sym same.folders) h.place);
  part = subst (λ f. length t.part.items ≤ kept_width f) (sym same.next)
      (subst (λ v. length v.items ≤ kept_width s.next) (sym same.part) h.part);
}

-- ---- over the front of a piece

-- the bytes that were taken of those that were given
pub taken_is : (used : ℕ) (rest input behind taken : List ℕ) → rest ≡ input ++ behind → used ≤ length input
    → taken ≡ take used rest → take used input ≡ taken
taken_is used rest input behind taken parts within is = sym (take-append-le used input behind within)
    ∙ ap (take used) (sym parts) ∙ sym is

-- an event is added, with them
pub adds_event : (s t : Scanner) (b d : Building) (e : Event) (front taken : List ℕ) → front ≡ taken
    → ((bytes : List ℕ) (given : List Told) → HasTold s bytes given
    → HasTold t (bytes ++ front) (given ++ told e front))
    → made d ≡ made_from (made b) (told e taken) → (bytes : List ℕ) → HasMade s b bytes → HasMade t d (bytes ++ taken)
adds_event s t b d e front taken same tells added bytes h =
    adds s t b d bytes taken (told e taken) h (subst
    (λ (x : List ℕ). HasTold t (bytes ++ x) (h.given ++ told e x)) same (tells bytes h.given h.told)) added

-- from one scanner and tree under way to others, over the front of a piece, of which a rest is left
pub record HasReadOn (s t : Scanner) (b d : Building) (piece rest : List ℕ) : Type 0 where
  pub front : List ℕ
  pub is : piece ≡ front ++ rest
  pub runs : (state : State) → IsAt s state → IsAt t (run state front)
  pub makes : (bytes : List ℕ) → HasMade s b bytes → HasMade t d (bytes ++ front)

pub read_more : (s t u : Scanner) (b d e : Building) (piece rest taken behind : List ℕ)
    → HasReadOn s t b d piece rest → rest ≡ taken ++ behind
    → ((state : State) → IsAt t state → IsAt u (run state taken))
    → ((bytes : List ℕ) → HasMade t d bytes → HasMade u e (bytes ++ taken))
    → HasReadOn s u b e piece behind
read_more s t u b d e piece rest taken behind h parts runs makes = record {
  front = h.front ++ taken;
  is = h.is ∙ ap (λ x. h.front ++ x) parts ∙ sym (append_assoc h.front taken behind);
  runs = λ state at. subst (IsAt u) (sym (run-append state h.front taken)) (runs (run state h.front) (h.runs state at));
  makes = λ bytes m. subst (HasMade u e) (append_assoc bytes h.front taken)
      (makes (bytes ++ h.front) (h.makes bytes m));
}

pub read_stuck : (s t : Scanner) (b d : Building) (piece rest input behind : List ℕ) (place : ℕ) (reason : Reason)
    → HasReadOn s t b d piece rest → rest ≡ input ++ behind
    → ((state : State) → IsAt t state → run state input ≡ Stuck place reason) → (state : State) → IsAt s state
    → run state piece ≡ Stuck place reason
read_stuck s t b d piece rest input behind place reason h parts stuck state at =
    ap (run state) (h.is ∙ ap (λ x. h.front ++ x) parts) ∙ run-append state h.front (input ++ behind)
    ∙ run-append (run state h.front) input behind
    ∙ ap (λ x. run x behind) (stuck (run state h.front) (h.runs state at)) ∙ stuck_stays place reason behind
