-- Bytes that are hashed and decoded as they come.
use Rattle.std.proofs.Common.{◌≡◌, ℕ, ◌∙◌, List, ◌++◌, sym, ap, subst, append_assoc, Result, Ok, Err, inl, inr}
use Rattle.tree_canon.specs.declared.fault.DecodeFault.{DecodeFault}
use Rattle.tree_canon.specs.declared.fault.DecodeFault.TheVariants as faults
use Rattle.tree_canon.specs.declared.fault.Reason.{Reason}
use Rattle.tree_canon.specs.declared.node.Node.{Node}
use Rattle.tree_canon.specs.CutTree.{cut_bytes}
use Rattle.tree_canon.specs.Division.{Spells, IsBroken}
use Rattle.tree_canon.specs.Feeding.{Fed, Feeds, Ends, IsBad}
use Rattle.tree_canon.specs.Judging.{IsFed}

-- more bytes mend no field
broken_more : (bytes more : List ℕ) (at : ℕ) (reason : Reason) → IsBroken bytes at reason
    → IsBroken (bytes ++ more) at reason
broken_more bytes more at reason h = record {
  cut = h.cut;
  field = h.field;
  rest = h.rest ++ more;
  sound = h.sound;
  place = h.place;
  is = ap (λ b. b ++ more) h.is ∙ append_assoc (cut_bytes h.cut) (h.field ++ h.rest) more
      ∙ ap (λ b. cut_bytes h.cut ++ b) (append_assoc h.field h.rest more);
  whole = h.whole;
  breaks = h.breaks;
}

pub fed_on : (old new : Fed) (bytes piece : List ℕ) → Feeds old piece (Ok tt) new → IsFed bytes old
    → IsFed (bytes ++ piece) new
fed_on (Ok fed) new bytes piece h is = subst (IsFed (bytes ++ piece)) (sym h.1) (ap (λ b. b ++ piece) is)
fed_on (Err fault) new bytes piece h is = absurd (cc)

pub fed_broken : (old new : Fed) (bytes piece : List ℕ) (at : ℕ) (reason : Reason)
    → Feeds old piece (Err (faults.Bad at reason)) new → IsFed bytes old → IsFed (bytes ++ piece) new
fed_broken (Ok fed) new bytes piece at reason h is = subst (IsFed (bytes ++ piece)) (sym h.1)
    (subst (λ b. IsBroken (b ++ piece) at reason) is h.0)
fed_broken (Err (faults.Bad place why)) new bytes piece at reason h is = subst (IsFed (bytes ++ piece)) (sym h.1)
    (broken_more bytes piece place why is)
fed_broken (Err faults.Memory) new bytes piece at reason h is = absurd is

pub ended_well : (fed : Fed) (bytes : List ℕ) (tree : Node) → IsFed bytes fed → Ends fed (Ok tree) → Spells tree bytes
ended_well (Ok fed) bytes tree is h = subst (Spells tree) is h
ended_well (Err (faults.Bad at reason)) bytes tree is h = absurd (cc)
ended_well (Err faults.Memory) bytes tree is h = absurd is

place_of : DecodeFault → ℕ
place_of (faults.Bad at reason) = at
place_of faults.Memory = 0

why_of : Reason → DecodeFault → Reason
why_of other (faults.Bad at reason) = reason
why_of other faults.Memory = other

fault_of : {T : Type 0} → DecodeFault → Result T DecodeFault → DecodeFault
fault_of other (Ok value) = other
fault_of other (Err fault) = fault

pub ended_badly : (fed : Fed) (bytes : List ℕ) (at : ℕ) (reason : Reason) → IsFed bytes fed
    → Ends fed (Err (faults.Bad at reason)) → (place : ℕ) × IsBad bytes place reason
unfolding place_of why_of fault_of
ended_badly (Ok fed) bytes at reason is h = (
  at,
  subst (λ b. IsBad b at reason) is
      (inr (h.0, ap place_of h.1, ap (why_of reason) h.1)),
)
ended_badly (Err (faults.Bad place why)) bytes at reason is h =
    let same : faults.Bad at reason ≡ faults.Bad place why = ap (fault_of (faults.Bad at reason)) h in
    (place, inl (subst (IsBroken bytes place) (sym (ap (why_of reason) same)) is))
ended_badly (Err faults.Memory) bytes at reason is h = absurd is
