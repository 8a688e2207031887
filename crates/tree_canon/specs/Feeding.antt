-- What a decoder was fed, and what its calls answer.
use Rattle.std.specs.Prelude.{◌≡◌, ◌⊎◌, ℕ, ◌++◌, List, length, Result, Ok, Err}
use Rattle.tree_canon.specs.declared.node.Node.{Node}
use Rattle.tree_canon.specs.declared.fault.Reason.{Reason}
use Rattle.tree_canon.specs.declared.fault.Reason.TheVariants as reasons
use Rattle.tree_canon.specs.declared.fault.DecodeFault.{DecodeFault}
use Rattle.tree_canon.specs.declared.fault.DecodeFault.TheVariants as faults
use Rattle.tree_canon.specs.Division.{Spells, IsBroken, IsShort}

-- the bytes that a decoder was fed, while nothing in them is broken, and else the fault that it keeps
abbrev pub Fed : Type 0
Fed = Result (List ℕ) DecodeFault

-- no field of the bytes is broken
abbrev pub IsUnbroken : List ℕ → Type 0
IsUnbroken bytes = (at : ℕ) (reason : Reason) → IsBroken bytes at reason → ⊥

-- What `feed` answers to these bytes, of which the last came in this call, and what it leaves.
abbrev pub FeedsTo : List ℕ → Result Unit DecodeFault → Fed → Type 0
FeedsTo bytes (Ok done) new = IsUnbroken bytes × (new ≡ Ok bytes)
FeedsTo bytes (Err (faults.Bad at reason)) new = IsBroken bytes at reason × (new ≡ Err (faults.Bad at reason))
FeedsTo bytes (Err faults.Memory) new = new ≡ Err faults.Memory

-- What `feed` answers and leaves: a fault stays.
abbrev pub Feeds : Fed → List ℕ → Result Unit DecodeFault → Fed → Type 0
Feeds (Ok fed) piece result new = FeedsTo (fed ++ piece) result new
Feeds (Err fault) piece result new = (result ≡ Err fault) × (new ≡ Err fault)

-- what `finish` answers to these bytes: the tree that they spell, and else that they are short
abbrev pub EndsTo : List ℕ → Result Node DecodeFault → Type 0
EndsTo bytes (Ok tree) = Spells tree bytes
EndsTo bytes (Err fault) = IsShort bytes × (fault ≡ faults.Bad (length bytes) reasons.Short)

-- what `finish` answers: a fault stays
abbrev pub Ends : Fed → Result Node DecodeFault → Type 0
Ends (Ok fed) result = EndsTo fed result
Ends (Err fault) result = result ≡ Err fault

-- where and why bytes spell no tree: at a field that breaks its rule, or at their end, which comes too early
abbrev pub IsBad : List ℕ → ℕ → Reason → Type 0
IsBad bytes at reason = IsBroken bytes at reason ⊎ (IsShort bytes × (at ≡ length bytes) × (reason ≡ reasons.Short))

-- what decoding whole bytes answers: the tree that they spell, and else why there is none
abbrev pub DecodesTo : List ℕ → Result Node DecodeFault → Type 0
DecodesTo bytes (Ok tree) = Spells tree bytes
DecodesTo bytes (Err (faults.Bad at reason)) = IsBad bytes at reason
DecodesTo bytes (Err faults.Memory) = Unit {0}
