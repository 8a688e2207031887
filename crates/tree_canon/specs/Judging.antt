-- Bytes that were kept under a digest.
use Rattle.std.specs.Prelude.{◌≡◌, ◌≢◌, ℕ, List, Option, None, Some, Ok, Err}
use Rattle.sha2.specs.Hashers.{Holds256}
use Rattle.sha2.specs.Sha256.{sha256}
use Rattle.tree_canon.specs.declared.fault.DecodeFault.TheVariants as faults
use Rattle.tree_canon.specs.declared.fault.Reason.{Reason}
use Rattle.tree_canon.specs.declared.judging.Judged.{Judged}
use Rattle.tree_canon.specs.declared.judging.Judged.TheVariants.{Tree, Damaged}
use Rattle.tree_canon.specs.declared.judging.Judging.{Judging}
use Rattle.tree_canon.specs.Division.{IsBroken, Spells}
use Rattle.tree_canon.specs.Feeding.{Fed, IsBad}

-- why the bytes are no tree of this digest: they have another one, which is judged first, or spell no tree
abbrev pub IsDamage : List ℕ → List ℕ → Option Reason → Type 0
IsDamage digest bytes None = sha256 bytes ≢ digest
IsDamage digest bytes (Some reason) = (sha256 bytes ≡ digest) × (at : ℕ) × IsBad bytes at reason

-- what bytes under a digest are
abbrev pub IsJudged : List ℕ → List ℕ → Judged → Type 0
IsJudged digest bytes (Tree tree) = (sha256 bytes ≡ digest) × Spells tree bytes
IsJudged digest bytes (Damaged asked found bad) = (asked ≡ digest) × (found ≡ sha256 bytes) × IsDamage digest bytes bad

-- the decoder was fed these bytes, or it found a field of them broken
abbrev pub IsFed : List ℕ → Fed → Type 0
IsFed bytes (Ok fed) = fed ≡ bytes
IsFed bytes (Err (faults.Bad at reason)) = IsBroken bytes at reason
IsFed bytes (Err faults.Memory) = ⊥

-- the bytes were hashed and decoded
abbrev pub HasTaken : Judging → List ℕ → Type 0
HasTaken judging bytes = Holds256 judging.hasher bytes × IsFed bytes judging.decoder
