-- Counts over one step after another.
use Rattle.std.proofs.Common.{◌≡◌, subst, arith, ℕ, List, Option, Result, Err}
use Rattle.cnb_world.specs.Calls.{Rose}
use Rattle.steps.specs.Causes.{CountsFiles, IsReadCause}
use Rattle.doc_files.specs.Faults.{read_cause}
use Rattle.doc_files.specs.declared.fault.ReadFault.{ReadFault}
use Rattle.doc_files.specs.declared.fault.ReadFault.TheVariants.{File, Document, Limit, Memory}

-- a count that stayed, and then counts as it is
pub counts_after : (T : Type 0) (result : Result T ReadFault) (before now : ℕ) → now ≡ before
    → ((n : ℕ) → CountsFiles read_cause result n n) → CountsFiles read_cause result before now
counts_after T result before now e h = subst (λ n. CountsFiles read_cause result n now) e (h now)

-- an answer that no call on files was made for has no path of a call
pub names_none : (fault : ReadFault) (last : Option (List ℕ))
    → ((n : ℕ) → CountsFiles {A = ℕ} read_cause (Err fault) n n) → IsReadCause last (read_cause fault)
names_none (File path) last h = let rose : Rose 0 0 = h 0 in let up = rose.up in absurd (omega arith)
names_none (Document path fault) last h = tt
names_none (Limit kind) last h = tt
names_none Memory last h = tt
