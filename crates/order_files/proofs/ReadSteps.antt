-- A document that was read, and what comes of it alone.
use Rattle.std.proofs.Common.{◌≡◌, sym, subst, Option, Some, None, Result, Ok}
use Rattle.std.specs.Prelude.{IfSome}
use Rattle.cnb_world.specs.Steps.{◌>>=◌}
use Rattle.cnb_world.specs.Tree.{Tree}
use Rattle.steps.specs.Causes.{IsAnswer}
use Rattle.doc_files.specs.Faults.{read_cause}
use Rattle.doc_files.specs.declared.fault.ReadFault.{ReadFault}

pub read_then : {A B : Type 0} (first : Tree → Result A ReadFault) (next : A → Result B ReadFault)
    (o : Option Tree) (value : A) (result : Result B ReadFault)
    → IfSome o (λ files. first files ≡ Ok value) → IsAnswer read_cause result (next value)
    → IfSome o (λ files. IsAnswer read_cause result (first files >>= next))
read_then first next None value result h k = tt
read_then {A = A} first next (Some files) value result h k = let Q : Result A ReadFault
    → Type 0 = λ x. IsAnswer read_cause result (x >>= next) in subst Q (sym h) k
