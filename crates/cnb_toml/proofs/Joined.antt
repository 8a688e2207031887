-- How a loop that reads one value after another answers what the definition says of all of them.
use Rattle.std.proofs.Common.{◌≡◌, List, [], ◌∷◌, ◌++◌, Result, Ok, Err, refl, ap, sym, append_assoc}
use Rattle.cnb_toml.specs.declared.fault.DocFault.{DocFault}
use Rattle.cnb_toml.specs.Reading.{◌>>=◌}

-- what was read so far, before what the rest is read as
abbrev pub joined : {A : Type 0} → List A → Result (List A) DocFault → Result (List A) DocFault
joined done (Ok rest) = Ok (done ++ rest)
joined done (Err fault) = Err fault

pub joined-none : {A : Type 0} (r : Result (List A) DocFault) → joined [] r ≡ r
joined-none (Ok rest) = refl
joined-none (Err fault) = refl

pub joined-one : {A : Type 0} (done : List A) (a : A) (r : Result (List A) DocFault)
    → joined done (r >>= (λ rest. Ok (a ∷ rest))) ≡ joined (done ++ a ∷ []) r
joined-one done a (Ok rest) = ap Ok (sym (append_assoc done (a ∷ []) rest))
joined-one done a (Err fault) = refl
