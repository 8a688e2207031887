-- Lists of answers, where all are there.
use Rattle.std.proofs.Common.{◌≡◌, Option, Some, None, List, [], ◌∷◌, ◌++◌, append_assoc, ap, refl, sym}
use Rattle.cnb_words.specs.Options.{in_front}

-- what is done in front of the rest
abbrev pub behind : {T : Type 0} → List T → Option (List T) → Option (List T)
behind done None = None
behind done (Some rest) = Some (done ++ rest)

pub behind-in_front : {T : Type 0} (done : List T) (one : T) (rest : Option (List T))
    → behind done (in_front (Some one) rest) ≡ behind (done ++ one ∷ []) rest
behind-in_front done one None = refl
behind-in_front done one (Some rest) = ap Some (sym (append_assoc done (one ∷ []) rest))
