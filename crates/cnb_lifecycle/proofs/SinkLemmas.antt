-- What a sink took, piece by piece.
use Rattle.std.proofs.Common.{◌≡◌, ◌∙◌, refl, sym, ap, ℕ, ◌+◌, List, ◌++◌, take, drop, Option, Some, None, append_assoc}
use Rattle.std.proofs.Math.Seq.{take-add}
use Rattle.std.specs.Option.{option_map}
use Rattle.cnb_lifecycle.specs.Printing.{Adds}

pub adds_more : (o o1 o2 : Option (List ℕ)) (n m : ℕ) (text rest : List ℕ) → rest ≡ drop n text
    → Adds o o1 (take n text) → Adds o1 o2 (take m rest) → Adds o o2 (take (n + m) text)
adds_more o o1 o2 n m text rest same first second =
    second ∙ ap (λ r. option_map (λ t. t ++ take m r) o1) same
    ∙ ap (option_map (λ t. t ++ take m (drop n text))) first ∙ by o
  where
    by : (o : Option (List ℕ)) → option_map (λ t. t ++ take m (drop n text))
        (option_map (λ t. t ++ take n text) o) ≡ option_map (λ t. t ++ take (n + m) text) o
    by None = refl
    by (Some t) = ap Some (append_assoc t (take n text) (take m (drop n text))
        ∙ ap (λ rest. t ++ rest) (sym (take-add n m text)))
