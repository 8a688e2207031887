-- Bytes of which each is in range.
use Rattle.std.proofs.Common.{◌≡◌, ℕ, suc, ◌≤◌, nat_lt, true, List, [], ◌∷◌, slice_index, refl, arith}
use Rattle.std.specs.List.{list_all}
use Rattle.std.proofs.lemmas.Bool.{and_from, lt-ltb}

pub all_in_range : (bytes : List ℕ) → ((i : ℕ) → slice_index bytes i ≤ 255)
    → list_all (λ byte. nat_lt byte 256) bytes ≡ true
all_in_range [] each = refl
all_in_range (byte ∷ bytes) each = and_from _ _ (lt-ltb byte 256 (omega (arith, each 0)))
    (all_in_range bytes (λ i. each (suc i)))
